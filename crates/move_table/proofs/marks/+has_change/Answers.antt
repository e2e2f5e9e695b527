use Rattle.std.proofs.Common.{◌≡◌, ◌%◌, Bool, true, false, List, inl, inr, sym, subst, ◌∙◌, eqb}
use Rattle.std.proofs.lemmas.Bool.{eqb-true}
use Rattle.box_contents.specs.declared.entry.Entry.{Entry}
use Rattle.move_table.specs.Marks.{Changes, StandsOutside}
use Rattle.move_table.proofs.KeptLemmas.{not_false}
use Rattle.move_table.proofs.OutsideLemmas.{changes_behind, changes_split}
use Rattle.move_table.proofs.marks.+has_change.Goals.{then-fixed-eq1, else-fixed-eq1, then-w-after, else-w-after}
use Rattle.move_table.proofs.marks.+has_change.Goals as goal

both : {P : Type 0} (b : Bool) → b ≡ true → b ≡ false → P
both b one two = absurd (let clash : true ≡ false = sym one ∙ two in cc)

pub returns-else-stands_outside : goal.returns-else-stands_outside
returns-else-stands_outside t c =
    let P : Entry → Type 0 = StandsOutside c.args.queries c.args.others.now in
    let fixed = c.args.fixed in
    let w = c.args.w in
    let after = c.args.after in
    let first = c.in-Some.tuple.now in
    let rest = c.in-Some.rest.now in (
      λ holds. subst (λ (l : List Entry). Changes P fixed l w after) (sym c.in-Some.ensures.cases.0)
          (changes_behind P fixed w after first rest (c.has_change.ensures.0 holds)),
      λ there. elim (changes_split P fixed w after first rest
          (subst (λ (l : List Entry). Changes P fixed l w after) c.in-Some.ensures.cases.0 there)) [
            | inl here ↦ elim c.if-w-after.branch [
              | then-w-after x ↦ both x.stands_outside.result (x.stands_outside.ensures.1 here.2)
                  (sym x.value-is ∙ c.if-stands_outside.false)
              | else-w-after x ↦ elim c.if-fixed-eq1.branch [
                | then-fixed-eq1 y ↦ absurd (here.1 (eqb-true (w % 2) (after % 2)
                    (not_false (eqb (w % 2) (after % 2)) (sym y.value-is ∙ x.if-w-after.false))))
                | else-fixed-eq1 y ↦ absurd (y.if-fixed-eq1.false here.0)
              ]
            ]
            | inr behind ↦ c.has_change.ensures.1 behind
          ],
    )
