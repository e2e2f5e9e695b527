use Rattle.std.proofs.Common.{◌≡◌, Bool, true, false, List, inl, inr, sym, subst, ◌∙◌}
use Rattle.box_contents.specs.Contents.{same_entry}
use Rattle.box_contents.specs.declared.entry.Entry.{Entry}
use Rattle.move_table.specs.Marks.{StandsOutside}
use Rattle.move_table.proofs.OutsideLemmas.{stands_behind, stands_split}
use Rattle.move_table.proofs.marks.+stands_outside.Goals.{then-fixed-eq0, else-fixed-eq0}
use Rattle.move_table.proofs.marks.+stands_outside.Goals as goal

both : {P : Type 0} (b : Bool) → b ≡ true → b ≡ false → P
both b one two = absurd (let clash : true ≡ false = sym one ∙ two in cc)

pub returns-else-is_same : goal.returns-else-is_same
returns-else-is_same t c = (
  λ holds. subst (λ (l : List Entry). StandsOutside c.args.fixed l c.args.tuple) (sym c.in-Some.ensures.cases.0)
      (stands_behind c.args.fixed c.args.tuple c.in-Some.other.now c.in-Some.rest.now (c.stands_outside.ensures.0 holds)),
  λ there. elim (stands_split c.args.fixed c.args.tuple c.in-Some.other.now c.in-Some.rest.now
      (subst (λ (l : List Entry). StandsOutside c.args.fixed l c.args.tuple) c.in-Some.ensures.cases.0 there)) [
        | inl here ↦ elim c.if-fixed-eq0.branch [
          | then-fixed-eq0 w ↦ both (same_entry c.args.tuple c.in-Some.other.now) here.1
              (sym w.is_same.ensures ∙ sym w.value-is ∙ c.if-is_same.false)
          | else-fixed-eq0 w ↦ absurd (w.if-fixed-eq0.false here.0)
        ]
        | inr behind ↦ c.stands_outside.ensures.1 behind
      ],
)
