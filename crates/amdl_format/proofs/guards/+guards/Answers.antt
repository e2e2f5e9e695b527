use Rattle.std.proofs.Common.{◌≡◌, ℕ, List, ◌++◌, codes, refl, sym, ap, ◌∙◌}
use Rattle.amdl_tree.specs.Layout.{joined, layout_of_guard, layout_of_lit}
use Rattle.amdl_tree.specs.declared.guard.Lit.{Lit}
use Rattle.amdl_tree.proofs.AppendLemmas.{appended_after, then_text}
use Rattle.amdl_tree.proofs.LineLemmas.{guard_layout}
use Rattle.amdl_format.proofs.FormLemmas.{true_text, has_text, same_text, differ_text, not_text, group_text}
use Rattle.amdl_format.proofs.ListLemmas.{appended_as, led_joined, led_step_twice, led_done}
use Rattle.amdl_format.proofs.guards.+guards.Goals as goal

pub put_guard-loop-lits-preserved : goal.put_guard-loop-lits-preserved
put_guard-loop-lits-preserved t c =
    let any = c.as_slice-lits-items.ensures in record {
      text = led_step_twice c.loop-lits.before.now (codes " or ")
          (joined (codes " and ") layout_of_lit) c.args.guard.now.any c.loop-lits.lits-index c.lits-item.result
          c.loop-lits.out.items c.put_all.new.out.items c.put_conj.new.out.items _
          (rw any at c.loop-lits-test.true)
          (rw any at c.lits-item.is) c.loop-lits.invariant.text c.in_ok-put_all.ensures.ok
          (rw c.as_slice.ensures at c.in_ok-put_conj.ensures.ok);
      kept = λ front begun. c.put_conj.ensures.kept front
          (c.put_all.ensures.kept front (c.loop-lits.invariant.kept front begun));
    }

pub put_conj-loop-lit-preserved : goal.put_conj-loop-lit-preserved
put_conj-loop-lit-preserved t c = record {
  text = led_step_twice c.loop-lit.before.now
      (codes " and ") layout_of_lit c.args.lits.now c.loop-lit.lit-index c.lit-item.result
      c.loop-lit.out.items c.put_all.new.out.items c.put_lit.new.out.items _
      c.loop-lit-test.true c.lit-item.is c.loop-lit.invariant.text c.in_ok-put_all.ensures.ok
      c.in_ok-put_lit.ensures.ok;
  kept = λ front begun. c.put_lit.ensures.kept front
      (c.put_all.ensures.kept front (c.loop-lit.invariant.kept front begun));
}

pub put_guard-loop-lits-init : goal.put_guard-loop-lits-init
put_guard-loop-lits-init t c = record {
  text = ap (λ text. c.args.out.now.items ++ text)
      (led_joined (codes " or ") (joined (codes " and ") layout_of_lit) c.args.guard.now.any
      ∙ sym (guard_layout c.args.guard.now));
  kept = λ front begun. begun;
}

pub put_guard-returns-clause-ok : goal.put_guard-returns-clause-ok
put_guard-returns-clause-ok t c =
    led_done c.loop-lits.before.now (codes " or ")
    (joined (codes " and ") layout_of_lit) c.args.guard.now.any c.loop-lits.lits-index
    c.loop-lits.out.items _ (rw c.as_slice-lits-items.ensures at c.loop-lits-test.false) c.loop-lits.invariant.text

pub put_conj-loop-lit-init : goal.put_conj-loop-lit-init
put_conj-loop-lit-init t c = record {
  text = ap (λ text. c.args.out.now.items ++ text) (led_joined (codes " and ") layout_of_lit c.args.lits.now);
  kept = λ front begun. begun;
}

pub put_conj-returns-clause-ok : goal.put_conj-returns-clause-ok
put_conj-returns-clause-ok t c =
    led_done c.loop-lit.before.now (codes " and ") layout_of_lit c.args.lits.now c.loop-lit.lit-index
    c.loop-lit.out.items _ c.loop-lit-test.false c.loop-lit.invariant.text

pub put_denied-returns-clause-ok : goal.put_denied-returns-clause-ok
put_denied-returns-clause-ok t c =
    then_text c.put_lit.result c.args.out.now.items c.put_all.new.out.items c.put_lit.new.out.items (codes "not ")
    (layout_of_lit c.args.lit.now) _
    c.in_ok-put_all.ensures.ok refl c.put_lit.ensures.ok

pub put_group-returns-clause-ok : goal.put_group-returns-clause-ok
put_group-returns-clause-ok t c =
    let old = c.args.out.now.items in
    let text = layout_of_guard c.args.guard.now in
    then_text c.put_all-2.result old c.put_guard.new.out.items c.put_all-2.new.out.items
    (codes "(" ++ text) (codes ")") _
    (appended_after old c.put_all.new.out.items c.put_guard.new.out.items
    (codes "(") text c.in_ok-put_all.ensures.ok c.in_ok-put_guard.ensures.ok)
    refl c.put_all-2.ensures.ok

-- the text of a literal of this form
text_of_form : (lit form : Lit) (text : List ℕ) → lit ≡ form → layout_of_lit form ≡ text → layout_of_lit lit ≡ text
text_of_form lit form text same written = ap layout_of_lit same ∙ written

pub put_lit-returns-in-True-clause-ok : goal.put_lit-returns-in-True-clause-ok
put_lit-returns-in-True-clause-ok t c =
    appended_as c.put_all.result c.args.out.now.items c.put_all.new.out.items _ _
    (text_of_form _ _ _ c.in-True.is true_text) c.put_all.ensures.ok

pub put_lit-returns-in-Has-clause-ok : goal.put_lit-returns-in-Has-clause-ok
put_lit-returns-in-Has-clause-ok t c =
    appended_as c.put_has.result c.args.out.now.items c.put_has.new.out.items _ _
    (text_of_form _ _ _ c.in-Has.is (has_text c.in-Has.atom)) c.put_has.ensures.ok

pub put_lit-returns-in-Same-clause-ok : goal.put_lit-returns-in-Same-clause-ok
put_lit-returns-in-Same-clause-ok t c =
    appended_as c.put_compared.result c.args.out.now.items c.put_compared.new.out.items _ _
    (text_of_form _ _ _ c.in-Same.is (same_text _ _)) c.put_compared.ensures.ok

pub put_lit-returns-in-Differ-clause-ok : goal.put_lit-returns-in-Differ-clause-ok
put_lit-returns-in-Differ-clause-ok t c =
    appended_as c.put_compared-in-Differ.result c.args.out.now.items c.put_compared-in-Differ.new.out.items _ _
    (text_of_form _ _ _ c.in-Differ.is (differ_text _ _)) c.put_compared-in-Differ.ensures.ok

pub put_lit-returns-in-Not-clause-ok : goal.put_lit-returns-in-Not-clause-ok
put_lit-returns-in-Not-clause-ok t c =
    appended_as c.put_denied.result c.args.out.now.items c.put_denied.new.out.items _ _
    (text_of_form _ _ _ c.in-Not.is (not_text c.in-Not.inner)
    ∙ ap (λ lit. codes "not " ++ layout_of_lit lit) (sym c.value.ensures))
    c.put_denied.ensures.ok

pub put_lit-returns-in-Group-clause-ok : goal.put_lit-returns-in-Group-clause-ok
put_lit-returns-in-Group-clause-ok t c =
    appended_as c.put_group.result c.args.out.now.items c.put_group.new.out.items _ _
    (text_of_form _ _ _ c.in-Group.is (group_text c.in-Group.guard)) c.put_group.ensures.ok
