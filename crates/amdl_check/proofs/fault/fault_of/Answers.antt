use Rattle.std.proofs.Common.{sym, subst, ◌∙◌}
use Rattle.tree_rules.specs.Checked.{KeepsEach}
use Rattle.amdl_check.specs.Seeing.{HasSeen}
use Rattle.amdl_check.proofs.FaultLemmas.{
  none_of,
  pushed,
  built_so_far,
  kept_so_far,
  fault_here,
  all_formed,
  all_lack,
}
use Rattle.amdl_check.proofs.fault.fault_of.Goals as goal

pub returns-in-Some : goal.returns-in-Some
returns-in-Some c =
    fault_here c.args.items.now c.loop-place.place c.index-items-place.result c.loop-place-test.true
    c.index-items-place.is c.rules_are_found.ensures c.loop-place.invariant.keeps c.in-Some.rule
    (sym c.in-Some.is ∙ c.in_ok-rule.ensures)

pub add-requires-clause-keeps : goal.add-requires-clause-keeps
add-requires-clause-keeps c =
    kept_so_far c.args.items.now c.loop-place.place c.index-items-place.result c.loop-place-test.true
    c.index-items-place.is c.rules_are_found.ensures c.loop-place.invariant.keeps
    (sym (none_of c.in_ok-rule.field-0 c.in_default.not-Some) ∙ c.in_ok-rule.ensures)

pub add-requires-clause-built : goal.add-requires-clause-built
add-requires-clause-built c =
    built_so_far c.args.items.now c.loop-place.place c.index-items-place.result c.loop-place-test.true
    c.index-items-place.is c.requires

pub loop-place-preserved : goal.loop-place-preserved
loop-place-preserved c =
    let next = pushed c.args.items.now c.loop-place.place c.index-items-place.result c.loop-place-test.true
    c.index-items-place.is in
    record {
      seen = subst (λ items. HasSeen items c.add.new.self) next c.in_ok-add.ensures;
      keeps =
          subst KeepsEach next
          (kept_so_far c.args.items.now c.loop-place.place c.index-items-place.result c.loop-place-test.true
          c.index-items-place.is c.rules_are_found.ensures c.loop-place.invariant.keeps
          (sym (none_of c.in_ok-rule.field-0 c.in_default.not-Some) ∙ c.in_ok-rule.ensures));
    }

pub returns-then-any_field : goal.returns-then-any_field
returns-then-any_field c =
    all_formed c.args.items.now c.loop-place.place c.loop-place-test.false c.loop-place.invariant.keeps
    c.rules_are_found.ensures c.any_field.result c.any_field.ensures c.if-any_field.true

pub returns : goal.returns
returns c =
    all_lack c.args.items.now c.loop-place.place c.loop-place-test.false c.loop-place.invariant.keeps
    c.any_field.result c.any_field.ensures c.if-any_field.false
