use Rattle.std.proofs.Common.{◌≡◌, drop}
use Rattle.tree_plan.specs.Names.{all_some, values_named}
use Rattle.tree_plan.specs.Tables.{kinds_back}
use Rattle.tree_plan.proofs.StepLemmas.{with_front}
use Rattle.class_rules.proofs.sizes.sizes_of.Given as goal

-- the sizes so far stand in front of the others
abbrev pub invariant-loop-name : goal.invariant-loop-name
invariant-loop-name l =
    all_some (values_named (kinds_back l.kinds)) l.names
    ≡ with_front l.sizes (all_some (values_named (kinds_back l.kinds)) (drop l.name-index l.names))
