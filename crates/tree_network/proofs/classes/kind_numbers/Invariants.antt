use Rattle.std.proofs.Common.{◌≡◌, drop}
use Rattle.tree_plan.specs.Names.{all_some, kind_number}
use Rattle.tree_plan.specs.Tables.{kinds_back}
use Rattle.tree_plan.proofs.StepLemmas.{with_front}
use Rattle.tree_network.proofs.classes.kind_numbers.Given as goal

-- the numbers so far stand in front of the others
abbrev pub invariant-loop-name : goal.invariant-loop-name
invariant-loop-name l =
    all_some (kind_number (kinds_back l.kinds)) l.names
    ≡ with_front l.numbers (all_some (kind_number (kinds_back l.kinds)) (drop l.name-index l.names))
