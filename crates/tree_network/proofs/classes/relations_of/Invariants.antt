use Rattle.std.proofs.Common.{◌≡◌, drop}
use Rattle.tree_plan.specs.Names.{all_some}
use Rattle.tree_plan.specs.Net.{relation_of}
use Rattle.tree_plan.specs.Tables.{kinds_back}
use Rattle.tree_plan.proofs.StepLemmas.{with_front}
use Rattle.tree_network.proofs.classes.relations_of.Given as goal

-- the relations so far stand in front of the others
abbrev pub invariant-loop-relation : goal.invariant-loop-relation
invariant-loop-relation l =
    all_some (relation_of (kinds_back l.kinds)) l.relations
    ≡ with_front l.plans (all_some (relation_of (kinds_back l.kinds)) (drop l.relation-index l.relations))
