use Rattle.std.proofs.Common.{◌≡◌, drop}
use Rattle.tree_plan.specs.Names.{all_some}
use Rattle.tree_plan.specs.Net.{class_by}
use Rattle.tree_plan.specs.Tables.{kinds_back}
use Rattle.tree_network.specs.Reads.{classes_back}
use Rattle.tree_plan.proofs.StepLemmas.{with_front}
use Rattle.tree_network.proofs.classes.classes_of.Given as goal

-- the classes so far stand in front of the others
abbrev pub invariant-loop-class : goal.invariant-loop-class
invariant-loop-class l =
    all_some (class_by (kinds_back l.kinds) l.fields) (classes_back l.classes)
    ≡ with_front l.plans (all_some (class_by (kinds_back l.kinds) l.fields)
    (classes_back (drop l.class-index l.classes)))
