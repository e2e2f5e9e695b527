use Rattle.std.proofs.Common.{◌≡◌, drop}
use Rattle.tree_plan.specs.Names.{all_some}
use Rattle.tree_plan.specs.Net.{box_of}
use Rattle.tree_plan.specs.Tables.{kinds_back}
use Rattle.tree_network.specs.Reads.{classes_back, boxes_back}
use Rattle.tree_plan.proofs.StepLemmas.{with_front}
use Rattle.tree_network.proofs.boxes.boxes_of.Given as goal

-- the boxes so far stand in front of the others
abbrev pub invariant-loop-item : goal.invariant-loop-item
invariant-loop-item l =
    all_some (box_of (kinds_back l.kinds) (classes_back l.classes)) (boxes_back l.items)
    ≡ with_front l.boxes (all_some (box_of (kinds_back l.kinds) (classes_back l.classes))
    (boxes_back (drop l.item-index l.items)))
