use Rattle.std.proofs.Common.{◌≡◌, take}
use Rattle.amdl_tree.specs.Items.{box_items}
use Rattle.tree_network.specs.Reads.{boxes_back}
use Rattle.tree_network.proofs.items.box_items.Given as goal

abbrev pub invariant-loop-item : goal.invariant-loop-item
invariant-loop-item l = boxes_back l.boxes ≡ box_items (take l.item-index l.items)
