use Rattle.std.proofs.Common.{◌≡◌, take}
use Rattle.amdl_tree.specs.Items.{class_items}
use Rattle.tree_network.specs.Reads.{classes_back}
use Rattle.tree_network.proofs.items.class_items.Given as goal

abbrev pub invariant-loop-item : goal.invariant-loop-item
invariant-loop-item l = classes_back l.classes ≡ class_items (take l.item-index l.items)
