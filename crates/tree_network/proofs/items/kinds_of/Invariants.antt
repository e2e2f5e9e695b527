use Rattle.std.proofs.Common.{◌≡◌, take}
use Rattle.amdl_tree.specs.Items.{kind_items}
use Rattle.tree_plan.specs.Tables.{kinds_back}
use Rattle.tree_network.proofs.items.kinds_of.Given as goal

abbrev pub invariant-loop-item : goal.invariant-loop-item
invariant-loop-item l = kinds_back l.kinds ≡ kind_items (take l.item-index l.items)
