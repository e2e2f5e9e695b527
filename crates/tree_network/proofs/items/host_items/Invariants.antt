use Rattle.std.proofs.Common.{◌≡◌, take}
use Rattle.amdl_tree.specs.Items.{host_items}
use Rattle.tree_network.proofs.items.host_items.Given as goal

abbrev pub invariant-loop-item : goal.invariant-loop-item
invariant-loop-item l = l.hosts ≡ host_items (take l.item-index l.items)
