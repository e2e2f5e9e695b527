use Rattle.std.proofs.Common.{◌≡◌, take}
use Rattle.amdl_tree.specs.Items.{link_items}
use Rattle.tree_network.specs.Reads.{links_back}
use Rattle.tree_network.proofs.items.link_items.Given as goal

abbrev pub invariant-loop-item : goal.invariant-loop-item
invariant-loop-item l = links_back l.links ≡ link_items (take l.item-index l.items)
