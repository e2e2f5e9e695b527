use Rattle.std.proofs.Common.{◌≡◌, take}
use Rattle.amdl_tree.specs.Items.{sends_items}
use Rattle.tree_network.specs.Reads.{patterns_back}
use Rattle.tree_network.proofs.items.sends_items.Given as goal

abbrev pub invariant-loop-item : goal.invariant-loop-item
invariant-loop-item l = patterns_back l.patterns ≡ sends_items (take l.item-index l.items)
