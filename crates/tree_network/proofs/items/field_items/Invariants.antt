use Rattle.std.proofs.Common.{◌≡◌, take}
use Rattle.amdl_tree.specs.Items.{field_items}
use Rattle.tree_network.specs.Reads.{fields_back}
use Rattle.tree_network.proofs.items.field_items.Given as goal

abbrev pub invariant-loop-item : goal.invariant-loop-item
invariant-loop-item l = fields_back l.fields ≡ field_items (take l.item-index l.items)
