use Rattle.std.proofs.Common.{◌≡◌, drop}
use Rattle.amdl_tree.specs.Items.{kind_items}
use Rattle.tree_plan.specs.Names.{values_named}
use Rattle.item_rules.specs.Found.{first_told, size_if}
use Rattle.item_rules.proofs.lookups.kind_size.Given as goal

-- no item so far is the type
abbrev pub invariant-loop-item : goal.invariant-loop-item
invariant-loop-item l =
    values_named (kind_items l.before) l.name ≡ first_told (size_if l.name) (drop l.item-index l.before)
