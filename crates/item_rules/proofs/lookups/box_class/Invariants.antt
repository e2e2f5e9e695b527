use Rattle.std.proofs.Common.{◌≡◌, drop}
use Rattle.std.specs.List.{find}
use Rattle.std.specs.Option.{option_map}
use Rattle.amdl_tree.specs.Items.{box_items}
use Rattle.tree_plan.specs.Names.{same_name}
use Rattle.item_rules.specs.Found.{first_told, box_class_if}
use Rattle.item_rules.proofs.lookups.box_class.Given as goal

-- no item so far is the box
abbrev pub invariant-loop-item : goal.invariant-loop-item
invariant-loop-item l =
    option_map (λ box. box.class) (find (λ box. same_name l.name box.name) (box_items l.before))
    ≡ first_told (box_class_if l.name) (drop l.item-index l.before)
