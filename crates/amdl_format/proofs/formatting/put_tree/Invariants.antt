use Rattle.std.proofs.Common.{◌≡◌, ◌++◌, drop}
use Rattle.std.specs.List.{flat_map}
use Rattle.amdl_tree.specs.Layout.{layout_of_item, layout_of_tree, line}
use Rattle.amdl_format.specs.Fronts.{KeepsFronts}
use Rattle.amdl_format.proofs.formatting.put_tree.Given as goal

abbrev pub invariant-loop-item : goal.invariant-loop-item
invariant-loop-item l = record {
  text : l.out.items ++ flat_map (λ item. line (layout_of_item item)) (drop l.item-index l.tree.items) ≡ l.fn.out.items
      ++ layout_of_tree l.tree;
  kept : KeepsFronts l.fn.out.items l.out.items;
}
