use Rattle.std.proofs.Common.{◌≡◌, ◌++◌, drop, map}
use Rattle.std.specs.List.{flat_map}
use Rattle.amdl_tree.specs.Layout.{layout_of_relation}
use Rattle.amdl_format.specs.Fronts.{KeepsFronts}
use Rattle.amdl_format.specs.Lines.{line_at, text_at}
use Rattle.amdl_format.proofs.items.put_relations.Given as goal

abbrev pub invariant-loop-relation : goal.invariant-loop-relation
invariant-loop-relation l = record {
  text : l.out.items
      ++ flat_map (λ relation. line_at 1 (layout_of_relation relation)) (drop l.relation-index l.relations)
      ≡ l.fn.out.items ++ text_at 1 (map layout_of_relation l.relations);
  kept : KeepsFronts l.fn.out.items l.out.items;
}
