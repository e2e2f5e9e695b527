use Rattle.std.proofs.Common.{◌≡◌, ◌++◌, codes, drop}
use Rattle.amdl_tree.specs.Layout.{layout_of_change}
use Rattle.amdl_format.specs.Fronts.{KeepsFronts}
use Rattle.amdl_format.specs.Lines.{led}
use Rattle.amdl_format.proofs.parts.put_changes.Given as goal

abbrev pub invariant-loop-change : goal.invariant-loop-change
invariant-loop-change l = record {
  text : l.out.items ++ led l.before (codes ", ") layout_of_change (drop l.change-index l.changes) ≡ l.fn.out.items
      ++ led (codes " [") (codes ", ") layout_of_change l.changes;
  kept : KeepsFronts l.fn.out.items l.out.items;
}
