use Rattle.std.proofs.Common.{◌≡◌, ◌++◌, codes, drop}
use Rattle.amdl_tree.specs.Layout.{layout_of_atom, layout_of_first}
use Rattle.amdl_format.specs.Fronts.{KeepsFronts}
use Rattle.amdl_format.specs.Lines.{led}
use Rattle.amdl_format.proofs.parts.put_first.Given as goal

abbrev pub invariant-loop-atom : goal.invariant-loop-atom
invariant-loop-atom l = record {
  text : l.out.items ++ led l.before (codes ", ") layout_of_atom (drop l.atom-index l.first) ≡ l.fn.out.items
      ++ layout_of_first l.first;
  kept : KeepsFronts l.fn.out.items l.out.items;
}
