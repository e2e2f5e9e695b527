use Rattle.std.proofs.Common.{◌≡◌, ◌++◌, codes, drop}
use Rattle.amdl_tree.specs.Layout.{as_written, listed}
use Rattle.amdl_format.specs.Fronts.{KeepsFronts}
use Rattle.amdl_format.specs.Lines.{led}
use Rattle.amdl_format.proofs.parts.put_names.Given as goal

abbrev pub invariant-loop-name : goal.invariant-loop-name
invariant-loop-name l = record {
  text : l.out.items ++ led l.comma (codes ", ") as_written (drop l.name-index l.names) ≡ l.fn.out.items
      ++ listed l.names;
  kept : KeepsFronts l.fn.out.items l.out.items;
}
