use Rattle.std.proofs.Common.{◌≡◌, ◌++◌, codes, drop, map}
use Rattle.amdl_tree.specs.Layout.{layout_of_equal, listed}
use Rattle.amdl_format.specs.Fronts.{KeepsFronts}
use Rattle.amdl_format.specs.Lines.{led}
use Rattle.amdl_format.proofs.parts.put_equals.Given as goal

abbrev pub invariant-loop-equal : goal.invariant-loop-equal
invariant-loop-equal l = record {
  text : l.out.items ++ led l.before (codes ", ") layout_of_equal (drop l.equal-index l.equals) ≡ l.fn.out.items
      ++ listed (map layout_of_equal l.equals);
  kept : KeepsFronts l.fn.out.items l.out.items;
}
