use Rattle.std.proofs.Common.{◌≡◌, ◌++◌}
use Rattle.amdl_format.specs.Fronts.{KeepsFronts}
use Rattle.amdl_format.specs.Lines.{blanks}
use Rattle.amdl_format.proofs.append.put_blanks.Given as goal

abbrev pub invariant-loop : goal.invariant-loop
invariant-loop l = record {
  text : l.out.items ≡ l.fn.out.items ++ blanks l.counter;
  kept : KeepsFronts l.fn.out.items l.out.items;
}
