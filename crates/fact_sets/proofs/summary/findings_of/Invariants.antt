use Rattle.std.proofs.Common.{◌≤◌, ◌-◌, length}
use Rattle.fact_sets.specs.Summary.{AreFindingsBelow, AreAtMost}
use Rattle.fact_sets.proofs.summary.findings_of.Given as goal

abbrev pub invariant-loop-cell : goal.invariant-loop-cell
invariant-loop-cell g l = record {
  found : AreFindingsBelow l.network (g.S.CellSet.marks l.set) l.from l.findings;
  few : AreAtMost l.from l.findings;
  within : l.from ≤ length (g.S.CellSet.marks l.set);
}

abbrev pub decreases-loop-cell : goal.decreases-loop-cell
decreases-loop-cell g l = length (g.S.CellSet.marks l.set) - l.from
