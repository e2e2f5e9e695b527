use Rattle.std.proofs.Common.{◌-◌, ◌^◌, ◌≤◌}
use Rattle.query_tables.specs.Search.{HasNone, IsInBoth}
use Rattle.query_tables.proofs.search.common_from.Given as goal

abbrev pub invariant-loop-first : goal.invariant-loop-first
invariant-loop-first l = record {
  from : l.fn.from ≤ l.low;
  none : HasNone (IsInBoth l.one l.other) l.fn.from l.low;
}

abbrev pub decreases-loop-first : goal.decreases-loop-first
decreases-loop-first l = 2 ^ 32 - l.low
