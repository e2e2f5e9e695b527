use Rattle.std.proofs.Common.{◌≡◌, ◌+◌, map}
use Rattle.std.specs.List.{range_with_len}
use Rattle.net_plan.specs.Kept.{first_state}
use Rattle.net_plan.proofs.tables.first_states_of.Given as goal

abbrev pub invariant-loop-boxed : goal.invariant-loop-boxed
invariant-loop-boxed l = record {
  made : l.states ≡ map (first_state l.plan) (range_with_len 0 (l.boxed-index + 1));
  last : l.cell ≡ first_state l.plan l.boxed-index;
}
