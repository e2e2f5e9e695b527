use Rattle.std.proofs.Common.{◌≡◌, take}
use Rattle.handler_runs.proofs.acts.with_value.Given as goal

abbrev pub invariant-loop-other : goal.invariant-loop-other
invariant-loop-other l = l.within ≡ take l.other-index l.picked
