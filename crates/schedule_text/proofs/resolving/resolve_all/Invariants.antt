use Rattle.std.proofs.Common.{take}
use Rattle.schedule_text.specs.Resolved.{AllResolve}
use Rattle.schedule_text.proofs.resolving.resolve_all.Given as goal

abbrev pub invariant-loop-step : goal.invariant-loop-step
invariant-loop-step l = AllResolve l.net (take l.step-index l.steps) l.found
