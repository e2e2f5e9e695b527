use Rattle.std.proofs.Common.{◌≤◌, length}
use Rattle.amdl_parser.proofs.Loops.{Gathering}
use Rattle.schedule_text.specs.Readings.{starts_step, step_at, steps_at}
use Rattle.schedule_text.proofs.primitive.Tokens.steps.Given as goal

abbrev pub invariant-loop-alloc : goal.invariant-loop-alloc
invariant-loop-alloc l = record {
  gathering : Gathering steps_at starts_step step_at l.fn.self.left.now l.self.left.now l.steps;
  shorter : length l.self.left.now ≤ length l.fn.self.left.now;
}

abbrev pub decreases-loop-alloc : goal.decreases-loop-alloc
decreases-loop-alloc l = length l.self.left.now
