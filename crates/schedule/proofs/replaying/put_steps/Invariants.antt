use Rattle.std.proofs.Common.{take}
use Rattle.schedule_text.specs.Fronts.{KeepsFronts}
use Rattle.schedule.specs.Replays.{SoFar}
use Rattle.schedule.proofs.replaying.put_steps.Given as goal

abbrev pub invariant-loop-k : goal.invariant-loop-k
invariant-loop-k l = record {
  so_far : SoFar l.net l.fn.state l.state (take l.k l.steps) l.fn.out.items l.out.items l.bad;
  kept : KeepsFronts l.fn.out.items l.out.items;
}
