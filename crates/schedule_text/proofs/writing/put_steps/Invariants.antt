use Rattle.std.proofs.Common.{◌≡◌, ◌++◌, drop}
use Rattle.std.specs.List.{flat_map}
use Rattle.schedule_text.specs.Fronts.{KeepsFronts}
use Rattle.schedule_text.specs.Written.{line_of_step, text_of_steps}
use Rattle.schedule_text.proofs.writing.put_steps.Given as goal

abbrev pub invariant-loop-step : goal.invariant-loop-step
invariant-loop-step l = record {
  text : l.out.items ++ flat_map (line_of_step l.net) (drop l.step-index l.steps) ≡ l.fn.out.items
      ++ text_of_steps l.net l.steps;
  kept : KeepsFronts l.fn.out.items l.out.items;
}
