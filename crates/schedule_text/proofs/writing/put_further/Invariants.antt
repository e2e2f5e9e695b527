use Rattle.std.proofs.Common.{◌≡◌, ◌++◌, drop}
use Rattle.std.specs.List.{flat_map}
use Rattle.schedule_text.specs.Fronts.{KeepsFronts}
use Rattle.schedule_text.specs.Written.{further_text}
use Rattle.schedule_text.proofs.writing.put_further.Given as goal

abbrev pub invariant-loop-choice : goal.invariant-loop-choice
invariant-loop-choice l = record {
  text : l.out.items ++ flat_map further_text (drop l.choice-index l.choices) ≡ l.fn.out.items
      ++ flat_map further_text l.choices;
  kept : KeepsFronts l.fn.out.items l.out.items;
}
