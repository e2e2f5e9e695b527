-- Results as they stand in the code: one behind another.
use Rattle.std.specs.Prelude.{ℕ, ◌-◌, ◌≤◌, List, map, take, drop, length, All}
use Rattle.abstract_step.specs.declared.found.Ending.{Ending}
use Rattle.abstract_step.specs.declared.found.Found.{Found}
use Rattle.abstract_step.specs.declared.put.Put.{Put}
use Rattle.abstract_step.specs.Step.{Result}
use Rattle.box_masks.specs.declared.write.Write.{Write}

-- the members of a list from one place to another
abbrev pub between : {X : Type 0} → List X → ℕ → ℕ → List X
between xs from to = take (to - from) (drop from xs)

abbrev pub result_of : List Write → List Put → Ending → Result
result_of writes puts ending = record {
  aborted = ending.aborted;
  writes = between writes ending.writes_from ending.writes_to;
  puts = between puts ending.puts_from ending.puts_to;
}

abbrev pub results_of : Found → List Result
results_of found = map (result_of found.writes.items found.puts.items) found.endings.items

-- an ending is of so many writes and puts
pub record IsWithin (writes puts : ℕ) (ending : Ending) : Type 0 where
  pub writes_from : ending.writes_from ≤ ending.writes_to
  pub writes_to : ending.writes_to ≤ writes
  pub puts_from : ending.puts_from ≤ ending.puts_to
  pub puts_to : ending.puts_to ≤ puts

abbrev pub AreWithin : Found → Type 0
AreWithin found = All (IsWithin (length found.writes.items) (length found.puts.items)) found.endings.items
