-- The channels of a state by themselves.
use Rattle.std.specs.Prelude.{◌≡◌, ℕ, List, [], ◌∷◌, ◌++◌, Some, slice_get, slice_set}
use Rattle.box_contents.specs.declared.entry.Entry.{Entry}
use Rattle.box_executions.specs.Execution.{Emission}
use Rattle.net_plan.specs.declared.plan.Plan.{Plan}
use Rattle.net_runs.specs.declared.world.World.{World}
use Rattle.net_runs.specs.World.{PutsOut, PutsOutAll}

-- the packet goes last into the channel of this number
abbrev pub IsPushed : ℕ → ℕ → List (List ℕ) → List (List ℕ) → Type 0
IsPushed end packet old new =
    (packets : List ℕ) × (slice_get old end ≡ Some packets) × (new ≡ slice_set old end (packets ++ packet ∷ []))

-- the state with these channels and contents
abbrev pub world_of : List (List ℕ) → List (List Entry) → World
world_of waiting contents = record { waiting = waiting; contents = contents }

-- the packet is put out at the end, whatever the boxes have
abbrev pub PutsOutThere : Plan → ℕ → ℕ → List (List ℕ) → List (List ℕ) → Type 0
PutsOutThere plan end packet old new =
    (contents : List (List Entry)) → PutsOut plan end packet (world_of old contents) (world_of new contents)

-- what a box puts out is put out, whatever the boxes have
abbrev pub PutsOutAllThere : Plan → ℕ → List Emission → List (List ℕ) → List (List ℕ) → Type 0
PutsOutAllThere plan box emissions old new =
    (contents : List (List Entry)) →
    PutsOutAll plan box emissions (world_of old contents) (world_of new contents)
