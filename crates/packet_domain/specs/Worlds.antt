-- States of a network, what leads from one to the next, and what cells say of them.
use Rattle.std.specs.Prelude.{◌≡◌, ℕ, List}
use Rattle.net_plan.specs.declared.plan.Plan.{Plan}
use Rattle.net_plan.specs.declared.fact.Fact.{Fact}
use Rattle.net_plan.specs.Cells.{IsInRange, cell_of}
use Rattle.net_plan.specs.Follows.{IsBad}
use Rattle.net_plan.specs.Sound.{IsSound}
use Rattle.net_runs.specs.declared.world.Event.{Event}
use Rattle.net_runs.specs.declared.world.World.{World}
use Rattle.net_runs.specs.World as runs
use Rattle.packet_state.specs.Covers as packet_state
use Rattle.packet_domain.specs.declared.abstraction.Transition.{Transition}
use Rattle.move_table.specs.Offered.{IsDone}

-- the first state of a sound plan
abbrev pub IsFirst : Plan → World → Type 0
IsFirst plan world = IsSound plan × (world ≡ runs.first_world plan)

-- the transition leads from the one state to the other, with some event
abbrev pub Leads : Plan → World → Transition → World → Type 0
Leads plan old transition new = (event : Event) × runs.Leads plan transition.mode old transition.step event new

-- and does so with a bad event
abbrev pub IsBadTransition : Plan → World → Transition → World → Type 0
IsBadTransition plan old transition new =
    (event : Event) × runs.Leads plan transition.mode old transition.step event new × runs.IsBadEvent plan event

-- the state is a well shaped one of a sound plan, and the facts in range whose cells these are cover it
pub record Covers (plan : Plan) (cells : List ℕ) (world : World) : Type 0 where
  pub sound : IsSound plan
  pub world_is : runs.IsWorld plan world
  pub covers : packet_state.Covers plan (IsDone plan cells) world

-- the cell is that of a bad fact
abbrev pub IsBadCell : Plan → ℕ → Type 0
IsBadCell plan cell = (fact : Fact) × IsInRange plan fact × (cell_of plan fact ≡ cell) × IsBad plan fact
