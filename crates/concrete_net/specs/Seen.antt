-- What contracts see of the state of a simulated network.
use Rattle.net_plan.specs.declared.plan.Plan.{Plan}
use Rattle.net_runs.specs.declared.world.Mode.{Mode}
use Rattle.net_runs.specs.declared.world.World.{World}
use Rattle.net_runs.specs.World.{first_world}

-- how channels hand packets on, and the state of the network
pub record Seen : Type 0 where
  pub mode : Mode
  pub world : World

abbrev pub first_seen : Plan → Mode → Seen
first_seen plan mode = record { mode = mode; world = first_world plan }
