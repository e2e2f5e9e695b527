-- Sets of facts, as lists, that cover a state and that are closed.
use Rattle.std.specs.Prelude.{ℕ, List}
use Rattle.std.specs.List.{All, Contains}
use Rattle.net_plan.specs.declared.plan.Plan.{Plan}
use Rattle.net_plan.specs.declared.fact.Fact.{Fact}
use Rattle.net_plan.specs.declared.fact.Fact.TheVariants.{Out}
use Rattle.net_runs.specs.declared.world.World.{World}
use Rattle.net_plan.specs.Follows.{Follows}
use Rattle.net_runs.specs.World.{Waits}

-- each packet that waits in a channel has its fact in the set
abbrev pub Covers : List Fact → World → Type 0
Covers facts world =
    (end packet : ℕ) (packets : List ℕ) → Waits world end packets → Contains packets packet →
    Contains facts (Out end packet)

-- what follows from facts of the set, or from none, is in the set
abbrev pub IsClosed : Plan → List Fact → Type 0
IsClosed plan facts = (premises : List Fact) (fact : Fact) → All (Contains facts) premises →
    Follows plan premises fact → Contains facts fact
