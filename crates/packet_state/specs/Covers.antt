-- Sets of facts that cover a state of the network, and that are closed.
use Rattle.std.specs.Prelude.{ℕ, ◌<◌, List}
use Rattle.std.specs.List.{All, Contains}
use Rattle.box_contents.specs.declared.entry.Entry.{Entry}
use Rattle.net_plan.specs.declared.plan.Plan.{Plan}
use Rattle.net_plan.specs.declared.fact.Fact.{Fact}
use Rattle.net_plan.specs.declared.fact.Fact.TheVariants.{Out, State}
use Rattle.net_plan.specs.Plan.{packets_of}
use Rattle.net_runs.specs.declared.world.World.{World}
use Rattle.net_runs.specs.World.{Waits, HasContents}
use Rattle.packet_state.specs.Answers.{answers}
use Rattle.packet_state.specs.Follows.{Follows}

-- each packet that waits in a channel has its fact in the set, and so have the answers of the contents of each box at
-- each packet
pub record Covers (plan : Plan) (known : Fact → Type 0) (world : World) : Type 0 where
  pub waiting : (end packet : ℕ) (packets : List ℕ) → Waits world end packets → Contains packets packet →
      known (Out end packet)
  pub answered : (box packet : ℕ) (contents : List Entry) → packet < packets_of plan → HasContents world box contents →
      known (State box packet (answers plan box packet contents))

-- what follows from facts of the set, or from none, is in the set
abbrev pub IsClosed : Plan → (Fact → Type 0) → Type 0
IsClosed plan known =
    (premises : List Fact) (fact : Fact) → All known premises → Follows plan premises fact → known fact
