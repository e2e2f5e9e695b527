-- What follows from facts in one step, over the cells of the facts.
use Rattle.std.specs.Prelude.{◌≡◌, ℕ, List, map}
use Rattle.std.specs.List.{All}
use Rattle.net_plan.specs.declared.plan.Plan.{Plan}
use Rattle.net_plan.specs.declared.fact.Fact.{Fact}
use Rattle.net_plan.specs.Cells.{IsInRange, cell_of}
use Rattle.packet_state.specs.Follows as packet_state

-- the premises and the cell are those of facts in range, of which one follows from the others
pub record Follows (plan : Plan) (premises : List ℕ) (cell : ℕ) : Type 0 where
  pub facts : List Fact
  pub fact : Fact
  pub facts_in_range : All (IsInRange plan) facts
  pub in_range : IsInRange plan fact
  pub premises_are : premises ≡ map (cell_of plan) facts
  pub cell_is : cell ≡ cell_of plan fact
  pub follows : packet_state.Follows plan facts fact
