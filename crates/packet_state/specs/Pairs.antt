-- Pairs of facts on which a delivery to a box stands: a packet that is put out at an end, and the answers at it of
-- the box
-- that the end is linked to.
use Rattle.std.specs.Prelude.{◌≡◌, ◌≢◌, ℕ, List, ◌↔◌, length}
use Rattle.std.specs.List.{AllPairs, Contains}
use Rattle.net_plan.specs.declared.plan.Plan.{Plan}
use Rattle.net_plan.specs.declared.fact.Fact.{Fact}
use Rattle.net_plan.specs.declared.fact.Fact.TheVariants.{Out, State}
use Rattle.net_plan.specs.declared.fact.Place.TheVariants.{Port}
use Rattle.net_plan.specs.Ends.{IsEndAt, IsLinked}

pub record Pair : Type 0 where
  pub end : ℕ
  pub packet : ℕ
  pub mask : ℕ

-- both facts are in the set
pub record IsPair (plan : Plan) (known : Fact → Type 0) (pair : Pair) : Type 0 where
  pub other : ℕ
  pub box : ℕ
  pub port : ℕ
  pub linked : IsLinked plan pair.end other
  pub at_port : IsEndAt plan other (Port box port)
  pub out : known (Out pair.end pair.packet)
  pub state : known (State box pair.packet pair.mask)

-- the set has so many pairs
pub record CountsPairs (plan : Plan) (known : Fact → Type 0) (count : ℕ) : Type 0 where
  pub pairs : List Pair
  pub apart : AllPairs (λ one two. one ≢ two) pairs
  pub member : (pair : Pair) → Contains pairs pair ↔ IsPair plan known pair
  pub counted : length pairs ≡ count
