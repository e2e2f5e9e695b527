-- Laws over the definitions, and the plan of a wire by hand.
use Rattle.std.specs.Prelude.{◌≡◌, ℕ, ◌+◌, ◌<◌, List, [], ◌∷◌, Some, None, ◌↔◌, codes, length}
use Rattle.std.specs.List.{Contains}
use Rattle.amdl_tree.specs.Derivation.{IsDerivable}
use Rattle.net_plan.specs.declared.plan.Plan.{Plan}
use Rattle.net_plan.specs.declared.fact.Fact.{Fact}
use Rattle.net_plan.specs.declared.fact.Place.TheVariants.{Host, Port}
use Rattle.net_plan.specs.Fact.{Precedes, IsRising}
use Rattle.net_plan.specs.Follows.{Starts, Follows, IsLeast}
use Rattle.net_plan.specs.Plan.{boxes_of, box_at, ports_of, HasNoBox}
use Rattle.net_plan.specs.Ends.{IsEndAt, IsLinked, partner_of}
use Rattle.net_plan.specs.Cells.{IsInRange, cell_of, cells_of}
use Rattle.net_plan.specs.Kept.{first_end}
use Rattle.net_plan.specs.Sound.{IsSound}

-- a rising list is settled by its members
abbrev pub RisingIsUnique : Type 0
RisingIsUnique =
    (one two : List Fact) → IsRising one → IsRising two →
    ((fact : Fact) → Contains one fact ↔ Contains two fact) → one ≡ two

-- a network without boxes has one list of derivable facts
abbrev pub LeastIsUnique : Type 0
LeastIsUnique = (plan : Plan) (one two : List Fact) → HasNoBox plan → IsLeast plan one → IsLeast plan two → one ≡ two

-- an end of a sound plan has at most one partner
abbrev pub PartnerIsUnique : Type 0
PartnerIsUnique =
    (plan : Plan) (end one two : ℕ) → IsSound plan → IsLinked plan end one → IsLinked plan end two → one ≡ two

-- the partner of an end of a sound plan is the end that it is linked with
abbrev pub PartnerIsLinked : Type 0
PartnerIsLinked =
    (plan : Plan) (end other : ℕ) → IsSound plan → (partner_of plan end ≡ Some other) ↔ IsLinked plan end other

-- where there is no box, exactly what the hosts send is derivable
abbrev pub DerivableIsSent : Type 0
DerivableIsSent = (plan : Plan) (fact : Fact) → HasNoBox plan → IsDerivable (Follows plan) fact ↔ Starts plan fact

-- hosts stand first among the ends, so that the end of a host has the number of the host
abbrev pub HostEnds : Type 0
HostEnds = (plan : Plan) (end host : ℕ) → IsEndAt plan end (Host host) ↔ ((host < length plan.hosts) × (end ≡ host))

-- the ports of a box stand behind the hosts and the ports of the boxes before it
abbrev pub PortEnds : Type 0
PortEnds =
    (plan : Plan) (end box port : ℕ) →
    IsEndAt plan end (Port box port) ↔
    ((box < boxes_of plan) × (port < ports_of plan (box_at plan box)) × (end ≡ first_end plan box + port))

-- facts in range and cells are one to one, and in the same order
pub record AreNumbered (plan : Plan) : Type 0 where
  pub below : (fact : Fact) → IsInRange plan fact → cell_of plan fact < cells_of plan
  pub once : (one two : Fact) → IsInRange plan one → IsInRange plan two → cell_of plan one ≡ cell_of plan two →
      one ≡ two
  pub each : (cell : ℕ) → cell < cells_of plan → (fact : Fact) × IsInRange plan fact × (cell_of plan fact ≡ cell)
  pub order : (one two : Fact) → IsInRange plan one → IsInRange plan two →
      Precedes one two ↔ (cell_of plan one < cell_of plan two)

abbrev pub CellsAreFacts : Type 0
CellsAreFacts = (plan : Plan) → AreNumbered plan

-- two hosts on a wire, the first of which may send what the second must not get
abbrev pub wire_plan : Plan
wire_plan = record {
  name = codes "wire";
  kinds = record { name = codes "Addr"; values = codes "a" ∷ codes "b" ∷ [] } ∷ [];
  fields = record { name = codes "src"; kind = 0 } ∷ record { name = codes "dst"; kind = 0 } ∷ [];
  classes = [];
  hosts =
      record {
        name = codes "p";
        sends = (Some 0 ∷ None ∷ None ∷ None ∷ None ∷ None ∷ None ∷ None ∷ [])
            ∷ [];
        forbids = [];
      }
      ∷ record {
        name = codes "q";
        sends = [];
        forbids =
            (Some 0 ∷ Some 1 ∷ None ∷ None ∷ None ∷ None ∷ None ∷ None ∷ []) ∷ [];
      }
      ∷ [];
  boxes = [];
  links = record { one = 0; two = 1 } ∷ [];
}
