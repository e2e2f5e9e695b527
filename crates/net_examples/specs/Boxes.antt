-- A network with two boxes of two classes, an unlinked host and an unlinked port, by hand.
use Rattle.std.specs.Prelude.{◌≡◌, ℕ, List, [], ◌∷◌, Some, None, codes, map}
use Rattle.std.specs.List.{range_with_len}
use Rattle.net_plan.specs.declared.plan.Plan.{Plan}
use Rattle.net_plan.specs.declared.plan.ClassPlan.{ClassPlan}
use Rattle.box_handlers.specs.declared.act.Term.TheVariants.{Field, Value}
use Rattle.box_handlers.specs.declared.act.Query.{Query}
use Rattle.box_handlers.specs.declared.act.Probe.TheVariants as probe
use Rattle.box_handlers.specs.declared.act.Act.{Act}
use Rattle.box_handlers.specs.declared.act.Act.TheVariants as act
use Rattle.net_plan.specs.declared.fact.Place.TheVariants.{Host, Port}
use Rattle.net_plan.specs.declared.fact.Fact.{Fact}
use Rattle.net_plan.specs.declared.fact.Fact.TheVariants.{Out, State, Abort}
use Rattle.net_plan.specs.Ends.{places_of, partner_of, IsEndNamed}
use Rattle.net_plan.specs.Cells.{cell_of, cells_of}
use Rattle.net_plan.specs.Follows.{IsBad}
use Rattle.net_plan.specs.Sound.{IsSound}

-- a handler that asks these queries in one guard, and does nothing more
abbrev pub asking : List Query → List Act
asking queries = act.Choose (record { guard = record { any = map probe.Has queries ∷ [] }; body = [] } ∷ []) ∷ []

-- open(dst)
abbrev pub open_dst : Query
open_dst = record { relation = 0; args = Field 0 ∷ [] }

-- seen(a) and seen(b)
abbrev pub seen_a : Query
seen_a = record { relation = 0; args = Value 0 ∷ [] }

abbrev pub seen_b : Query
seen_b = record { relation = 0; args = Value 1 ∷ [] }

-- two ports, and one query, so two masks
abbrev pub wall : ClassPlan
wall = record {
  ports = codes "inner" ∷ codes "outer" ∷ [];
  relations = record { name = codes "open"; kinds = 0 ∷ [] } ∷ [];
  handlers = asking (open_dst ∷ []) ∷ [] ∷ [];
  queries = open_dst ∷ [];
}

-- one port, and two queries, so four masks
abbrev pub tap : ClassPlan
tap = record {
  ports = codes "east" ∷ [];
  relations = record { name = codes "seen"; kinds = 0 ∷ [] } ∷ [];
  handlers = asking (seen_a ∷ seen_b ∷ []) ∷ [];
  queries = seen_a ∷ seen_b ∷ [];
}

-- hosts p, q and r, boxes w and t, of which w starts with open(b), and packets with one field of two values; p is
-- linked to
-- w.inner and q to w.outer, and q must not get packet 1
abbrev pub two_boxes : Plan
two_boxes = record {
  name = codes "two";
  kinds = record { name = codes "Addr"; values = codes "a" ∷ codes "b" ∷ [] } ∷ [];
  fields = record { name = codes "dst"; kind = 0 } ∷ [];
  classes = wall ∷ tap ∷ [];
  hosts =
      record { name = codes "p"; sends = []; forbids = [] }
      ∷ record {
        name = codes "q";
        sends = [];
        forbids = (Some 1 ∷ None ∷ None ∷ None ∷ None ∷ None ∷ None ∷ None ∷ [])
            ∷ [];
      }
      ∷ record { name = codes "r"; sends = []; forbids = [] }
      ∷ [];
  boxes =
      record { name = codes "w"; class = 0; first = record { relation = 0; tuple = 1 } ∷ [] }
      ∷ record { name = codes "t"; class = 1; first = [] }
      ∷ [];
  links = record { one = 0; two = 3 } ∷ record { one = 4; two = 1 } ∷ [];
}

-- the plan is sound
abbrev pub BoxesAreSound : Type 0
BoxesAreSound = IsSound two_boxes

-- the hosts, then the ports of w, then that of t
abbrev pub EndsByHand : Type 0
EndsByHand = places_of two_boxes ≡ Host 0 ∷ Host 1 ∷ Host 2 ∷ Port 0 0 ∷ Port 0 1 ∷ Port 1 0 ∷ []

-- r and t.east have no link
abbrev pub PartnersByHand : Type 0
PartnersByHand = map (partner_of two_boxes) (range_with_len 0 6) ≡ Some 3 ∷ Some 4 ∷ None ∷ Some 0 ∷ Some 1 ∷ None ∷ []

-- an end by its name: `w.outer` is end 4, and there is no `w` without a port
pub record NamesByHand : Type 0 where
  pub outer : IsEndNamed two_boxes (codes "w") (Some (codes "outer")) 4
  pub third : IsEndNamed two_boxes (codes "r") None 2
  pub bare : (end : ℕ) → IsEndNamed two_boxes (codes "w") None end → ⊥

-- all facts in range, in file order
abbrev pub facts_by_hand : List Fact
facts_by_hand =
    Out 0 0 ∷ Out 0 1 ∷ Out 1 0 ∷ Out 1 1 ∷ Out 2 0 ∷ Out 2 1 ∷ Out 3 0 ∷ Out 3 1 ∷ Out 4 0 ∷ Out 4 1 ∷ Out 5 0
    ∷ Out 5 1
    ∷ State 0 0 0 ∷ State 0 0 1 ∷ State 0 1 0 ∷ State 0 1 1
    ∷ State 1 0 0 ∷ State 1 0 1 ∷ State 1 0 2 ∷ State 1 0 3 ∷ State 1 1 0 ∷ State 1 1 1 ∷ State 1 1 2 ∷ State 1 1 3
    ∷ Abort 0 0 ∷ Abort 0 1 ∷ Abort 1 0 ∷ Abort 1 1
    ∷ []

pub record CellsByHand : Type 0 where
  pub count : cells_of two_boxes ≡ 28
  pub numbers : map (cell_of two_boxes) facts_by_hand ≡ range_with_len 0 28

-- packet 1 at w.outer is delivered to q, which forbids it; nothing else that is put out is bad, be it another packet,
-- at the
-- end of q itself, at an end that is linked to a box, or at an unlinked port; each abort is bad, and no state
pub record BadByHand : Type 0 where
  pub forbidden : IsBad two_boxes (Out 4 1)
  pub allowed : IsBad two_boxes (Out 4 0) → ⊥
  pub own_end : IsBad two_boxes (Out 1 1) → ⊥
  pub to_box : IsBad two_boxes (Out 0 1) → ⊥
  pub unlinked : IsBad two_boxes (Out 5 1) → ⊥
  pub abort : IsBad two_boxes (Abort 1 0)
  pub state : IsBad two_boxes (State 1 0 3) → ⊥
