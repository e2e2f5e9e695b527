-- A firewall by hand, with the facts that cover all its runs: packets have one field, the address of the outer side;
-- the
-- inner host speaks to a alone, and must hear of a alone, whatever the outer host sends.
use Rattle.std.specs.Prelude.{ℕ, List, [], ◌∷◌, Option, Some, None, codes}
use Rattle.std.specs.List.{Contains}
use Rattle.box_handlers.specs.declared.act.Term.TheVariants.{Field}
use Rattle.box_handlers.specs.declared.act.Query.{Query}
use Rattle.box_handlers.specs.declared.act.Probe.TheVariants.{Has}
use Rattle.box_handlers.specs.declared.act.Act.{Act}
use Rattle.box_handlers.specs.declared.act.Act.TheVariants.{Insert, Output}
use Rattle.box_handlers.specs.Example.{of_one, asks}
use Rattle.net_plan.specs.declared.plan.Plan.{Plan}
use Rattle.net_plan.specs.declared.plan.ClassPlan.{ClassPlan}
use Rattle.net_plan.specs.declared.fact.Fact.{Fact}
use Rattle.net_plan.specs.declared.fact.Fact.TheVariants.{Out, State}
use Rattle.net_plan.specs.Follows.{IsBad}
use Rattle.net_plan.specs.Sound.{IsSound}
use Rattle.net_runs.specs.World.{HasNoBadRun}
use Rattle.packet_state.specs.Follows.{IsLeast}
use Rattle.packet_state.specs.Covers.{IsClosed}

-- known(peer)
abbrev pub known_peer : Query
known_peer = of_one 0 (Field 0)

-- insert known(peer); output outer;
abbrev pub at_inner : List Act
at_inner = Insert known_peer ∷ Output 1 [] ∷ []

-- if has known(peer) -> { output inner; } fi
abbrev pub at_outer : List Act
at_outer = asks (Has known_peer) (Output 0 [] ∷ []) ∷ []

abbrev pub fence : ClassPlan
fence = record {
  ports = codes "inner" ∷ codes "outer" ∷ [];
  relations = record { name = codes "known"; kinds = 0 ∷ [] } ∷ [];
  handlers = at_inner ∷ at_outer ∷ [];
  queries = known_peer ∷ [];
}

-- a pattern of the one field
abbrev pub peer : Option ℕ → List (Option ℕ)
peer value = value ∷ None ∷ None ∷ None ∷ None ∷ None ∷ None ∷ None ∷ []

-- host p sends a and must not get b, host q sends both, and f, which knows nobody, stands between them
abbrev pub firewall : Plan
firewall = record {
  name = codes "fw";
  kinds = record { name = codes "Addr"; values = codes "a" ∷ codes "b" ∷ [] } ∷ [];
  fields = record { name = codes "peer"; kind = 0 } ∷ [];
  classes = fence ∷ [];
  hosts =
      record { name = codes "p"; sends = peer (Some 0) ∷ []; forbids = peer (Some 1) ∷ [] }
      ∷ record { name = codes "q"; sends = peer None ∷ []; forbids = [] }
      ∷ [];
  boxes = record { name = codes "f"; class = 0; first = [] } ∷ [];
  links = record { one = 0; two = 2 } ∷ record { one = 3; two = 1 } ∷ [];
}

-- both hosts send what they may; f puts a out at each of its ports; it may know a and never knows b
abbrev pub firewall_facts : List Fact
firewall_facts =
    Out 0 0 ∷ Out 1 0 ∷ Out 1 1 ∷ Out 2 0 ∷ Out 3 0 ∷ State 0 0 0 ∷ State 0 0 1 ∷ State 0 1 0 ∷ []

-- nothing else follows, none of these facts is bad though b at the inner port would be, and so no run is bad
pub record FirewallIsSafe : Type 0 where
  pub sound : IsSound firewall
  pub closed : IsClosed firewall (Contains firewall_facts)
  pub good : (fact : Fact) → Contains firewall_facts fact → IsBad firewall fact → ⊥
  pub other : IsBad firewall (Out 2 1)
  pub safe : HasNoBadRun firewall

-- and all of these facts are derivable
abbrev pub FirewallFactsAreLeast : Type 0
FirewallFactsAreLeast = IsLeast firewall firewall_facts
