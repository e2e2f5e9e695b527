-- A network that is unsafe over unordered channels alone, by hand: a box puts out two packets in a row, and over ordered
-- channels they come back one after the other.
use Rattle.std.specs.Prelude.{ℕ, List, [], ◌∷◌, Option, None, codes, replicate}
use Rattle.std.specs.List.{Contains}
use Rattle.box_contents.specs.declared.entry.Entry.{Entry}
use Rattle.box_handlers.specs.declared.act.Term.TheVariants.{Field, Value}
use Rattle.box_handlers.specs.declared.act.Change.{Change}
use Rattle.box_handlers.specs.declared.act.Query.{Query}
use Rattle.box_handlers.specs.declared.act.Probe.{Probe}
use Rattle.box_handlers.specs.declared.act.Probe.TheVariants.{Has, Same, Not}
use Rattle.box_handlers.specs.declared.act.Branch.{Branch}
use Rattle.box_handlers.specs.declared.act.Act.{Act}
use Rattle.box_handlers.specs.declared.act.Act.TheVariants.{Insert, Remove, Output, Choose}
use Rattle.box_handlers.specs.Example.{of_one}
use Rattle.net_plan.specs.declared.plan.Plan.{Plan}
use Rattle.net_plan.specs.declared.plan.ClassPlan.{ClassPlan}
use Rattle.net_runs.specs.declared.world.Mode.TheVariants.{Unordered, Ordered}
use Rattle.net_runs.specs.declared.world.Step.{Step}
use Rattle.net_runs.specs.declared.world.Step.TheVariants.{Send, Deliver}
use Rattle.net_runs.specs.declared.world.Event.{Event}
use Rattle.net_runs.specs.declared.world.Event.TheVariants.{Moved, Delivered}
use Rattle.net_runs.specs.declared.world.World.{World}
use Rattle.net_runs.specs.World.{first_world, Run, IsBadEvent, HasNoBadRun}

-- seen(a)
abbrev pub seen_a : Query
seen_a = of_one 0 (Value 0)

-- [word := value]
abbrev pub written : ℕ → List Change
written value = record { field = 0; to = Value value } ∷ []

-- output there [word := a]; output there [word := b];
abbrev pub at_inlet : List Act
at_inlet = Output 2 (written 0) ∷ Output 2 (written 1) ∷ []

-- a branch whose guard is that all of these hold
abbrev pub where_all : List Probe → List Act → Branch
where_all probes body = record { guard = record { any = probes ∷ [] }; body = body }

-- word = b -> { remove seen(a); }
abbrev pub forgetting : Branch
forgetting = where_all (Same (Field 0) (Value 1) ∷ []) (Remove seen_a ∷ [])

-- word = a and has seen(a) -> { output outlet; }
abbrev pub passing : Branch
passing = where_all (Same (Field 0) (Value 0) ∷ Has seen_a ∷ []) (Output 1 [] ∷ [])

-- word = a and not has seen(a) -> { insert seen(a); }
abbrev pub noting : Branch
noting = where_all (Same (Field 0) (Value 0) ∷ Not (Has seen_a) ∷ []) (Insert seen_a ∷ [])

-- if one of the three fi
abbrev pub at_back : List Act
at_back = Choose (forgetting ∷ passing ∷ noting ∷ []) ∷ []

abbrev pub pairer : ClassPlan
pairer = record {
  ports = codes "inlet" ∷ codes "outlet" ∷ codes "there" ∷ codes "back" ∷ [];
  relations = record { name = codes "seen"; kinds = 0 ∷ [] } ∷ [];
  handlers = at_inlet ∷ [] ∷ [] ∷ at_back ∷ [];
  queries = seen_a ∷ [];
}

abbrev pub any_word : List (Option ℕ)
any_word = replicate 8 None

-- host p sends a and b to g.inlet, and host q, which is linked to g.outlet, forbids both; g.there leads to g.back, and g
-- starts with no entry
abbrev pub overtaken : Plan
overtaken = record {
  name = codes "overtaken";
  kinds = record { name = codes "Word"; values = codes "a" ∷ codes "b" ∷ [] } ∷ [];
  fields = record { name = codes "word"; kind = 0 } ∷ [];
  classes = pairer ∷ [];
  hosts =
      record { name = codes "p"; sends = any_word ∷ []; forbids = [] }
      ∷ record { name = codes "q"; sends = []; forbids = any_word ∷ [] }
      ∷ [];
  boxes = record { name = codes "g"; class = 0; first = [] } ∷ [];
  links = record { one = 0; two = 2 } ∷ record { one = 3; two = 1 } ∷ record { one = 4; two = 5 } ∷ [];
}

-- what p sent and waits for the inlet, what waits on the way round, what goes to q, and the contents of g
abbrev pub state : List ℕ → List ℕ → List ℕ → List Entry → World
state sent round passed contents =
    record { waiting = sent ∷ [] ∷ [] ∷ passed ∷ round ∷ [] ∷ []; contents = contents ∷ [] }

abbrev pub seen : List Entry
seen = record { relation = 0; tuple = 0 } ∷ []

-- a and b go round twice; the second a overtakes the first b
abbrev pub overtaking : List Step
overtaking =
    Send 0 0 ∷ Send 0 0 ∷ Deliver 2 0 [] ∷ Deliver 2 0 [] ∷ Deliver 5 0 (2 ∷ []) ∷ Deliver 5 0 (1 ∷ []) ∷ Deliver 1 0 []
    ∷ []

-- these steps are a run over unordered channels, which is bad
pub record OvertakenByHand : Type 0 where
  pub run :
      Run overtaken Unordered (first_world overtaken) overtaking
      (Moved ∷ Moved ∷ Moved ∷ Moved ∷ Moved ∷ Moved ∷ Delivered 1 0 ∷ []) (state [] (1 ∷ 1 ∷ []) [] seen)
  pub bad : IsBadEvent overtaken (Delivered 1 0)
  pub unsafe : HasNoBadRun overtaken → ⊥

-- a run over ordered channels has no bad event
abbrev pub SafeInOrder : Type 0
SafeInOrder =
    (steps : List Step) (events : List Event) (new : World) →
    Run overtaken Ordered (first_world overtaken) steps events new →
    (event : Event) → Contains events event → IsBadEvent overtaken event → ⊥
