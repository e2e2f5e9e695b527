-- A box that forgets its block list, by hand: it blocks each packet before it lets the packet round, so that what comes
-- back is dropped, unless a revert came between.
use Rattle.std.specs.Prelude.{ℕ, List, [], ◌∷◌, ◌++◌, Option, None, codes, replicate}
use Rattle.std.specs.List.{All, Contains}
use Rattle.amdl_tree.specs.Derivation.{IsDerivable}
use Rattle.box_contents.specs.declared.entry.Entry.{Entry}
use Rattle.box_handlers.specs.declared.act.Term.TheVariants.{Field}
use Rattle.box_handlers.specs.declared.act.Query.{Query}
use Rattle.box_handlers.specs.declared.act.Probe.TheVariants.{Has, Not}
use Rattle.box_handlers.specs.declared.act.Act.{Act}
use Rattle.box_handlers.specs.declared.act.Act.TheVariants.{Insert, Output}
use Rattle.box_handlers.specs.Example.{of_one, asks}
use Rattle.net_plan.specs.declared.plan.Plan.{Plan}
use Rattle.net_plan.specs.declared.plan.ClassPlan.{ClassPlan}
use Rattle.net_plan.specs.declared.fact.Fact.TheVariants.{Out}
use Rattle.net_plan.specs.Follows.{IsBad}
use Rattle.net_plan.specs.Sound.{IsSound}
use Rattle.net_runs.specs.declared.world.Mode.{Mode}
use Rattle.net_runs.specs.declared.world.Step.{Step}
use Rattle.net_runs.specs.declared.world.Step.TheVariants.{Send, Deliver, Revert}
use Rattle.net_runs.specs.declared.world.Event.{Event}
use Rattle.net_runs.specs.declared.world.Event.TheVariants.{Moved, Delivered}
use Rattle.net_runs.specs.declared.world.World.{World}
use Rattle.net_runs.specs.World.{first_world, Leads, Run, IsBadEvent, HasNoBadRun}
use Rattle.packet_state.specs.Follows.{Follows}

-- blocked(word)
abbrev pub blocked_word : Query
blocked_word = of_one 0 (Field 0)

-- insert blocked(word); output there;
abbrev pub at_inlet : List Act
at_inlet = Insert blocked_word ∷ Output 2 [] ∷ []

-- if not has blocked(word) -> { output outlet; } fi
abbrev pub at_back : List Act
at_back = asks (Not (Has blocked_word)) (Output 1 [] ∷ []) ∷ []

abbrev pub blocker : ClassPlan
blocker = record {
  ports = codes "inlet" ∷ codes "outlet" ∷ codes "there" ∷ codes "back" ∷ [];
  relations = record { name = codes "blocked"; kinds = 0 ∷ [] } ∷ [];
  handlers = at_inlet ∷ [] ∷ [] ∷ at_back ∷ [];
  queries = blocked_word ∷ [];
}

-- any packet
abbrev pub any_word : List (Option ℕ)
any_word = replicate 8 None

-- there is one packet alone; host p sends it to g.inlet, and host q, which is linked to g.outlet, forbids it; g.there
-- leads to g.back, and g starts with no entry
abbrev pub forgetful : Plan
forgetful = record {
  name = codes "forgetful";
  kinds = record { name = codes "Word"; values = codes "a" ∷ [] } ∷ [];
  fields = record { name = codes "word"; kind = 0 } ∷ [];
  classes = blocker ∷ [];
  hosts =
      record { name = codes "p"; sends = any_word ∷ []; forbids = [] }
      ∷ record { name = codes "q"; sends = []; forbids = any_word ∷ [] }
      ∷ [];
  boxes = record { name = codes "g"; class = 0; first = [] } ∷ [];
  links = record { one = 0; two = 2 } ∷ record { one = 3; two = 1 } ∷ record { one = 4; two = 5 } ∷ [];
}

abbrev pub ForgetfulIsSound : Type 0
ForgetfulIsSound = IsSound forgetful

-- what p sent and waits for the inlet, what waits on the way round, what goes to q, and the contents of g
abbrev pub state : List ℕ → List ℕ → List ℕ → List Entry → World
state sent round passed contents =
    record { waiting = sent ∷ [] ∷ [] ∷ passed ∷ round ∷ [] ∷ []; contents = contents ∷ [] }

abbrev pub blocked_a : List Entry
blocked_a = record { relation = 0; tuple = 0 } ∷ []

-- two packets are sent, blocked and let round
abbrev pub way_round : List Step
way_round = Send 0 0 ∷ Send 0 0 ∷ Deliver 2 0 [] ∷ Deliver 2 0 [] ∷ []

-- the first one is dropped; after a revert the second one passes, and q gets it
abbrev pub after_that : List Step
after_that = Deliver 5 0 [] ∷ Revert 0 ∷ Deliver 5 0 (0 ∷ []) ∷ Deliver 1 0 [] ∷ []

pub record IsRevertedRun (mode : Mode) : Type 0 where
  pub blocks :
      Run forgetful mode (first_world forgetful) way_round (Moved ∷ Moved ∷ Moved ∷ Moved ∷ [])
      (state [] (0 ∷ 0 ∷ []) [] blocked_a)
  pub drops : Leads forgetful mode (state [] (0 ∷ 0 ∷ []) [] blocked_a) (Deliver 5 0 []) Moved
      (state [] (0 ∷ []) [] blocked_a)
  pub forgets : Leads forgetful mode (state [] (0 ∷ []) [] blocked_a) (Revert 0) Moved (state [] (0 ∷ []) [] [])
  pub passes : Leads forgetful mode (state [] (0 ∷ []) [] []) (Deliver 5 0 (0 ∷ [])) Moved
      (state [] [] (0 ∷ []) [])
  pub run :
      Run forgetful mode (first_world forgetful) (way_round ++ after_that)
      (Moved ∷ Moved ∷ Moved ∷ Moved ∷ Moved ∷ Moved ∷ Moved ∷ Delivered 1 0 ∷ []) (state [] [] [] [])
  pub bad : IsBadEvent forgetful (Delivered 1 0)

abbrev pub RevertedRunByHand : Type 0
RevertedRunByHand = (mode : Mode) → IsRevertedRun mode

abbrev pub ForgetfulIsUnsafe : Type 0
ForgetfulIsUnsafe = HasNoBadRun forgetful → ⊥

-- what the first contents let through stays derivable: the fact of that delivery is, and it is bad
pub record RevertedFactIsDerivable : Type 0 where
  pub derivable : IsDerivable (Follows forgetful) (Out 3 0)
  pub bad : IsBad forgetful (Out 3 0)

abbrev pub IsNoRevert : Step → Type 0
IsNoRevert (Send host packet) = Unit {0}
IsNoRevert (Deliver end packet choices) = Unit {0}
IsNoRevert (Revert box) = ⊥

-- a run without a revert has no bad event
abbrev pub SafeWithoutReverts : Type 0
SafeWithoutReverts =
    (mode : Mode) (steps : List Step) (events : List Event) (new : World) → All IsNoRevert steps →
    Run forgetful mode (first_world forgetful) steps events new →
    (event : Event) → Contains events event → IsBadEvent forgetful event → ⊥
