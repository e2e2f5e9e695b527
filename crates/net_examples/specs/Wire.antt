-- Runs on the wire network, in which host 0 may send the packets 0 and 1, and host 1 forbids packet 1.
use Rattle.std.specs.Prelude.{ℕ, List, [], ◌∷◌, ◌++◌, Some, None, codes}
use Rattle.net_plan.specs.declared.plan.Plan.{Plan}
use Rattle.net_runs.specs.declared.world.Mode.{Mode}
use Rattle.net_runs.specs.declared.world.Mode.TheVariants.{Unordered, Ordered}
use Rattle.net_runs.specs.declared.world.Step.{Step}
use Rattle.net_runs.specs.declared.world.Step.TheVariants.{Send, Deliver}
use Rattle.net_runs.specs.declared.world.Event.{Event}
use Rattle.net_runs.specs.declared.world.Event.TheVariants.{Moved, Delivered}
use Rattle.net_runs.specs.declared.world.World.{World}
use Rattle.net_runs.specs.World.{first_world, Leads, Run, IsBadEvent, HasNoBadRun}
use Rattle.net_plan.specs.Laws.{wire_plan}

-- host 0 sends packet 0 twice, and both copies are delivered at the end of host 1
abbrev pub twice : List Step
twice = Send 0 0 ∷ Send 0 0 ∷ Deliver 1 0 [] ∷ Deliver 1 0 [] ∷ []

abbrev pub TwiceDelivered : Type 0
TwiceDelivered =
    (mode : Mode) → (last : World) ×
    Run wire_plan mode (first_world wire_plan) twice (Moved ∷ Moved ∷ Delivered 1 0 ∷ Delivered 1 0 ∷ []) last

-- no third copy waits
abbrev pub NoThirdDelivery : Type 0
NoThirdDelivery =
    (mode : Mode) (events : List Event) (last : World) →
    Run wire_plan mode (first_world wire_plan) (twice ++ Deliver 1 0 [] ∷ []) events last → ⊥

-- packets 0 and 1 are sent, and delivered in the other order
abbrev pub crossed : List Step
crossed = Send 0 0 ∷ Send 0 1 ∷ Deliver 1 1 [] ∷ Deliver 1 0 [] ∷ []

-- a run with one bad event, the first delivery
pub record IsCrossedRun (last : World) : Type 0 where
  pub run : Run wire_plan Unordered (first_world wire_plan) crossed
      (Moved ∷ Moved ∷ Delivered 1 1 ∷ Delivered 1 0 ∷ []) last
  pub bad : IsBadEvent wire_plan (Delivered 1 1)
  pub good : IsBadEvent wire_plan (Delivered 1 0) → ⊥

abbrev pub BadRunByHand : Type 0
BadRunByHand = (last : World) × IsCrossedRun last

abbrev pub NoOrderedBadRun : Type 0
NoOrderedBadRun =
    (events : List Event) (last : World) → Run wire_plan Ordered (first_world wire_plan) crossed events last → ⊥

-- what was sent by host 0 doesn't wait at its own end, host 0 has no pattern for packet 2, and host 1 has none at all
pub record NothingElse (mode : Mode) : Type 0 where
  pub at_sender : (events : List Event) (last : World) →
      Run wire_plan mode (first_world wire_plan) (Send 0 0 ∷ Deliver 0 0 [] ∷ []) events last → ⊥
  pub unmatched : (old new : World) (event : Event) → Leads wire_plan mode old (Send 0 2) event new → ⊥
  pub without_pattern : (old new : World) (packet : ℕ) (event : Event) →
      Leads wire_plan mode old (Send 1 packet) event new → ⊥

abbrev pub NothingElseEnabled : Type 0
NothingElseEnabled = (mode : Mode) → NothingElse mode

-- the same wire where host 1 forbids the packets whose first field is 1, which are 2 and 3
abbrev pub safe_wire_plan : Plan
safe_wire_plan = record {
  name = codes "wire";
  kinds = record { name = codes "Addr"; values = codes "a" ∷ codes "b" ∷ [] } ∷ [];
  fields = record { name = codes "src"; kind = 0 } ∷ record { name = codes "dst"; kind = 0 } ∷ [];
  classes = [];
  hosts =
      record {
        name = codes "p";
        sends = (Some 0 ∷ None ∷ None ∷ None ∷ None ∷ None ∷ None ∷ None ∷ [])
            ∷ [];
        forbids = [];
      }
      ∷ record {
        name = codes "q";
        sends = [];
        forbids = (Some 1 ∷ None ∷ None ∷ None ∷ None ∷ None ∷ None ∷ None ∷ [])
            ∷ [];
      }
      ∷ [];
  boxes = [];
  links = record { one = 0; two = 1 } ∷ [];
}

abbrev pub SafeWireRunsSafely : Type 0
SafeWireRunsSafely = HasNoBadRun safe_wire_plan
