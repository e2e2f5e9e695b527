-- How a packet is taken out of a channel.
use Rattle.std.specs.Prelude.{◌≡◌, ◌≢◌, ℕ, List, ◌∷◌, ◌++◌, length}
use Rattle.std.specs.List.{Contains, remove}
use Rattle.net_plan.specs.declared.plan.Plan.{Plan}
use Rattle.net_plan.specs.Ends.{IsLinked}
use Rattle.net_runs.specs.declared.world.Mode.{Mode}
use Rattle.net_runs.specs.declared.world.Mode.TheVariants.{Ordered}
use Rattle.net_runs.specs.declared.world.World.{World}
use Rattle.net_runs.specs.World.{Waits, with_waiting, IsNext}
use Rattle.concrete_net.specs.declared.refusal.StepRefusal.{StepRefusal}
use Rattle.concrete_net.specs.declared.refusal.StepRefusal.TheVariants.{NoSuch, NotSent, NoCopy, NotHead, BadChoice}
use Rattle.concrete_net.specs.declared.refusal.StepRefusal.TheVariants.{NoMemory}
use Rattle.concrete_net.specs.Seen.{Seen}

-- the first copy of the packet stands at this place
pub record IsFirstCopy (packet : ℕ) (packets : List ℕ) (place : ℕ) : Type 0 where
  pub front : List ℕ
  pub rest : List ℕ
  pub stood : packets ≡ front ++ (packet ∷ rest)
  pub first : Contains front packet → ⊥
  pub place_is : place ≡ length front

-- the place of the packet that may be taken out of a channel
pub record IsNextAt (mode : Mode) (packet : ℕ) (packets : List ℕ) (place : ℕ) : Type 0 where
  pub copy : IsFirstCopy packet packets place
  pub next : IsNext mode packet packets

-- why the packet may not be taken out of a channel
abbrev pub MissesNext : Mode → ℕ → List ℕ → StepRefusal → Type 0
MissesNext mode packet packets NoSuch = ⊥
MissesNext mode packet packets NotSent = ⊥
MissesNext mode packet packets NoCopy = Contains packets packet → ⊥
MissesNext mode packet packets NotHead =
    (mode ≡ Ordered) × Contains packets packet × ((rest : List ℕ) → packets ≢ packet ∷ rest)
MissesNext mode packet packets (BadChoice k) = ⊥
MissesNext mode packet packets NoMemory = ⊥

-- the packet that may be taken out of the channel towards the end stands there
pub record StandsNext (plan : Plan) (mode : Mode) (world : World) (end packet from place : ℕ) : Type 0 where
  pub linked : IsLinked plan end from
  pub packets : List ℕ
  pub waits : Waits world from packets
  pub at : IsNextAt mode packet packets place

-- the channel out of the end is without the packet at the place
abbrev pub IsShortened : ℕ → ℕ → Seen → Seen → Type 0
IsShortened from place old new =
    (packets : List ℕ) → Waits old.world from packets →
    new ≡ record { mode = old.mode; world = with_waiting old.world from (remove packets place) }
