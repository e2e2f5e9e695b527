-- What is told of a schedule, a status and a text.
use Rattle.std.specs.Prelude.{◌≡◌, ◌++◌, ℕ, zero, suc, List, Ok, Err}
use Rattle.net_plan.specs.declared.plan.Plan.{Plan}
use Rattle.net_runs.specs.declared.world.Mode.{Mode}
use Rattle.net_runs.specs.declared.world.Step.{Step}
use Rattle.net_runs.specs.declared.world.Event.{Event}
use Rattle.net_runs.specs.declared.world.World.{World}
use Rattle.net_runs.specs.World.{first_world, Run}
use Rattle.concrete_net.specs.declared.refusal.StepRefusal.{StepRefusal}
use Rattle.concrete_net.specs.Seen.{first_seen}
use Rattle.schedule.specs.Replays.{IsRefusedAt}
use Rattle.schedule.specs.Texts.{lines_of, bad_of, replay_text}
use Rattle.schedule_file.specs.declared.refusal.FileRefusal.{FileRefusal}
use Rattle.schedule_file.specs.Messages.{refused_schedule, refused_step}
use Rattle.schedule_file.specs.Reading.{IsReadAs}

-- the status of a run with so many bad events
abbrev pub status_of : ℕ → ℕ
status_of zero = 0
status_of (suc n) = 1

-- what is told of steps
pub data IsRunTold (plan : Plan) (mode : Mode) (steps : List Step) (status : ℕ) (text : List ℕ) : Type 0 where
  -- they are a run
  ran : (events : List Event) (world : World) → Run plan mode (first_world plan) steps events world →
      status ≡ status_of (bad_of plan events) → text ≡ replay_text plan events → IsRunTold plan mode steps status text
  -- those before step k are one, and step k is refused
  stopped : (k : ℕ) (why : StepRefusal) (events : List Event) →
      IsRefusedAt plan (first_seen plan mode) steps k why events → status ≡ 3 →
      text ≡ lines_of plan events ++ refused_step k why → IsRunTold plan mode steps status text

-- what is told of the text of a schedule
pub data IsToldOf (plan : Plan) (mode : Mode) (bytes : List ℕ) (status : ℕ) (text : List ℕ) : Type 0 where
  -- it is refused
  refused : (refusal : FileRefusal) → IsReadAs plan bytes (Err refusal) → status ≡ 3 →
      text ≡ refused_schedule refusal → IsToldOf plan mode bytes status text
  -- it spells steps
  replayed : (steps : List Step) → IsReadAs plan bytes (Ok steps) → IsRunTold plan mode steps status text →
      IsToldOf plan mode bytes status text
