-- What a call of the program promises of `replay` and of `replay-ordered`.
use Rattle.std.specs.Prelude.{◌≡◌, ℕ, ◌≤◌, List, length, Some, Ok, Err, Contains}
use Rattle.amdl_tree.specs.declared.tree.Tree.{Tree}
use Rattle.net_plan.specs.declared.plan.Plan.{Plan}
use Rattle.net_runs.specs.declared.world.Mode.{Mode}
use Rattle.net_runs.specs.declared.world.Step.{Step}
use Rattle.net_runs.specs.declared.world.Event.{Event}
use Rattle.net_runs.specs.declared.world.World.{World}
use Rattle.net_runs.specs.World.{first_world, Run, IsBadEvent}
use Rattle.amdl_check.specs.Checking.{IsNetworkOf}
use Rattle.network_file.specs.Reading as network_file
use Rattle.outside.specs.Files.{FileMap, file_of, IsLonger}
use Rattle.plan_text.specs.Messages.{refused_network}
use Rattle.plan_text.specs.declared.refusal.NetworkRefusal.{NetworkRefusal}
use Rattle.schedule.specs.Texts.{replay_text}
use Rattle.schedule_file.specs.Messages.{refused_schedule}
use Rattle.schedule_file.specs.Reading as schedule_file
use Rattle.schedule_file.specs.Replaying.{IsToldOf}
use Rattle.schedule_file.specs.declared.refusal.FileRefusal.TheVariants.{TooLong}
use Rattle.amdl_app.specs.Command.{Replay, Asks, text_limit}
use Rattle.amdl_app.specs.Promises.{Appends}
use Rattle.amdl_app.specs.Seen.{Seen, WhereTold}
use Rattle.amdl_app.specs.Spelled.{ComesTo}

-- the text is the file of a well-formed tree, the other that of a schedule, and its steps are a run of the network in
-- this mode; what is told of that is all that is appended, and the status says whether an event is bad
pub record IsReplayedText (mode : Mode) (before after : Seen) (status : ℕ) (text told : List ℕ) : Type 0 where
  pub tree : Tree
  pub plan : Plan
  pub file : network_file.IsReadAs text (Ok tree)
  pub network : IsNetworkOf tree plan
  pub steps : List Step
  pub schedule : schedule_file.IsReadAs plan told (Ok steps)
  pub events : List Event
  pub last : World
  pub run : Run plan mode (first_world plan) steps events last
  pub lines : Appends before after (replay_text plan events)
  pub good : status ≡ 0 → (event : Event) → Contains events event → IsBadEvent plan event → ⊥
  pub bad : status ≡ 1 → (event : Event) × Contains events event × IsBadEvent plan event

-- a replay has status 0 or 1 only where the files are so
abbrev pub ReplayOnly : List (List ℕ) → Seen → Seen → ℕ → Type 0
ReplayOnly words before after status =
    (mode : Mode) (network schedule : List ℕ) → Asks words (Replay mode network schedule) → status ≤ 1 →
    WhereTold before.files (λ files.
    (text : List ℕ) × (told : List ℕ) × (file_of files network ≡ Some text) × (file_of files schedule ≡ Some told)
    × IsReplayedText mode before after status text told)

-- what a status up to 3 is of, and what is appended, where the network's text is this one
pub record IsReplayOfText (mode : Mode) (schedule : List ℕ) (files : FileMap) (before after : Seen) (status : ℕ)
    (text : List ℕ) : Type 0 where
  -- a network that is refused: its refusal, whatever the file of the schedule is
  pub refused : (refusal : NetworkRefusal) → ComesTo text (Err refusal) →
      (status ≡ 3) × Appends before after (refused_network refusal)
  -- a network, and a schedule that is too long
  pub too_long : (plan : Plan) → ComesTo text (Ok plan) → IsLonger (file_of files schedule) text_limit →
      (status ≡ 3) × Appends before after (refused_schedule TooLong)
  -- a network, and a schedule within the limit: what is told of it
  pub replayed : (plan : Plan) → ComesTo text (Ok plan) → (told : List ℕ) → file_of files schedule ≡ Some told →
      length told ≤ text_limit → (answer : ℕ) (lines : List ℕ) → IsToldOf plan mode told answer lines →
      (status ≡ answer) × Appends before after lines

-- and of each file within the limit, what it comes to decides the status, which is 0, 1 or 3, or 4 to 6, and with 0, 1
-- and 3 what is appended
abbrev pub ReplayIf : List (List ℕ) → Seen → Seen → ℕ → Type 0
ReplayIf words before after status =
    (mode : Mode) (network schedule : List ℕ) → Asks words (Replay mode network schedule) →
    WhereTold before.files (λ files.
    (text : List ℕ) → file_of files network ≡ Some text → length text ≤ text_limit → status ≤ 3 →
    IsReplayOfText mode schedule files before after status text)
