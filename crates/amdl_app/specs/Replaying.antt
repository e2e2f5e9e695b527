-- The reply of `replay` and of `replay-ordered`.
use Rattle.std.specs.Prelude.{◌≡◌, ℕ, List, [], ◌∷◌, Ok, Err}
use Rattle.net_plan.specs.declared.plan.Plan.{Plan}
use Rattle.net_runs.specs.declared.world.Mode.{Mode}
use Rattle.plan_text.specs.Messages.{missing_text, fault_load_text}
use Rattle.plan_text.specs.declared.refusal.NetworkRefusal.{NetworkRefusal}
use Rattle.schedule_file.specs.declared.refusal.FileRefusal.TheVariants.{TooLong}
use Rattle.schedule_file.specs.Replaying.{IsToldOf}
use Rattle.amdl_app.specs.Command.{Input, schedule_input}
use Rattle.amdl_app.specs.Loaded.{Loaded, Found, Over, Lacking, Failed, EachComes}
use Rattle.amdl_app.specs.Reply.{Reply, says, refuses, refuses_schedule}
use Rattle.amdl_app.specs.Spelled.{ComesTo}

-- the reply after the file of a schedule was to be loaded, given the reply to its text
abbrev pub AfterSchedule : List ℕ → (List ℕ → Reply → Type 0) → List Loaded → Reply → Type 0
AfterSchedule name goes_on [] reply = ⊥
AfterSchedule name goes_on (Found text ∷ others) reply = goes_on text reply
AfterSchedule name goes_on (Over ∷ others) reply = reply ≡ refuses_schedule TooLong
AfterSchedule name goes_on (Lacking ∷ others) reply = reply ≡ says 4 (missing_text name)
AfterSchedule name goes_on (Failed ∷ others) reply = reply ≡ says 4 (fault_load_text name)

-- the reply to the text of a schedule of a network
abbrev pub IsReplayed : Plan → Mode → List ℕ → Reply → Type 0
IsReplayed plan mode bytes reply =
    (status : ℕ) × (text : List ℕ) × IsToldOf plan mode bytes status text × (reply ≡ says status text)

-- the reply to the text of a network, given what the loads behind it come to
pub data IsReplay (mode : Mode) (schedule bytes : List ℕ) (others : List Loaded) (reply : Reply) : Type 0 where
  -- the text is refused, and the file of the schedule doesn't matter
  refused : (refusal : NetworkRefusal) → ComesTo bytes (Err refusal) → reply ≡ refuses refusal →
      IsReplay mode schedule bytes others reply
  -- it spells a network
  read : (plan : Plan) → ComesTo bytes (Ok plan) → AfterSchedule schedule (IsReplayed plan mode) others reply →
      IsReplay mode schedule bytes others reply

-- a reply given one outcome of the load of the schedule, where it is told what a load may come to
abbrev pub WithSchedule : (Input → Loaded → Type 0) → List ℕ → (List Loaded → Type 0) → Type 0
WithSchedule comes schedule replies =
    (others : List Loaded) × EachComes comes (schedule_input schedule ∷ []) others × replies others
