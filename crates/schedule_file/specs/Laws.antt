-- Laws over the definitions, and refusals by hand.
use Rattle.std.specs.Prelude.{◌≡◌, ◌≢◌, ℕ, List, Result, codes}
use Rattle.std.specs.List.{Contains}
use Rattle.amdl_tree.specs.Layout.{line}
use Rattle.net_plan.specs.declared.plan.Plan.{Plan}
use Rattle.net_plan.specs.Sound.{IsSound}
use Rattle.net_runs.specs.declared.world.Mode.{Mode}
use Rattle.net_runs.specs.declared.world.Step.{Step}
use Rattle.net_runs.specs.declared.world.Event.{Event}
use Rattle.net_runs.specs.World.{IsBadEvent}
use Rattle.concrete_net.specs.declared.refusal.StepRefusal.TheVariants.{NoSuch, NotSent, NoCopy, NotHead, BadChoice}
use Rattle.schedule.specs.Texts.{bad_of}
use Rattle.schedule_file.specs.declared.refusal.FileRefusal.{FileRefusal}
use Rattle.schedule_file.specs.declared.refusal.FileRefusal.TheVariants.{TooLong, BadByte, WordTooLong, TooManyTokens}
use Rattle.schedule_file.specs.declared.refusal.FileRefusal.TheVariants.{Syntax, UnknownName, OutOfRange}
use Rattle.schedule_file.specs.Messages.{refused_schedule, refused_step}
use Rattle.schedule_file.specs.Reading.{IsReadAs}
use Rattle.schedule_file.specs.Replaying.{IsToldOf, status_of}

-- no text is read in two ways as a schedule of a sound network
abbrev pub OneReading : Type 0
OneReading =
    (plan : Plan) (text : List ℕ) (one two : Result (List Step) FileRefusal) → IsSound plan →
    IsReadAs plan text one → IsReadAs plan text two → one ≡ two

-- nor are two statuses or two texts told of it
abbrev pub OneTelling : Type 0
OneTelling =
    (plan : Plan) (mode : Mode) (bytes : List ℕ) (status other : ℕ) (text another : List ℕ) → IsSound plan →
    IsToldOf plan mode bytes status text → IsToldOf plan mode bytes other another →
    (status ≡ other) × (text ≡ another)

-- the status of a run with these events is 0 only where none of them is bad, and 1 only where one is
pub record IsStatusRight (plan : Plan) (events : List Event) : Type 0 where
  pub good : status_of (bad_of plan events) ≡ 0 → (event : Event) → Contains events event → IsBadEvent plan event → ⊥
  pub bad : status_of (bad_of plan events) ≢ 0 → (event : Event) × Contains events event × IsBadEvent plan event

abbrev pub StatusIsRight : Type 0
StatusIsRight = (plan : Plan) (events : List Event) → IsStatusRight plan events

-- a refusal of each form
pub record RefusalTexts : Type 0 where
  pub too_long : refused_schedule TooLong ≡ line (codes "refused schedule TooLong")
  pub bad_byte : refused_schedule (BadByte 7) ≡ line (codes "refused schedule byte 7 BadByte")
  pub overlong : refused_schedule (WordTooLong 12) ≡ line (codes "refused schedule byte 12 WordTooLong")
  pub too_many : refused_schedule TooManyTokens ≡ line (codes "refused schedule TooManyTokens")
  pub syntax : refused_schedule (Syntax 0) ≡ line (codes "refused schedule token 0 Syntax")
  pub unknown : refused_schedule (UnknownName 3) ≡ line (codes "refused schedule step 3 UnknownName")
  pub outside : refused_schedule (OutOfRange 10) ≡ line (codes "refused schedule step 10 OutOfRange")
  pub no_such : refused_step 0 NoSuch ≡ line (codes "refused schedule step 0 NoSuch")
  pub not_sent : refused_step 1 NotSent ≡ line (codes "refused schedule step 1 NotSent")
  pub no_copy : refused_step 4 NoCopy ≡ line (codes "refused schedule step 4 NoCopy")
  pub not_head : refused_step 2 NotHead ≡ line (codes "refused schedule step 2 NotHead")
  pub bad_choice : refused_step 1 (BadChoice 0) ≡ line (codes "refused schedule step 1 BadChoice 0")
