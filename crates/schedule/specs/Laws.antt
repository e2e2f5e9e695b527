-- Laws on readings, on replays and on what is told of steps, and such a text by hand.
use Rattle.std.specs.Prelude.{◌≡◌, ◌↔◌, ℕ, IsTrue, List, [], ◌∷◌, ◌++◌, codes}
use Rattle.amdl_tree.specs.Layout.{line}
use Rattle.net_plan.specs.declared.plan.Plan.{Plan}
use Rattle.net_plan.specs.Laws.{wire_plan}
use Rattle.net_plan.specs.Plan.{Forbids}
use Rattle.net_runs.specs.declared.world.Event.{Event}
use Rattle.net_runs.specs.declared.world.Event.TheVariants.{Moved, Delivered}
use Rattle.amdl_tree.specs.declared.token.Token.{Token}
use Rattle.net_plan.specs.Sound.{IsSound}
use Rattle.net_runs.specs.declared.world.Mode.{Mode}
use Rattle.net_runs.specs.declared.world.Step.{Step}
use Rattle.net_runs.specs.declared.world.World.{World}
use Rattle.net_runs.specs.World.{IsBadEvent, Run, first_world}
use Rattle.concrete_net.specs.declared.refusal.StepRefusal.{StepRefusal}
use Rattle.concrete_net.specs.Seen.{first_seen}
use Rattle.schedule.specs.declared.refusal.ScheduleRefusal.{ScheduleRefusal}
use Rattle.schedule.specs.Read.{ReadsAs, IsCauseOf}
use Rattle.schedule.specs.Replays.{IsRefusedAt}
use Rattle.plan_text.specs.Laws.{NeverPrintsSafe}
use Rattle.schedule.specs.Texts.{is_forbidden, is_bad, line_of_event, lines_of, end_line, replay_text}

-- what is computed of events is what is meant by it
pub record BadIsTold : Type 0 where
  pub event : (plan : Plan) (event : Event) → IsTrue (is_bad plan event) ↔ IsBadEvent plan event
  pub delivery : (plan : Plan) (host packet : ℕ) → IsTrue (is_forbidden plan host packet) ↔ Forbids plan host packet

-- no line prints SAFE, nor do lines before a text that doesn't, nor the whole text of a run
pub record TextIsNotSafe : Type 0 where
  pub event : (plan : Plan) (k : ℕ) (event : Event) → NeverPrintsSafe (line_of_event plan k event)
  pub end : (steps bad : ℕ) → NeverPrintsSafe (end_line steps bad)
  pub lines : (plan : Plan) (events : List Event) (rest : List ℕ) → NeverPrintsSafe rest →
      NeverPrintsSafe (lines_of plan events ++ rest)
  pub whole : (plan : Plan) (events : List Event) → NeverPrintsSafe (replay_text plan events)

-- tokens are read as one list of steps or refused for one cause, and never both
pub record IsOneReading (plan : Plan) (tokens : List Token) : Type 0 where
  pub steps : (one two : List Step) → ReadsAs plan tokens one → ReadsAs plan tokens two → one ≡ two
  pub cause : (one two : ScheduleRefusal) → IsCauseOf plan tokens one → IsCauseOf plan tokens two → one ≡ two
  pub apart : (steps : List Step) (refusal : ScheduleRefusal) → ReadsAs plan tokens steps →
      IsCauseOf plan tokens refusal → ⊥

abbrev pub OneReading : Type 0
OneReading = (plan : Plan) (tokens : List Token) → IsSound plan → IsOneReading plan tokens

-- steps are a run with one list of events or one step is refused, and never both
pub record IsOneReplay (plan : Plan) (mode : Mode) (steps : List Step) : Type 0 where
  pub events : (one two : List Event) (world other : World) → Run plan mode (first_world plan) steps one world →
      Run plan mode (first_world plan) steps two other → one ≡ two
  pub place : (k m : ℕ) (why because : StepRefusal) (one two : List Event) →
      IsRefusedAt plan (first_seen plan mode) steps k why one →
      IsRefusedAt plan (first_seen plan mode) steps m because two → (k ≡ m) × (one ≡ two)
  pub apart : (events others : List Event) (world : World) (k : ℕ) (why : StepRefusal) →
      Run plan mode (first_world plan) steps events world →
      IsRefusedAt plan (first_seen plan mode) steps k why others → ⊥

abbrev pub OneReplay : Type 0
OneReplay = (plan : Plan) (mode : Mode) (steps : List Step) → IsSound plan → IsOneReplay plan mode steps

-- p puts two packets on the wire, and both get to q, which forbids the one
abbrev pub WireText : Type 0
WireText =
    replay_text wire_plan (Moved ∷ Moved ∷ Delivered 1 1 ∷ Delivered 1 0 ∷ [])
    ≡ line (codes "0 moved")
    ++ line (codes "1 moved")
    ++ line (codes "2 delivered q 1 forbidden")
    ++ line (codes "3 delivered q 0")
    ++ line (codes "end steps 4 bad 1")
