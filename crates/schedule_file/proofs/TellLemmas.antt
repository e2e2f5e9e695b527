-- What is told of a schedule is one status and one text.
use Rattle.std.proofs.Common.{◌≡◌, ℕ, List, [], ◌∷◌, ◌++◌, take, sym, ap, ◌∙◌, subst, Some, Ok, Err}
use Rattle.std.specs.Prelude.{slice_get}
use Rattle.net_plan.specs.declared.plan.Plan.{Plan}
use Rattle.net_plan.specs.Sound.{IsSound}
use Rattle.net_runs.specs.declared.world.Mode.{Mode}
use Rattle.net_runs.specs.declared.world.Step.{Step}
use Rattle.net_runs.specs.declared.world.Event.{Event}
use Rattle.net_runs.specs.declared.world.World.{World}
use Rattle.net_runs.specs.World.{Run, first_world}
use Rattle.net_runs.specs.Laws.{StepIsDetermined}
use Rattle.concrete_net.specs.declared.refusal.StepRefusal.{StepRefusal}
use Rattle.concrete_net.specs.Seen.{first_seen}
use Rattle.concrete_net.specs.Refused.{IsCause}
use Rattle.concrete_net.proofs.OnceLemmas.{one_cause}
use Rattle.schedule.specs.Laws.{OneReplay}
use Rattle.schedule.specs.Texts.{lines_of, bad_of, replay_text}
use Rattle.schedule.specs.Replays.{IsRefusedAt}
use Rattle.schedule_file.specs.Messages.{refused_schedule, refused_step}
use Rattle.schedule_file.specs.Replaying.{IsRunTold, ran, stopped, refused, replayed, status_of}
use Rattle.schedule_file.specs.Laws.{OneReading, OneTelling}
use Rattle.schedule_file.proofs.ReadLemmas.{Found}

module _ (law : StepIsDetermined) (one_replay : OneReplay) (one_reading : OneReading) where
  -- the state behind a run is one
  last_once : (plan : Plan) (mode : Mode) (steps : List Step) (old one two : World) (events others : List Event) →
      IsSound plan → Run plan mode old steps events one → Run plan mode old steps others two → one ≡ two
  last_once plan mode [] old one two events others sound p q = p.1 ∙ sym q.1
  last_once plan mode (step ∷ steps) old one two events others sound p q =
      let same = law plan mode step old p.2 q.2 p.0 q.0 sound p.4 q.4 in
      last_once plan mode steps p.2 one two p.1 q.1 sound p.5
      (subst (λ w. Run plan mode w steps q.1 two) (sym same.1) q.5)

  -- and so is why a step isn't made
  cause_once : (plan : Plan) (mode : Mode) (steps : List Step) (k m : ℕ) (why because : StepRefusal)
      (events others : List Event) → IsSound plan → k ≡ m → IsRefusedAt plan (first_seen plan mode) steps k why events →
      IsRefusedAt plan (first_seen plan mode) steps m because others → why ≡ because
  cause_once plan mode steps k m why because events others sound place p q =
      let world : p.world ≡ q.world =
      last_once plan mode (take k steps) (first_world plan) p.world q.world events others sound p.run
      (subst (λ n. Run plan mode (first_world plan) (take n steps) others q.world) (sym place) q.run) in
      let both : Some p.step ≡ Some q.step = sym p.numbered ∙ ap (slice_get steps) place ∙ q.numbered in
      let step : p.step ≡ q.step = cc in
      one_cause plan sound (record { mode = mode; world = p.world }) p.step why because p.cause
      (subst (λ w. IsCause plan (record { mode = mode; world = w }) p.step because) (sym world)
      (subst (λ s. IsCause plan (record { mode = mode; world = q.world }) s because) (sym step) q.cause))

  run_told_once : (plan : Plan) (mode : Mode) (steps : List Step) (status other : ℕ) (text another : List ℕ) →
      IsSound plan → IsRunTold plan mode steps status text → IsRunTold plan mode steps other another →
      (status ≡ other) × (text ≡ another)
  run_told_once plan mode steps status other text another sound (ran events world run s t)
      (ran others last run' s' t') =
      let same = (one_replay plan mode steps sound).events events others world last run run' in (
        s ∙ ap (λ l. status_of (bad_of plan l)) same ∙ sym s',
        t ∙ ap (replay_text plan) same ∙ sym t',
      )
  run_told_once plan mode steps status other text another sound (ran events world run s t)
      (stopped k why others at s' t') =
      absurd ((one_replay plan mode steps sound).apart events others world k why run at)
  run_told_once plan mode steps status other text another sound (stopped k why events at s t)
      (ran others world run s' t') =
      absurd ((one_replay plan mode steps sound).apart others events world k why run at)
  run_told_once plan mode steps status other text another sound (stopped k why events at s t)
      (stopped m because others at' s' t') =
      let same = (one_replay plan mode steps sound).place k m why because events others at at' in
      let cause = cause_once plan mode steps k m why because events others sound same.0 at at' in (
        s ∙ sym s',
        t ∙ (λ i. lines_of plan (same.1 i) ++ refused_step (same.0 i) (cause i)) ∙ sym t',
      )

  pub told_once : OneTelling
  told_once plan mode bytes status other text another sound (refused refusal read s t) (refused denied read' s' t') =
      let both : ◌≡◌ {A = Found} (Err refusal) (Err denied) =
      one_reading plan bytes (Err refusal) (Err denied) sound read read' in
      let same : refusal ≡ denied = cc in
      (s ∙ sym s', t ∙ ap refused_schedule same ∙ sym t')
  told_once plan mode bytes status other text another sound (refused refusal read s t) (replayed steps read' told) =
      absurd (let both : ◌≡◌ {A = Found} (Err refusal) (Ok steps) =
      one_reading plan bytes (Err refusal) (Ok steps) sound read read' in cc)
  told_once plan mode bytes status other text another sound (replayed steps read told) (refused refusal read' s t) =
      absurd (let both : ◌≡◌ {A = Found} (Ok steps) (Err refusal) =
      one_reading plan bytes (Ok steps) (Err refusal) sound read read' in cc)
  told_once plan mode bytes status other text another sound (replayed steps read told) (replayed others read' told') =
      let both : ◌≡◌ {A = Found} (Ok steps) (Ok others) =
      one_reading plan bytes (Ok steps) (Ok others) sound read read' in
      let same : steps ≡ others = cc in
      run_told_once plan mode steps status other text another sound told
      (subst (λ l. IsRunTold plan mode l other another) (sym same) told')
