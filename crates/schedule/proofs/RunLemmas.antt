-- Steps are a run or one of them is refused, and never both, nor in two ways.
use Rattle.std.proofs.Common.{◌≡◌, ℕ, zero, suc, List, [], ◌∷◌, ◌++◌, take, refl, sym, ap, ◌∙◌, subst, Some}
use Rattle.std.proofs.Common.{Result, Ok, Err}
use Rattle.std.specs.Prelude.{slice_get}
use Rattle.net_plan.specs.declared.plan.Plan.{Plan}
use Rattle.net_plan.specs.Sound.{IsSound}
use Rattle.net_runs.specs.declared.world.Mode.{Mode}
use Rattle.net_runs.specs.declared.world.Step.{Step}
use Rattle.net_runs.specs.declared.world.Event.{Event}
use Rattle.net_runs.specs.declared.world.World.{World}
use Rattle.net_runs.specs.World.{Leads, Run, first_world}
use Rattle.net_runs.specs.Laws.{StepIsDetermined}
use Rattle.concrete_net.specs.declared.refusal.StepRefusal.{StepRefusal}
use Rattle.concrete_net.specs.Seen.{Seen, first_seen}
use Rattle.concrete_net.specs.Refused.{IsCause}
use Rattle.concrete_net.proofs.CauseLemmas.{excluded}
use Rattle.schedule.specs.declared.replayed.Replayed.{Replayed}
use Rattle.schedule.specs.declared.replayed.ReplayRefusal.{ReplayRefusal}
use Rattle.schedule.specs.declared.replayed.ReplayRefusal.TheVariants.{Refused, NoMemory}
use Rattle.schedule.specs.Laws.{OneReplay}
use Rattle.schedule.specs.Texts.{lines_of, bad_of, replay_text}
use Rattle.schedule.specs.Replays.{IsRefusedAt, IsReplay, IsRunOrWantsMemory, IsRefusedOrWantsMemory}

module _ (law : StepIsDetermined) (plan : Plan) (sound : IsSound plan) (mode : Mode) where
  -- the state in this mode
  abbrev seen : World → Seen
  seen world = record { mode = mode; world = world }

  abbrev Runs : World → List Step → List Event → World → Type 0
  Runs = Run plan mode

  -- what the first step of two runs leads to is the same
  from_there : (step : Step) (old one two last : World) (event other : Event) (steps : List Step)
      (events : List Event) → Leads plan mode old step event one → Leads plan mode old step other two →
      Runs two steps events last → Runs one steps events last
  from_there step old one two last event other steps events p q run =
      let same = law plan mode step old one two event other sound p q in
      subst (λ w. Runs w steps events last) (sym same.1) run

  run_once : (steps : List Step) (old one two : World) (events others : List Event) → Runs old steps events one →
      Runs old steps others two → events ≡ others
  run_once [] old one two events others p q = p.0 ∙ sym q.0
  run_once (step ∷ steps) old one two events others p q =
      let same = law plan mode step old p.2 q.2 p.0 q.0 sound p.4 q.4 in
      let rest =
      run_once steps p.2 one two p.1 q.1 p.5 (from_there step old p.2 q.2 two p.0 q.0 steps q.1 p.4 q.4 q.5) in
      p.3 ∙ ap (λ e. e ∷ p.1) same.0 ∙ ap (λ l. q.0 ∷ l) rest ∙ sym q.3

  -- a step that leads somewhere has no cause
  no_cause : (x step : Step) (old mid new : World) (event : Event) (why : StepRefusal) → Some x ≡ Some step →
      mid ≡ old → IsCause plan (seen mid) step why → Leads plan mode old x event new → ⊥
  no_cause x step old mid new event why same there cause leads =
      let is : x ≡ step = cc in
      excluded plan sound (seen old) step why event new
      (subst (λ w. IsCause plan (seen w) step why) there cause)
      (subst (λ s. Leads plan mode old s event new) is leads)

  run_or_refused : (steps : List Step) (k : ℕ) (old last mid : World) (events others : List Event) (step : Step)
      (why : StepRefusal) → Runs old steps events last → Runs old (take k steps) others mid →
      slice_get steps k ≡ Some step → IsCause plan (seen mid) step why → ⊥
  run_or_refused [] k old last mid events others step why p q at cause = absurd (cc)
  run_or_refused (x ∷ steps) zero old last mid events others step why p q at cause =
      no_cause x step old mid p.2 p.0 why at q.1 cause p.4
  run_or_refused (x ∷ steps) (suc k) old last mid events others step why p q at cause =
      run_or_refused steps k p.2 last mid p.1 q.1 step why p.5
      (from_there x old p.2 q.2 mid p.0 q.0 (take k steps) q.1 p.4 q.4 q.5) at cause

  one_place : (steps : List Step) (k m : ℕ) (old one two : World) (events others : List Event) (step next : Step)
      (why because : StepRefusal) → Runs old (take k steps) events one → slice_get steps k ≡ Some step →
      IsCause plan (seen one) step why → Runs old (take m steps) others two → slice_get steps m ≡ Some next →
      IsCause plan (seen two) next because → k ≡ m
  one_place [] k m old one two events others step next why because p at cause q there other = absurd (cc)
  one_place (x ∷ steps) zero zero old one two events others step next why because p at cause q there other = refl
  one_place (x ∷ steps) zero (suc m) old one two events others step next why because p at cause q there other =
      absurd (no_cause x step old one q.2 q.0 why at p.1 cause q.4)
  one_place (x ∷ steps) (suc k) zero old one two events others step next why because p at cause q there other =
      absurd (no_cause x next old two p.2 p.0 because there q.1 other p.4)
  one_place (x ∷ steps) (suc k) (suc m) old one two events others step next why because p at cause q there other =
      ap suc
      (one_place steps k m p.2 one two p.1 q.1 step next why because p.5 at cause
      (from_there x old p.2 q.2 two p.0 q.0 (take m steps) q.1 p.4 q.4 q.5) there other)

  abbrev RefusedAt : List Step → ℕ → StepRefusal → List Event → Type 0
  RefusedAt = IsRefusedAt plan (first_seen plan mode)

  never_both : (steps : List Step) (events others : List Event) (world : World) (k : ℕ) (why : StepRefusal) →
      Runs (first_world plan) steps events world → RefusedAt steps k why others → ⊥
  never_both steps events others world k why run at =
      run_or_refused steps k (first_world plan) world at.world events others at.step why run at.run at.numbered at.cause

  same_refusal : (steps : List Step) (events others : List Event) (k m : ℕ) (why because : StepRefusal) →
      RefusedAt steps k why events → RefusedAt steps m because others → (k ≡ m) × (events ≡ others)
  same_refusal steps events others k m why because one two =
      let place =
      one_place steps k m (first_world plan) one.world two.world events others one.step two.step why because one.run
      one.numbered one.cause two.run two.numbered two.cause in (
        place,
        run_once (take k steps) (first_world plan) one.world two.world events others one.run
            (subst (λ n. Runs (first_world plan) (take n steps) others two.world) (sym place) two.run),
      )

  pub is_run : (steps : List Step) (old new : List ℕ) (result : Result Replayed ReplayRefusal) →
      IsReplay plan mode steps old result new → (events : List Event) (world : World) →
      Runs (first_world plan) steps events world → IsRunOrWantsMemory plan steps events old result new
  is_run steps old new (Ok replayed) (others, last, run, count, bad, text) events world other =
      let same = run_once steps (first_world plan) last world others events run other in
      (count, bad ∙ ap (bad_of plan) same, text ∙ ap (λ l. old ++ replay_text plan l) same)
  is_run steps old new (Err (Refused k why)) (others, at, text) events world other =
      never_both steps events others world k why other at
  is_run steps old new (Err NoMemory) kept events world other = tt

  pub is_refused : (steps : List Step) (old new : List ℕ) (result : Result Replayed ReplayRefusal) →
      IsReplay plan mode steps old result new → (k : ℕ) (why : StepRefusal) (events : List Event) →
      RefusedAt steps k why events → IsRefusedOrWantsMemory plan k events old result new
  is_refused steps old new (Ok replayed) (others, last, run, count, bad, text) k why events at =
      never_both steps others events last k why run at
  is_refused steps old new (Err (Refused other because)) (others, place, text) k why events at =
      let same = same_refusal steps others events other k because why place at in
      (same.0, text ∙ ap (λ l. old ++ lines_of plan l) same.1)
  is_refused steps old new (Err NoMemory) kept k why events at = tt

pub one_replay : StepIsDetermined → OneReplay
one_replay law plan mode steps sound = record {
  events = λ one two world other p q. run_once law plan sound mode steps (first_world plan) world other one two p q;
  place = λ k m why because one two p q. same_refusal law plan sound mode steps one two k m why because p q;
  apart = λ events others world k why run at. never_both law plan sound mode steps events others world k why run at;
}
