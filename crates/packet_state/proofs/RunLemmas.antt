-- Bad steps have their bad facts in a closed set, and so a run from the first state has no bad event where no fact is
-- bad.
use Rattle.std.proofs.Common.{◌≡◌, ℕ, ◌<◌, List, [], ◌∷◌, length, sym, subst, inl, inr}
use Rattle.std.specs.List.{Contains}
use Rattle.std.proofs.lemmas.List.Elements.{All-weaker}
use Rattle.amdl_tree.specs.Derivation.{IsDerivable}
use Rattle.amdl_tree.proofs.DerivationLemmas.{derivable_step, derivable_kept}
use Rattle.box_contents.specs.declared.entry.Entry.{Entry}
use Rattle.box_executions.specs.Execution.{Outcome}
use Rattle.net_plan.specs.declared.plan.Plan.{Plan}
use Rattle.net_plan.specs.declared.fact.Fact.{Fact}
use Rattle.net_plan.specs.declared.fact.Fact.TheVariants.{Out, Abort}
use Rattle.net_plan.specs.Plan.{Forbids}
use Rattle.net_plan.specs.Follows.{IsBad}
use Rattle.net_plan.specs.Sound.{IsSound}
use Rattle.net_plan.proofs.Rising.{rising_is_unique, contained_cases, none_contained}
use Rattle.net_runs.specs.declared.world.Mode.{Mode}
use Rattle.net_runs.specs.declared.world.Step.{Step}
use Rattle.net_runs.specs.declared.world.Step.TheVariants.{Send, Deliver, Revert}
use Rattle.net_runs.specs.declared.world.Event.{Event}
use Rattle.net_runs.specs.declared.world.World.{World}
use Rattle.net_runs.specs.World.{first_world, HasContents, IsWorld, Reacts, Leads, Run, IsBadEvent, HasNoBadRun}
use Rattle.net_runs.specs.Laws.{FirstIsWorld, StepKeepsWorld}
use Rattle.packet_state.specs.Answers.{answers}
use Rattle.packet_state.specs.Follows.{Meets, Follows, IsLeast}
use Rattle.packet_state.specs.Covers.{Covers, IsClosed}
use Rattle.packet_state.proofs.CoverLemmas.{delivery_meets, aborted_known, taken_known, has_still, first_covered}
use Rattle.packet_state.proofs.CoverLemmas.{step_covered, taken_covered}

module _ (plan : Plan) (known : Fact → Type 0) (closed : IsClosed plan known) where
  abort_covered : (end packet box : ℕ) (contents : List Entry) (outcome : Outcome) (old new : World) (event : Event) →
      known (Out end packet) → HasContents old box contents →
      Meets plan end packet box (answers plan box packet contents) contents outcome →
      Reacts plan box packet outcome old event new → Covers plan known old → IsBadEvent plan event →
      known (Abort box packet)
  abort_covered end packet box contents (Outcome.Done left outputs) old new event sent has meets reacts covers bad =
      absurd (subst (IsBadEvent plan) reacts.0 bad)
  abort_covered end packet box contents Outcome.Aborted old new event sent has meets reacts covers bad =
      aborted_known plan known closed end packet box contents sent
      (covers.answered box packet contents meets.packet_in_range has) meets

  -- a bad step from a well shaped state that the set covers has its bad fact in the set
  pub bad_step_covered : (mode : Mode) (step : Step) (old new : World) (event : Event) → IsWorld plan old →
      Leads plan mode old step event new → Covers plan known old → IsBadEvent plan event →
      (fact : Fact) × known fact × IsBad plan fact
  bad_step_covered mode (Send host packet) old new event is leads covers bad =
      absurd (subst (IsBadEvent plan) leads.happens bad)
  bad_step_covered mode (Deliver end packet choices) old new event is (inl leads) covers bad =
      let forbidden : (leads.host < length plan.hosts) × Forbids plan leads.host packet =
      subst (IsBadEvent plan) leads.happens bad in (
        Out leads.taken.from packet,
        taken_known plan known closed mode end packet old new leads.taken covers,
        (leads.host, end, leads.taken.linked, leads.at_host, forbidden.1),
      )
  bad_step_covered mode (Deliver end packet choices) old new event is (inr leads) covers bad = (
    Abort leads.box packet,
    abort_covered leads.taken.from packet leads.box leads.contents leads.outcome leads.left new event
        (taken_known plan known closed mode end packet old leads.left leads.taken covers)
        (has_still plan known closed mode end packet old leads.left leads.box leads.contents leads.taken leads.has)
        (delivery_meets plan mode end packet choices old new event is leads) leads.reacts
        (taken_covered plan known closed mode end packet old leads.left leads.taken covers) bad,
    tt,
  )
  bad_step_covered mode (Revert box) old new event is leads covers bad =
      absurd (subst (IsBadEvent plan) leads.happens bad)

  module _ (keeps : StepKeepsWorld) (sound : IsSound plan)
      (good : (fact : Fact) → known fact → IsBad plan fact → ⊥) where
    covered_run : (mode : Mode) (steps : List Step) (old new : World) (events : List Event) → IsWorld plan old →
        Covers plan known old → Run plan mode old steps events new →
        (event : Event) → Contains events event → IsBadEvent plan event → ⊥
    covered_run mode [] old new events is covers run event there bad =
        none_contained event (subst (λ (l : List Event). Contains l event) run.0 there)
    covered_run mode (step ∷ steps) old new events is covers run event there bad =
        elim (contained_cases run.0 event run.1 (subst (λ (l : List Event). Contains l event) run.3 there)) [
          | inl same ↦
              let found =
              bad_step_covered mode step old run.2 run.0 is run.4 covers (subst (IsBadEvent plan) (sym same) bad) in
              good found.0 found.1 found.2
          | inr later ↦
              covered_run mode steps run.2 new run.1 (keeps plan mode step old run.2 run.0 sound is run.4)
              (step_covered plan known closed mode step old run.2 run.0 is run.4 covers) run.5 event later bad
        ]

    -- for each closed set, be it a list or not
    pub closed_set_runs_safely : FirstIsWorld → HasNoBadRun plan
    closed_set_runs_safely first mode steps events new run event there bad =
        covered_run mode steps (first_world plan) new events (first plan sound) (first_covered plan known closed) run
        event there bad

-- the derivable facts

pub least_is_closed : (plan : Plan) (facts : List Fact) → IsLeast plan facts → IsClosed plan (Contains facts)
least_is_closed plan facts least premises fact known follows =
    (least.member fact).1 (derivable_step (Follows plan) premises fact
    (All-weaker (Contains facts) (IsDerivable (Follows plan)) (λ f there. (least.member f).0 there) premises known)
    follows)

pub least_is_within : (plan : Plan) (least facts : List Fact) → IsLeast plan least → IsClosed plan (Contains facts) →
    (fact : Fact) → Contains least fact → Contains facts fact
least_is_within plan least facts is closed fact there =
    derivable_kept (Follows plan) (Contains facts) closed fact ((is.member fact).0 there)

pub least_is_unique : (plan : Plan) (one two : List Fact) → IsLeast plan one → IsLeast plan two → one ≡ two
least_is_unique plan one two a b =
    rising_is_unique one two a.rising b.rising
    (λ fact. (
      λ there. (b.member fact).1 ((a.member fact).0 there),
      λ there. (a.member fact).1 ((b.member fact).0 there),
    ))

pub safe_network_runs_safely : FirstIsWorld → StepKeepsWorld → (plan : Plan) (facts : List Fact) → IsSound plan →
    IsLeast plan facts →
    ((fact : Fact) → Contains facts fact → IsBad plan fact → ⊥) → HasNoBadRun plan
safe_network_runs_safely first keeps plan facts sound least good =
    closed_set_runs_safely plan (Contains facts) (least_is_closed plan facts least) keeps sound good first
