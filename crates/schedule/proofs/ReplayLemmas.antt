-- Steps that are made in turn, and what is told of them.
use Rattle.std.proofs.Common.{◌≡◌, ◌+◌, ◌<◌, ◌≤◌, ℕ, zero, suc, Bool, cond, List, [], ◌∷◌, ◌++◌, length}
use Rattle.std.proofs.Common.{◌⊎◌, take, refl, sym, ap, ◌∙◌, subst, Some, inl, inr, arith, append_assoc, append-nil}
use Rattle.std.specs.Prelude.{slice_get}
use Rattle.std.proofs.lemmas.List.{length-append}
use Rattle.std.proofs.lemmas.List.Sums.{sum_by-append, count_by-le-length}
use Rattle.std.proofs.lemmas.Option.{slice_get_within}
use Rattle.box_executions.specs.Execution.{Outcome}
use Rattle.net_plan.specs.declared.plan.Plan.{Plan}
use Rattle.net_plan.specs.Plan.{packets_of, boxes_of}
use Rattle.net_plan.specs.Laws.{HostEnds, PortEnds}
use Rattle.net_plan.specs.Sound.{IsSound}
use Rattle.net_runs.specs.declared.world.Mode.{Mode}
use Rattle.net_runs.specs.declared.world.Step.{Step}
use Rattle.net_runs.specs.declared.world.Step.TheVariants.{Send, Deliver, Revert}
use Rattle.net_runs.specs.declared.world.Event.{Event}
use Rattle.net_runs.specs.declared.world.World.{World}
use Rattle.net_runs.specs.World.{Leads, Run, Reacts, IsSend, IsRevert, IsHostDelivery, IsBoxDelivery}
use Rattle.net_runs.specs.Laws.{RunsCompose, StepKeepsWorld}
use Rattle.concrete_net.specs.declared.refusal.StepRefusal.{StepRefusal}
use Rattle.concrete_net.specs.Seen.{Seen}
use Rattle.concrete_net.specs.Refused.{IsCause}
use Rattle.concrete_net.specs.Answered.{StepsTo}
use Rattle.concrete_net.specs.declared.refusal.StepRefusal.TheVariants.{NoSuch, NotSent, NoCopy, NotHead, BadChoice}
use Rattle.concrete_net.specs.declared.refusal.StepRefusal.TheVariants.{NoMemory}
use Rattle.schedule.specs.declared.replayed.ReplayRefusal.TheVariants.{Refused}
use Rattle.schedule.specs.Texts.{IsEventInRange, line_of_event, lines_from, lines_of, bad_of, is_bad}
use Rattle.schedule.specs.Replays.{SoFar, IsStopped, refusal_at}

-- the numbers of the event of a step are in range

reaction : (plan : Plan) (box packet : ℕ) (outcome : Outcome) (old new : World) (event : Event) →
    (box < boxes_of plan) × (packet < packets_of plan) → Reacts plan box packet outcome old event new →
    IsEventInRange plan event
reaction plan box packet (Outcome.Done contents emissions) old new event fits r =
    subst (IsEventInRange plan) (sym r.0) tt
reaction plan box packet Outcome.Aborted old new event fits r = subst (IsEventInRange plan) (sym r.0) fits

pub in_range : (plan : Plan) (mode : Mode) (old new : World) (step : Step) (event : Event) → HostEnds → PortEnds →
    Leads plan mode old step event new → IsEventInRange plan event
in_range plan mode old new (Send host packet) event hosts ports leads =
    let is : IsSend plan host packet old event new = leads in subst (IsEventInRange plan) (sym is.happens) tt
in_range plan mode old new (Deliver end packet choices) event hosts ports (inl delivery) =
    let is : IsHostDelivery plan mode end packet choices old event new = delivery in
    let at = (hosts plan end is.host).0 is.at_host in
    subst (IsEventInRange plan) (sym is.happens) (at.0, is.packet_in_range)
in_range plan mode old new (Deliver end packet choices) event hosts ports (inr delivery) =
    let is : IsBoxDelivery plan mode end packet choices old event new = delivery in
    let at = (ports plan end is.box is.port).0 is.at_port in
    reaction plan is.box packet is.outcome is.left new event (at.0, is.packet_in_range) is.reacts
in_range plan mode old new (Revert box) event hosts ports leads =
    let is : IsRevert plan box old event new = leads in subst (IsEventInRange plan) (sym is.happens) tt

-- one more line, and one more event

lines_more : (plan : Plan) (k : ℕ) (events : List Event) (event : Event) →
    lines_from plan k (events ++ event ∷ [])
    ≡ lines_from plan k events ++ line_of_event plan (k + length events) event
lines_more plan k [] event =
    let place : k ≡ k + 0 = omega arith in
    append-nil (line_of_event plan k event) ∙ ap (λ n. line_of_event plan n event) place
lines_more plan k (other ∷ events) event =
    let place : k + 1 + length events ≡ k + suc (length events) = omega arith in
    ap (λ t. line_of_event plan k other ++ t) (lines_more plan (k + 1) events event)
    ∙ sym (append_assoc (line_of_event plan k other) (lines_from plan (k + 1) events)
    (line_of_event plan (k + 1 + length events) event))
    ∙ ap (λ n. (line_of_event plan k other ++ lines_from plan (k + 1) events) ++ line_of_event plan n event) place

bad_more : (plan : Plan) (events : List Event) (event : Event) →
    bad_of plan (events ++ event ∷ []) ≡ bad_of plan events + cond (is_bad plan event) 1 0
bad_more plan events event =
    let one : 0 + cond (is_bad plan event) 1 0 ≡ cond (is_bad plan event) 1 0 = omega arith in
    sum_by-append (λ e. cond (is_bad plan e) 1 0) events (event ∷ []) ∙ ap (λ n. bad_of plan events + n) one

next_taken : {X : Type 0} (xs : List X) (i : ℕ) (x : X) → slice_get xs i ≡ Some x →
    take (i + 1) xs ≡ take i xs ++ x ∷ []
next_taken {X} xs i x there = let place : i + 1 ≡ suc i = omega arith in rw place (from xs i there) where
  from : (ys : List X) (j : ℕ) → slice_get ys j ≡ Some x → take (suc j) ys ≡ take j ys ++ x ∷ []
  from [] j there = absurd (cc)
  from (y ∷ ys) zero there = let same : y ≡ x = cc in ap (λ z. z ∷ []) same
  from (y ∷ ys) (suc j) there = ap (λ l. y ∷ l) (from ys j there)

count_taken : {X : Type 0} (xs : List X) (i : ℕ) → i ≤ length xs → length (take i xs) ≡ i
count_taken xs zero le = refl
count_taken [] (suc i) le = absurd (omega (arith, le))
count_taken (x ∷ xs) (suc i) le = ap suc (count_taken xs i (omega (arith, le)))

module _ (plan : Plan) (first : Seen) (steps : List Step) (old : List ℕ) where
  one_more : (now next : Seen) (i : ℕ) (step : Step) (mid new : List ℕ) (event : Event) (bad : ℕ) → RunsCompose →
      StepKeepsWorld → IsSound plan → slice_get steps i ≡ Some step →
      SoFar plan first now (take i steps) old mid bad → StepsTo plan now step event next →
      new ≡ mid ++ line_of_event plan i event →
      SoFar plan first next (take (i + 1) steps) old new (bad + cond (is_bad plan event) 1 0)
  one_more now next i step mid new event bad compose keeps sound there so_far made appended =
      let taken = next_taken steps i step there in
      let within = slice_get_within steps i step there in
      let size : length so_far.events ≡ i =
      so_far.counted ∙ count_taken steps i (omega (arith, within)) in
      let leads : Leads plan first.mode now.world step event next.world =
      subst (λ m. Leads plan m now.world step event next.world) so_far.mode made.1 in
      let whole : Run plan first.mode first.world (take i steps ++ step ∷ []) (so_far.events ++ event ∷ []) next.world =
      (compose plan first.mode (take i steps) (step ∷ []) first.world next.world (so_far.events ++ event ∷ [])).1 (
        so_far.events,
        event ∷ [],
        now.world,
        refl,
        so_far.run,
        (event, [], next.world, refl, leads, (refl, refl)),
      ) in
      let place : i ≡ 0 + length so_far.events = omega (arith, size) in record {
        events = so_far.events ++ event ∷ [];
        run = subst (λ l. Run plan first.mode first.world l (so_far.events ++ event ∷ []) next.world) (sym taken) whole;
        mode = made.0 ∙ so_far.mode;
        world = keeps plan now.mode step now.world next.world event sound so_far.world made.1;
        text = appended ∙ ap (λ t. t ++ line_of_event plan i event) so_far.text
            ∙ append_assoc old (lines_of plan so_far.events) (line_of_event plan i event)
            ∙ ap (λ n. old ++ (lines_of plan so_far.events ++ line_of_event plan n event)) place
            ∙ ap (λ t. old ++ t) (sym (lines_more plan 0 so_far.events event));
        counted = length-append so_far.events (event ∷ []) ∙ ap (λ n. n + 1) so_far.counted
            ∙ sym (length-append (take i steps) (step ∷ [])) ∙ ap length (sym taken);
        bad_is = ap (λ n. n + cond (is_bad plan event) 1 0) so_far.bad_is ∙ sym (bad_more plan so_far.events event);
      }

  pub next_told : (now next : Seen) (i : ℕ) (step : Step) (mid new : List ℕ) (bad : ℕ) (is : Bool) → RunsCompose →
      StepKeepsWorld → IsSound plan → slice_get steps i ≡ Some step →
      SoFar plan first now (take i steps) old mid bad →
      ((event : Event) × StepsTo plan now step event next × (new ≡ mid ++ line_of_event plan i event)
      × (is ≡ is_bad plan event)) → SoFar plan first next (take (i + 1) steps) old new (bad + cond is 1 0)
  next_told now next i step mid new bad is compose keeps sound there so_far (event, made, appended, same) =
      subst (λ b. SoFar plan first next (take (i + 1) steps) old new (bad + cond b 1 0)) (sym same)
      (one_more now next i step mid new event bad compose keeps sound there so_far made appended)

  pub few_bad : (now : Seen) (i bad : ℕ) (mid : List ℕ) → i ≤ length steps →
      SoFar plan first now (take i steps) old mid bad → bad ≤ i
  few_bad now i bad mid le so_far =
      omega (
        arith,
        so_far.bad_is,
        so_far.counted,
        count_taken steps i le,
        count_by-le-length (is_bad plan)
            so_far.events,
      )

  refused_there : (now : Seen) (i : ℕ) (step : Step) (mid new : List ℕ) (bad : ℕ) (why : StepRefusal) →
      slice_get steps i ≡ Some step → SoFar plan first now (take i steps) old mid bad →
      IsCause plan now step why → new ≡ mid → IsStopped plan first steps old (Refused i why) new
  refused_there now i step mid new bad why there so_far cause same = (
    so_far.events,
    record {
      world = now.world;
      run = so_far.run;
      step = step;
      numbered = there;
      cause = subst (λ m. IsCause plan (record { mode = m; world = now.world }) step why) so_far.mode cause;
    },
    same ∙ so_far.text,
  )

  pub stopped : (now : Seen) (i : ℕ) (step : Step) (mid new : List ℕ) (bad : ℕ) (why : StepRefusal) →
      slice_get steps i ≡ Some step → SoFar plan first now (take i steps) old mid bad →
      ((why ≡ NoMemory) ⊎ (IsCause plan now step why × (new ≡ mid))) →
      IsStopped plan first steps old (refusal_at i why) new
  stopped now i step mid new bad why there so_far (inl wants) =
      subst (λ w. IsStopped plan first steps old (refusal_at i w) new) (sym wants) tt
  stopped now i step mid new bad NoSuch there so_far (inr p) =
      refused_there now i step mid new bad NoSuch there so_far p.0 p.1
  stopped now i step mid new bad NotSent there so_far (inr p) =
      refused_there now i step mid new bad NotSent there so_far p.0 p.1
  stopped now i step mid new bad NoCopy there so_far (inr p) =
      refused_there now i step mid new bad NoCopy there so_far p.0 p.1
  stopped now i step mid new bad NotHead there so_far (inr p) =
      refused_there now i step mid new bad NotHead there so_far p.0 p.1
  stopped now i step mid new bad (BadChoice k) there so_far (inr p) =
      refused_there now i step mid new bad (BadChoice k) there so_far p.0 p.1
  stopped now i step mid new bad NoMemory there so_far (inr p) = tt
