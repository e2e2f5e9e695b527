-- Readings of tokens as steps of a network, and that tokens have one.
use Rattle.std.proofs.Common.{◌≡◌, ◌≤◌, ℕ, List, [], ◌∷◌, length, Result, Ok, Err, inl, inr, refl, sym, ap, subst}
use Rattle.std.proofs.Common.{◌∙◌, arith, suc}
use Rattle.amdl_tree.specs.declared.token.Token.{Token}
use Rattle.amdl_tree.specs.declared.tree.End.{End}
use Rattle.amdl_tree.specs.declared.tree.End.TheVariants.{Host as AtHost, Port as AtPort}
use Rattle.net_plan.specs.declared.plan.Plan.{Plan}
use Rattle.net_plan.specs.declared.fact.Place.TheVariants.{Host, Port}
use Rattle.net_plan.specs.Plan.{box_at, port_name_at}
use Rattle.net_plan.specs.Sound.{IsSound}
use Rattle.net_runs.specs.declared.world.Step.{Step}
use Rattle.net_runs.specs.declared.world.Step.TheVariants.{Send, Deliver, Revert}
use Rattle.schedule_text.specs.declared.steps.ScheduleStep.{ScheduleStep}
use Rattle.schedule_text.specs.declared.steps.ScheduleStep.TheVariants as named
use Rattle.schedule_text.specs.declared.refusal.ScheduleSyntax.{ScheduleSyntax}
use Rattle.schedule_text.specs.declared.refusal.ScheduleSyntax.TheVariants as texts
use Rattle.schedule_text.specs.declared.refusal.ResolveRefusal.{ResolveRefusal}
use Rattle.schedule_text.specs.declared.refusal.ResolveRefusal.TheVariants as names
use Rattle.schedule_text.specs.Answering.{IsScheduleAnswer, IsScheduleSyntaxAt}
use Rattle.schedule_text.specs.Laws.{AreSpelledBy, OneAnswer}
use Rattle.schedule_text.specs.Resolved.{IsEndCalled, Resolves, AllResolve, IsUnknownNameAt, IsOutOfRangeAt}
use Rattle.schedule_text.specs.Resolved.{IsResolution}
use Rattle.schedule_text.proofs.NameLemmas.{host_once, box_once, place_once}
use Rattle.schedule_text.proofs.ResolveLemmas.{is_unknown, is_outside}
use Rattle.schedule.specs.declared.refusal.ScheduleRefusal.{ScheduleRefusal}
use Rattle.schedule.specs.declared.refusal.ScheduleRefusal.TheVariants.{Syntax, UnknownName, OutOfRange, NoMemory}
use Rattle.schedule.specs.Laws.{OneReading}
use Rattle.schedule.specs.Read.{ReadsAs, IsCauseOf, IsReading, IsOrWantsMemory, of_syntax, of_names}

-- the two parts of a reading

pub found : (plan : Plan) (tokens : List Token) (steps : List ScheduleStep) (others : List Step) →
    IsScheduleAnswer tokens (Ok steps) → IsResolution plan steps (Ok others) → IsReading plan tokens (Ok others)
found plan tokens steps others spelled all = (steps, spelled, all)

pub not_parsed : (plan : Plan) (tokens : List Token) (refusal : ScheduleSyntax) →
    IsScheduleAnswer tokens (Err refusal) → IsReading plan tokens (Err (of_syntax refusal))
not_parsed plan tokens (texts.Syntax k) stops = inl stops
not_parsed plan tokens texts.NoMemory stops = inr refl

pub not_found : (plan : Plan) (tokens : List Token) (steps : List ScheduleStep) (refusal : ResolveRefusal) →
    IsScheduleAnswer tokens (Ok steps) → IsResolution plan steps (Err refusal) →
    IsReading plan tokens (Err (of_names refusal))
not_found plan tokens steps (names.UnknownName s) spelled first = inl (steps, spelled, first)
not_found plan tokens steps (names.OutOfRange s) spelled first = inl (steps, spelled, first)
not_found plan tokens steps names.NoMemory spelled first = inr refl

as_many : (plan : Plan) (steps : List ScheduleStep) (others : List Step) → AllResolve plan steps others →
    length others ≡ length steps
as_many plan [] [] all = refl
as_many plan [] (other ∷ others) all = absurd all
as_many plan (step ∷ steps) [] all = absurd all
as_many plan (step ∷ steps) (other ∷ others) all = ap suc (as_many plan steps others all.1)

pub few_found : (plan : Plan) (steps : List ScheduleStep) (others : List Step) (most : ℕ) → length steps ≤ most →
    IsResolution plan steps (Ok others) → length others ≤ most
few_found plan steps others most few all = omega (arith, few, as_many plan steps others all)

-- what a step is resolved to is one

module _ (plan : Plan) (sound : IsSound plan) where
  end_once : (end : End) (one two : ℕ) → IsEndCalled plan end one → IsEndCalled plan end two → one ≡ two
  end_once (AtHost host) one two (Host number, there, same) q =
      sym (place_once plan sound one two (Host number) there
      (subst (λ n. IsEndCalled plan (AtHost n) two) (sym same) q))
  end_once (AtHost host) one two (Port box port, there, same) q = absurd same
  end_once (AtPort box port) one two (Host number, there, same) q = absurd same
  end_once (AtPort box port) one two (Port number other, there, same) q =
      sym (place_once plan sound one two (Port number other) there
      (subst (λ n. IsEndCalled plan (AtPort n (port_name_at plan (box_at plan number) other)) two) (sym same.0)
      (subst (λ n. IsEndCalled plan (AtPort box n) two) (sym same.1) q)))

  resolved_once : (step : ScheduleStep) (one two : Step) → Resolves plan step one → Resolves plan step two → one ≡ two
  resolved_once (named.Send host packet) (Send n p) (Send m q) r s =
      ap (λ h. Send h p) (host_once plan sound host n m r.0 s.0) ∙ ap (Send m) (r.2 ∙ sym s.2)
  resolved_once (named.Deliver end packet choices) (Deliver n p cs) (Deliver m q ds) r s =
      ap (λ e. Deliver e p cs) (end_once end n m r.0 s.0) ∙ ap (λ k. Deliver m k cs) (r.2 ∙ sym s.2)
      ∙ ap (Deliver m q) (r.3 ∙ sym s.3)
  resolved_once (named.Revert box) (Revert n) (Revert m) r s = ap Revert (box_once plan sound box n m r s)
  resolved_once (named.Send host packet) (Send n p) (Deliver m q ds) r s = absurd s
  resolved_once (named.Send host packet) (Send n p) (Revert m) r s = absurd s
  resolved_once (named.Send host packet) (Deliver n p cs) two r s = absurd r
  resolved_once (named.Send host packet) (Revert n) two r s = absurd r
  resolved_once (named.Deliver end packet choices) (Deliver n p cs) (Send m q) r s = absurd s
  resolved_once (named.Deliver end packet choices) (Deliver n p cs) (Revert m) r s = absurd s
  resolved_once (named.Deliver end packet choices) (Send n p) two r s = absurd r
  resolved_once (named.Deliver end packet choices) (Revert n) two r s = absurd r
  resolved_once (named.Revert box) (Revert n) (Send m q) r s = absurd s
  resolved_once (named.Revert box) (Revert n) (Deliver m q ds) r s = absurd s
  resolved_once (named.Revert box) (Send n p) two r s = absurd r
  resolved_once (named.Revert box) (Deliver n p cs) two r s = absurd r

  all_once : (steps : List ScheduleStep) (one two : List Step) → AllResolve plan steps one →
      AllResolve plan steps two → one ≡ two
  all_once [] [] [] r s = refl
  all_once [] [] (y ∷ two) r s = absurd s
  all_once [] (x ∷ one) two r s = absurd r
  all_once (step ∷ steps) [] two r s = absurd r
  all_once (step ∷ steps) (x ∷ one) [] r s = absurd s
  all_once (step ∷ steps) (x ∷ one) (y ∷ two) r s =
      ap (λ z. z ∷ one) (resolved_once step x y r.0 s.0) ∙ ap (λ l. y ∷ l) (all_once steps one two r.1 s.1)

-- a reading is the only one

same_named : (tokens : List Token) (one two : List ScheduleStep) → OneAnswer → AreSpelledBy tokens one →
    AreSpelledBy tokens two → one ≡ two
same_named tokens one two only p q = let is = only tokens in is.steps one two p q

never_both : (tokens : List Token) (steps : List ScheduleStep) (k : ℕ) → OneAnswer → AreSpelledBy tokens steps →
    IsScheduleSyntaxAt tokens k → ⊥
never_both tokens steps k only p q = let is = only tokens in is.apart steps k p q

module _ (plan : Plan) (tokens : List Token) where
  -- a first faulty step leaves the steps without numbers
  not_unknown : (steps : List ScheduleStep) (others : List Step) (s : ℕ) → AllResolve plan steps others →
      IsUnknownNameAt plan steps s → ⊥
  not_unknown steps others s all first = elim (is_unknown plan steps (Ok others) all s first) [
    | inl e ↦ (let no : ⊥ = cc in no)
    | inr e ↦ (let no : ⊥ = cc in no)
  ]

  not_outside : (steps : List ScheduleStep) (others : List Step) (s : ℕ) → AllResolve plan steps others →
      IsOutOfRangeAt plan steps s → ⊥
  not_outside steps others s all first = elim (is_outside plan steps (Ok others) all s first) [
    | inl e ↦ (let no : ⊥ = cc in no)
    | inr e ↦ (let no : ⊥ = cc in no)
  ]

  same_unknown : (steps : List ScheduleStep) (s t : ℕ) → IsUnknownNameAt plan steps s → IsUnknownNameAt plan steps t →
      s ≡ t
  same_unknown steps s t first second = elim (is_unknown plan steps (Err (names.UnknownName s)) first t second) [
    | inl e ↦ (let same : s ≡ t = cc in same)
    | inr e ↦ (let no : ⊥ = cc in absurd no)
  ]

  same_outside : (steps : List ScheduleStep) (s t : ℕ) → IsOutOfRangeAt plan steps s → IsOutOfRangeAt plan steps t →
      s ≡ t
  same_outside steps s t first second = elim (is_outside plan steps (Err (names.OutOfRange s)) first t second) [
    | inl e ↦ (let same : s ≡ t = cc in same)
    | inr e ↦ (let no : ⊥ = cc in absurd no)
  ]

  unknown_outside : (steps : List ScheduleStep) (s t : ℕ) → IsUnknownNameAt plan steps s →
      IsOutOfRangeAt plan steps t → ⊥
  unknown_outside steps s t first second = elim (is_outside plan steps (Err (names.UnknownName s)) first t second) [
    | inl e ↦ (let no : ⊥ = cc in no)
    | inr e ↦ (let no : ⊥ = cc in no)
  ]

  pub is_read : (result : Result (List Step) ScheduleRefusal) (steps : List Step) → IsSound plan → OneAnswer →
      IsReading plan tokens result → ReadsAs plan tokens steps → IsOrWantsMemory result (Ok steps)
  is_read (Ok others) steps sound only p q =
      let same : p.0 ≡ q.0 = same_named tokens p.0 q.0 only p.1 q.1 in
      let all : AllResolve plan q.0 others = subst (λ l. AllResolve plan l others) same p.2 in
      inl (ap Ok (all_once plan sound q.0 others steps all q.2))
  is_read (Err (Syntax k)) steps sound only (inl p) q = absurd (never_both tokens q.0 k only q.1 p)
  is_read (Err (UnknownName s)) steps sound only (inl p) q =
      let same : p.0 ≡ q.0 = same_named tokens p.0 q.0 only p.1 q.1 in
      absurd (not_unknown q.0 steps s q.2 (subst (λ l. IsUnknownNameAt plan l s) same p.2))
  is_read (Err (OutOfRange s)) steps sound only (inl p) q =
      let same : p.0 ≡ q.0 = same_named tokens p.0 q.0 only p.1 q.1 in
      absurd (not_outside q.0 steps s q.2 (subst (λ l. IsOutOfRangeAt plan l s) same p.2))
  is_read (Err NoMemory) steps sound only (inl p) q = absurd p
  is_read (Err refusal) steps sound only (inr e) q = inr (ap Err e)

  pub is_refused : (result : Result (List Step) ScheduleRefusal) (refusal : ScheduleRefusal) → IsSound plan →
      OneAnswer → IsReading plan tokens result → IsCauseOf plan tokens refusal → IsOrWantsMemory result (Err refusal)
  is_refused (Ok others) (Syntax k) sound only p q = absurd (never_both tokens p.0 k only p.1 q)
  is_refused (Ok others) (UnknownName s) sound only p q =
      let same : q.0 ≡ p.0 = same_named tokens q.0 p.0 only q.1 p.1 in
      absurd (not_unknown p.0 others s p.2 (subst (λ l. IsUnknownNameAt plan l s) same q.2))
  is_refused (Ok others) (OutOfRange s) sound only p q =
      let same : q.0 ≡ p.0 = same_named tokens q.0 p.0 only q.1 p.1 in
      absurd (not_outside p.0 others s p.2 (subst (λ l. IsOutOfRangeAt plan l s) same q.2))
  is_refused result NoMemory sound only p q = absurd q
  is_refused (Err other) refusal sound only (inr e) q = inr (ap Err e)
  is_refused (Err (Syntax k)) (Syntax m) sound only (inl p) q =
      let is = only tokens in inl (ap (λ n. Err (Syntax n)) (is.fault k m p q))
  is_refused (Err (Syntax k)) (UnknownName s) sound only (inl p) q = absurd (never_both tokens q.0 k only q.1 p)
  is_refused (Err (Syntax k)) (OutOfRange s) sound only (inl p) q = absurd (never_both tokens q.0 k only q.1 p)
  is_refused (Err (UnknownName s)) (Syntax k) sound only (inl p) q = absurd (never_both tokens p.0 k only p.1 q)
  is_refused (Err (UnknownName s)) (UnknownName t) sound only (inl p) q =
      let same : p.0 ≡ q.0 = same_named tokens p.0 q.0 only p.1 q.1 in
      inl (ap (λ n. Err (UnknownName n))
      (same_unknown q.0 s t (subst (λ l. IsUnknownNameAt plan l s) same p.2) q.2))
  is_refused (Err (UnknownName s)) (OutOfRange t) sound only (inl p) q =
      let same : p.0 ≡ q.0 = same_named tokens p.0 q.0 only p.1 q.1 in
      absurd (unknown_outside q.0 s t (subst (λ l. IsUnknownNameAt plan l s) same p.2) q.2)
  is_refused (Err (OutOfRange s)) (Syntax k) sound only (inl p) q = absurd (never_both tokens p.0 k only p.1 q)
  is_refused (Err (OutOfRange s)) (UnknownName t) sound only (inl p) q =
      let same : p.0 ≡ q.0 = same_named tokens p.0 q.0 only p.1 q.1 in
      absurd (unknown_outside q.0 t s q.2 (subst (λ l. IsOutOfRangeAt plan l s) same p.2))
  is_refused (Err (OutOfRange s)) (OutOfRange t) sound only (inl p) q =
      let same : p.0 ≡ q.0 = same_named tokens p.0 q.0 only p.1 q.1 in
      inl (ap (λ n. Err (OutOfRange n))
      (same_outside q.0 s t (subst (λ l. IsOutOfRangeAt plan l s) same p.2) q.2))
  is_refused (Err NoMemory) refusal sound only (inl p) q = absurd p

module _ (only : OneAnswer) (plan : Plan) (tokens : List Token) (sound : IsSound plan) where
  one_list : (one two : List Step) → ReadsAs plan tokens one → ReadsAs plan tokens two → one ≡ two
  one_list one two p q = elim (is_read plan tokens (Ok one) two sound only p q) [
    | inl e ↦ (let same : one ≡ two = cc in same)
    | inr e ↦ (let no : ⊥ = cc in absurd no)
  ]

  never_wanting : (refusal : ScheduleRefusal) → IsCauseOf plan tokens refusal → refusal ≡ NoMemory → ⊥
  never_wanting refusal cause e = subst (IsCauseOf plan tokens) e cause

  one_cause : (one two : ScheduleRefusal) → IsCauseOf plan tokens one → IsCauseOf plan tokens two → one ≡ two
  one_cause one two p q = elim (is_refused plan tokens (Err one) two sound only (inl p) q) [
    | inl e ↦ (let same : one ≡ two = cc in same)
    | inr e ↦ (let wants : one ≡ NoMemory = cc in absurd (never_wanting one p wants))
  ]

  not_both : (steps : List Step) (refusal : ScheduleRefusal) → ReadsAs plan tokens steps →
      IsCauseOf plan tokens refusal → ⊥
  not_both steps refusal p q = elim (is_refused plan tokens (Ok steps) refusal sound only p q) [
    | inl e ↦ (let no : ⊥ = cc in no)
    | inr e ↦ (let no : ⊥ = cc in no)
  ]

pub one_reading : OneAnswer → OneReading
one_reading only plan tokens sound = record {
  steps = one_list only plan tokens sound;
  cause = one_cause only plan tokens sound;
  apart = not_both only plan tokens sound;
}
