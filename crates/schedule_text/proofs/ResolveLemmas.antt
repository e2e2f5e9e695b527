-- Steps that are named: what the first of them come to, and that the first fault is one.
use Rattle.std.proofs.Common.{◌≡◌, ◌<◌, ◌≤◌, ◌+◌, ℕ, zero, suc, List, [], ◌∷◌, ◌++◌, length, take, get_or, Result, Ok}
use Rattle.std.proofs.Common.{Err, All, inl, inr, refl, sym, ap, subst, arith, add-one}
use Rattle.std.proofs.lemmas.List.{take_all}
use Rattle.std.proofs.lemmas.List.Elements.{All-head, All-tail}
use Rattle.net_plan.specs.declared.plan.Plan.{Plan}
use Rattle.net_runs.specs.declared.world.Step.{Step}
use Rattle.net_runs.specs.declared.world.Step.TheVariants.{Send, Deliver, Revert}
use Rattle.schedule_text.specs.declared.steps.ScheduleStep.{ScheduleStep}
use Rattle.schedule_text.specs.declared.steps.ScheduleStep.TheVariants as named
use Rattle.schedule_text.specs.declared.refusal.StepFault.{StepFault}
use Rattle.schedule_text.specs.declared.refusal.StepFault.TheVariants as faults
use Rattle.schedule_text.specs.declared.refusal.ResolveRefusal.{ResolveRefusal}
use Rattle.schedule_text.specs.declared.refusal.ResolveRefusal.TheVariants.{UnknownName, OutOfRange, NoMemory}
use Rattle.schedule_text.specs.Resolved.{IsUndeclared, IsPacketInRange, IsPacketOutOfRange}
use Rattle.schedule_text.specs.Resolved.{IsFaultless, IsOutOfRange, Resolves, AllResolve, IsFirstFault}
use Rattle.schedule_text.specs.Resolved.{IsUnknownNameAt, IsOutOfRangeAt, IsStepAnswer, IsResolution, refusal_of}
use Rattle.schedule_text.specs.Resolved.{IsRefusedOrWantsMemory, IsFoundOrWantsMemory}

module _ (plan : Plan) where
  -- a step that stands for one of the network has no fault
  faultless : (step : ScheduleStep) (other : Step) → Resolves plan step other → IsFaultless plan step
  faultless (named.Send host packet) (Send number p) r = ((number, r.0), r.1)
  faultless (named.Deliver end packet choices) (Deliver number p others) r = ((number, r.0), r.1)
  faultless (named.Revert box) (Revert number) r = ((number, r), tt)
  faultless (named.Send host packet) (Deliver number p others) r = absurd r
  faultless (named.Send host packet) (Revert number) r = absurd r
  faultless (named.Deliver end packet choices) (Send number p) r = absurd r
  faultless (named.Deliver end packet choices) (Revert number) r = absurd r
  faultless (named.Revert box) (Send number p) r = absurd r
  faultless (named.Revert box) (Deliver number p others) r = absurd r

  in_and_out : (step : ScheduleStep) → IsPacketInRange plan step → IsPacketOutOfRange plan step → ⊥
  in_and_out (named.Send host packet) p q = omega (arith, p, q)
  in_and_out (named.Deliver end packet choices) p q = omega (arith, p, q)
  in_and_out (named.Revert box) p q = q

  not_undeclared : (step : ScheduleStep) → IsFaultless plan step → IsUndeclared plan step → ⊥
  not_undeclared step p q = q p.0.0 p.0.1

  not_out : (step : ScheduleStep) → IsFaultless plan step → IsOutOfRange plan step → ⊥
  not_out step p q = in_and_out step p.1 q.1

  -- the loop

  next_resolves : (i : ℕ) (steps : List ScheduleStep) (step : ScheduleStep) (found : List Step) (other : Step) →
      i < length steps → step ≡ get_or steps i step → AllResolve plan (take i steps) found → Resolves plan step other →
      AllResolve plan (take (suc i) steps) (found ++ other ∷ [])
  next_resolves zero (x ∷ steps) step [] other lt here all r = (subst (λ s. Resolves plan s other) here r, tt)
  next_resolves zero [] step found other lt here all r = absurd (omega (arith, lt))
  next_resolves zero (x ∷ steps) step (y ∷ found) other lt here all r = absurd all
  next_resolves (suc i) [] step found other lt here all r = absurd (omega (arith, lt))
  next_resolves (suc i) (x ∷ steps) step [] other lt here all r = absurd all
  next_resolves (suc i) (x ∷ steps) step (y ∷ found) other lt here all r =
      (all.0, next_resolves i steps step found other (omega (arith, lt)) here all.1 r)

  pub one_more : (i : ℕ) (steps : List ScheduleStep) (step : ScheduleStep) (found : List Step) (other : Step) →
      i < length steps → step ≡ get_or steps i step → AllResolve plan (take i steps) found → Resolves plan step other →
      AllResolve plan (take (i + 1) steps) (found ++ other ∷ [])
  one_more i steps step found other lt here all r =
      subst (λ n. AllResolve plan (take n steps) (found ++ other ∷ [])) (sym (add-one i))
      (next_resolves i steps step found other lt here all r)

  at_fault : (Faulty : ScheduleStep → Type 0) (i : ℕ) (steps : List ScheduleStep) (step : ScheduleStep)
      (found : List Step) → i < length steps → step ≡ get_or steps i step → AllResolve plan (take i steps) found →
      Faulty step → IsFirstFault plan Faulty steps (length found)
  at_fault Faulty zero (x ∷ steps) step [] lt here all f = subst Faulty here f
  at_fault Faulty zero [] step found lt here all f = absurd (omega (arith, lt))
  at_fault Faulty zero (x ∷ steps) step (y ∷ found) lt here all f = absurd all
  at_fault Faulty (suc i) [] step found lt here all f = absurd (omega (arith, lt))
  at_fault Faulty (suc i) (x ∷ steps) step [] lt here all f = absurd all
  at_fault Faulty (suc i) (x ∷ steps) step (y ∷ found) lt here all f =
      (faultless x y all.0, at_fault Faulty i steps step found (omega (arith, lt)) here all.1 f)

  pub refused_there : (i : ℕ) (steps : List ScheduleStep) (step : ScheduleStep) (found : List Step)
      (fault : StepFault) → i < length steps → step ≡ get_or steps i step → AllResolve plan (take i steps) found →
      IsStepAnswer plan step (Err fault) → IsResolution plan steps (Err (refusal_of fault (length found)))
  refused_there i steps step found faults.UnknownName lt here all f =
      at_fault (IsUndeclared plan) i steps step found lt here all f
  refused_there i steps step found faults.OutOfRange lt here all f =
      at_fault (IsOutOfRange plan) i steps step found lt here all f
  refused_there i steps step found faults.NoMemory lt here all f = tt

  pub all_found : (i : ℕ) (steps : List ScheduleStep) (found : List Step) → length steps ≤ i →
      AllResolve plan (take i steps) found → AllResolve plan steps found
  all_found i steps found all r = subst (λ l. AllResolve plan l found) (take_all i steps all) r

  pub as_many : (i : ℕ) (steps : List ScheduleStep) (found : List Step) → i ≤ length steps →
      AllResolve plan (take i steps) found → length found ≡ i
  as_many zero steps [] le r = refl
  as_many zero steps (y ∷ found) le r = absurd r
  as_many (suc i) [] found le r = absurd (omega (arith, le))
  as_many (suc i) (x ∷ steps) [] le r = absurd r
  as_many (suc i) (x ∷ steps) (y ∷ found) le r = ap suc (as_many i steps found (omega (arith, le)) r.1)

  -- the answers exclude one another

  all_faultless : (steps : List ScheduleStep) (found : List Step) (Faulty : ScheduleStep → Type 0) (s : ℕ) →
      ((step : ScheduleStep) → IsFaultless plan step → Faulty step → ⊥) → AllResolve plan steps found →
      IsFirstFault plan Faulty steps s → ⊥
  all_faultless [] found Faulty s apart r f = absurd f
  all_faultless (x ∷ steps) [] Faulty s apart r f = absurd r
  all_faultless (x ∷ steps) (y ∷ found) Faulty zero apart r f = apart x (faultless x y r.0) f
  all_faultless (x ∷ steps) (y ∷ found) Faulty (suc s) apart r f = all_faultless steps found Faulty s apart r.1 f.1

  same_place : (One Two : ScheduleStep → Type 0) → ((step : ScheduleStep) → IsFaultless plan step → One step → ⊥) →
      ((step : ScheduleStep) → IsFaultless plan step → Two step → ⊥) → (steps : List ScheduleStep) (s t : ℕ) →
      IsFirstFault plan One steps s → IsFirstFault plan Two steps t →
      (s ≡ t) × (step : ScheduleStep) × One step × Two step
  same_place One Two no1 no2 [] s t f g = absurd f
  same_place One Two no1 no2 (x ∷ steps) zero zero f g = (refl, x, f, g)
  same_place One Two no1 no2 (x ∷ steps) zero (suc t) f g = absurd (no1 x g.0 f)
  same_place One Two no1 no2 (x ∷ steps) (suc s) zero f g = absurd (no2 x f.0 g)
  same_place One Two no1 no2 (x ∷ steps) (suc s) (suc t) f g =
      let rest = same_place One Two no1 no2 steps s t f.1 g.1 in (ap suc rest.0, rest.1, rest.2, rest.3)

  without_fault : (steps : List ScheduleStep) (Faulty : ScheduleStep → Type 0) (s : ℕ) →
      ((step : ScheduleStep) → IsFaultless plan step → Faulty step → ⊥) → All (IsFaultless plan) steps →
      IsFirstFault plan Faulty steps s → ⊥
  without_fault [] Faulty s apart r f = absurd f
  without_fault (x ∷ steps) Faulty zero apart r f = apart x (All-head (IsFaultless plan) x steps r) f
  without_fault (x ∷ steps) Faulty (suc s) apart r f =
      without_fault steps Faulty s apart (All-tail (IsFaultless plan) x steps r) f.1

  pub is_found : (steps : List ScheduleStep) (r : Result (List Step) ResolveRefusal) → IsResolution plan steps r →
      All (IsFaultless plan) steps → IsFoundOrWantsMemory r
  is_found steps (Ok found) h p = tt
  is_found steps (Err (UnknownName s)) h p = without_fault steps (IsUndeclared plan) s not_undeclared p h
  is_found steps (Err (OutOfRange s)) h p = without_fault steps (IsOutOfRange plan) s not_out p h
  is_found steps (Err NoMemory) h p = tt

  pub is_unknown : (steps : List ScheduleStep) (r : Result (List Step) ResolveRefusal) → IsResolution plan steps r →
      (s : ℕ) →
      IsUnknownNameAt plan steps s → IsRefusedOrWantsMemory r (UnknownName s)
  is_unknown steps (Ok found) h s f = absurd (all_faultless steps found (IsUndeclared plan) s not_undeclared h f)
  is_unknown steps (Err (UnknownName t)) h s f =
      let same =
      same_place (IsUndeclared plan) (IsUndeclared plan) not_undeclared not_undeclared steps t s h f in
      inl (ap (λ n. Err (UnknownName n)) same.0)
  is_unknown steps (Err (OutOfRange t)) h s f =
      let same = same_place (IsOutOfRange plan) (IsUndeclared plan) not_out not_undeclared steps t s h f in
      absurd (same.3 same.2.0.0 same.2.0.1)
  is_unknown steps (Err NoMemory) h s f = inr refl

  pub is_outside : (steps : List ScheduleStep) (r : Result (List Step) ResolveRefusal) → IsResolution plan steps r →
      (s : ℕ) →
      IsOutOfRangeAt plan steps s → IsRefusedOrWantsMemory r (OutOfRange s)
  is_outside steps (Ok found) h s f = absurd (all_faultless steps found (IsOutOfRange plan) s not_out h f)
  is_outside steps (Err (UnknownName t)) h s f =
      let same = same_place (IsUndeclared plan) (IsOutOfRange plan) not_undeclared not_out steps t s h f in
      absurd (same.2 same.3.0.0 same.3.0.1)
  is_outside steps (Err (OutOfRange t)) h s f =
      let same = same_place (IsOutOfRange plan) (IsOutOfRange plan) not_out not_out steps t s h f in
      inl (ap (λ n. Err (OutOfRange n)) same.0)
  is_outside steps (Err NoMemory) h s f = inr refl
