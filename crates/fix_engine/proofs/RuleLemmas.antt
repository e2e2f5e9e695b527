-- What is kept from turn to turn: all that follows from what is done is found, and all that is found can be derived.
use Rattle.std.proofs.Common.{◌≡◌, ℕ, suc, arith, ◌⊎◌, ◌↔◌, inl, inr, List, [], ◌∷◌, ◌++◌, sym, ap, subst, ◌∙◌}
use Rattle.std.specs.List.{All, Contains}
use Rattle.std.proofs.lemmas.List.{append-nil}
use Rattle.std.proofs.lemmas.List.Elements.{All-nil, All-cons, All-head, All-tail, All-weaker, Contains-push_cases}
use Rattle.amdl_tree.specs.Derivation.{IsDerivable}
use Rattle.amdl_tree.proofs.DerivationLemmas.{derivable_start, derivable_step, derivable_kept}
use Rattle.fix_engine.specs.Closed.{IsClosed}
use Rattle.fix_engine.specs.Progress.{Progress, found_in, nothing_found, Takes, Grows}
use Rattle.fix_engine.specs.Rules.{GivenOrFollows, HasReacted}
use Rattle.fix_engine.proofs.ProgressLemmas.{found_stays, Takes-found}

-- all that follows from cells that are done is found
abbrev pub IsHandled : (List ℕ → ℕ → Type 0) → List ℕ → List ℕ → Type 0
IsHandled follows done found =
    (premises : List ℕ) (conclusion : ℕ) → follows premises conclusion → All (Contains done) premises →
    Contains found conclusion

abbrev pub IsDerived : (List ℕ → ℕ → Type 0) → List ℕ → Type 0
IsDerived follows found = (cell : ℕ) → Contains found cell → IsDerivable follows cell

-- premises of which each is in the list or is the one cell: all are in the list, or that cell is among them
Contains-tail : (x : ℕ) (xs : List ℕ) (y : ℕ) → Contains xs y → Contains (x ∷ xs) y
Contains-tail x xs y has = (suc has.0, omega (arith, has.1), has.2)

split_by : (done : List ℕ) (cell : ℕ) (premises : List ℕ) → All (Contains (done ++ cell ∷ [])) premises →
    All (Contains done) premises ⊎ Contains premises cell
split_by done cell [] all = inl (All-nil (Contains done))
split_by done cell (premise ∷ premises) all =
    elim (Contains-push_cases done cell premise (All-head (Contains (done ++ cell ∷ [])) premise premises all)) [
      | inr here ↦ inr (0, omega arith, sym here)
      | inl before ↦ elim (split_by done cell premises (All-tail (Contains (done ++ cell ∷ [])) premise premises all)) [
        | inl rest ↦ inl (All-cons (Contains done) premise premises before rest)
        | inr among ↦ inr (Contains-tail premise premises cell among)
      ]
    ]

module _ (follows : List ℕ → ℕ → Type 0) where
  pub handled_start : (found : List ℕ) → ((cell : ℕ) → follows [] cell → Contains found cell) →
      IsHandled follows [] found
  handled_start found starts [] conclusion gives all = starts conclusion gives
  handled_start found starts (premise ∷ premises) conclusion gives all =
      absurd (omega (arith, (All-head (Contains []) premise premises all).1))

  pub handled_react : (old : Progress) (cell : ℕ) (mid new : Progress) → Takes old cell mid → Grows mid new →
      HasReacted follows cell mid.done (found_in new)
      → IsHandled follows old.done (found_in old) → IsHandled follows new.done (found_in new)
  handled_react old cell mid new takes grows reacted handled premises conclusion gives all =
      let known : All (Contains mid.done) premises = subst (λ l. All (Contains l) premises) grows.done all in
      elim (split_by old.done cell premises (subst (λ l. All (Contains l) premises) takes.done known)) [
        | inl before ↦ found_stays mid new grows conclusion
            (subst (λ l. Contains l conclusion) (sym (Takes-found old cell mid takes))
            (handled premises conclusion gives before))
        | inr among ↦ reacted premises conclusion gives among known
      ]

  pub derived_from : (given : List ℕ) → IsDerived follows given → (cell : ℕ) →
      IsDerivable (GivenOrFollows follows given) cell → IsDerivable follows cell
  derived_from given known cell derivable =
      derivable_kept (GivenOrFollows follows given) (IsDerivable follows) (λ premises conclusion all gives. elim gives [
        | inl here ↦ known conclusion here
        | inr rule ↦ derivable_step follows premises conclusion all rule
      ]) cell derivable

  -- before the first turn
  pub started : (count : ℕ) (old new : Progress) → old ≡ nothing_found count → Grows old new →
      ((cell : ℕ) → follows [] cell → Contains (found_in new) cell)
      → ((cell : ℕ) → Contains (found_in new) cell → Contains (found_in old) cell ⊎ follows [] cell) →
      IsHandled follows new.done (found_in new) × IsDerived follows (found_in new)
  started count old new empty grows all only =
      let none : new.done ≡ [] = grows.done ∙ ap (λ p. p.done) empty in (
        subst (λ l. IsHandled follows l (found_in new)) (sym none) (handled_start (found_in new) all),
        λ cell found. elim (only cell found) [
          | inl before ↦ absurd (omega (arith, (subst (λ p. Contains (found_in p) cell) empty before).1))
          | inr starts ↦ derivable_start follows cell starts
        ],
      )

  -- after the last one
  pub closed_end : (old new : Progress) → (old.todo ≡ []) × (new ≡ old) → IsHandled follows old.done (found_in old) →
      IsClosed follows (found_in new)
  closed_end old new ends handled premises conclusion all gives =
      let whole : found_in old ≡ old.done = ap (λ l. old.done ++ l) ends.0 ∙ append-nil old.done in
      let all_done = subst (λ l. All (Contains l) premises) (ap found_in ends.1 ∙ whole) all in
      subst (λ p. Contains (found_in p) conclusion) (sym ends.1) (handled premises conclusion gives all_done)

  pub exact_end : (old new : Progress) → (old.todo ≡ []) × (new ≡ old) → IsHandled follows old.done (found_in old) →
      IsDerived follows (found_in old)
      → (cell : ℕ) → Contains (found_in new) cell ↔ IsDerivable follows cell
  exact_end old new ends handled derived cell = (
    λ found. derived cell (subst (λ p. Contains (found_in p) cell) ends.1 found),
    λ derivable. derivable_kept follows (Contains (found_in new)) (closed_end old new ends handled) cell derivable,
  )

  -- what is given, and what follows from it in one step, is derivable from it
  pub derivable_given : (given : List ℕ) (cell : ℕ) → Contains given cell →
      IsDerivable (GivenOrFollows follows given) cell
  derivable_given given cell here = derivable_start (GivenOrFollows follows given) cell (inl here)

  pub derivable_once : (given premises : List ℕ) (cell : ℕ) → All (Contains given) premises → follows premises cell →
      IsDerivable (GivenOrFollows follows given) cell
  derivable_once given premises cell all gives =
      derivable_step (GivenOrFollows follows given) premises cell
      (All-weaker (Contains given) (IsDerivable (GivenOrFollows follows given))
      (derivable_given given) premises all) (inr gives)

  -- lists of the same cells are closed together
  pub closed_same : (xs ys : List ℕ) → ((cell : ℕ) → Contains xs cell ↔ Contains ys cell) → IsClosed follows xs →
      IsClosed follows ys
  closed_same xs ys same closed premises conclusion all gives =
      (same conclusion).0
      (closed premises conclusion
      (All-weaker (Contains ys) (Contains xs) (λ cell has. (same cell).1 has) premises all) gives)
