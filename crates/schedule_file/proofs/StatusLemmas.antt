-- Which events are bad where some are, and where none is.
use Rattle.std.proofs.Common.{◌≡◌, ◌≢◌, ◌+◌, ℕ, zero, suc, Bool, true, false, cond, List, [], ◌∷◌, refl, sym, ap, ◌∙◌}
use Rattle.std.proofs.Common.{inl, inr, arith, ◌⊎◌}
use Rattle.std.specs.List.{Contains}
use Rattle.std.proofs.lemmas.List.Elements.{Contains-append_left, Contains-append_right, Contains-append_cases}
use Rattle.std.proofs.lemmas.List.Elements.{Contains-push, Contains-push_cases}
use Rattle.std.proofs.lemmas.List.Sums.{sum_by-cons}
use Rattle.net_plan.specs.declared.plan.Plan.{Plan}
use Rattle.net_runs.specs.declared.world.Event.{Event}
use Rattle.schedule.specs.Laws.{BadIsTold}
use Rattle.schedule.specs.Texts.{is_bad, bad_of}
use Rattle.schedule_file.specs.Laws.{StatusIsRight}
use Rattle.schedule_file.specs.Replaying.{status_of}

none_there : {X : Type 0} (x : X) → Contains [] x → ⊥
none_there x there = omega (arith, there.1)

member_cases : {X : Type 0} (y x : X) (xs : List X) → Contains (y ∷ xs) x → (y ≡ x) ⊎ Contains xs x
member_cases y x xs h =
    elim (Contains-append_cases (y ∷ []) xs x h) [
      | inl one ↦ elim (Contains-push_cases [] y x one) [ inl none ↦ absurd (none_there x none) | inr same ↦ inl same ]
      | inr there ↦ inr there
    ]

no_status : (n : ℕ) → status_of n ≡ 0 → n ≡ 0
no_status zero zero' = refl
no_status (suc n) zero' = absurd (omega (arith, zero'))

some_status : (n : ℕ) → status_of n ≢ 0 → n ≢ 0
some_status n some none = some (ap status_of none)

module _ (plan : Plan) where
  one_more : (first : Event) (events : List Event) →
      bad_of plan (first ∷ events) ≡ cond (is_bad plan first) 1 0 + bad_of plan events
  one_more first events = sum_by-cons (λ e. cond (is_bad plan e) 1 0) first events

  -- of events of which none is bad the first isn't, and none behind it
  not_first : (first event : Event) (events : List Event) (b : Bool) → is_bad plan first ≡ b →
      cond b 1 0 + bad_of plan events ≡ 0 → ((bad_of plan events ≡ 0) → Contains events event → ⊥) →
      is_bad plan event ≡ true → (first ≡ event) ⊎ Contains events event → ⊥
  not_first first event events true e none later bad cases = omega (arith, none)
  not_first first event events false e none later bad (inl same) =
      let clash : is_bad plan event ≡ false = ap (is_bad plan) (sym same) ∙ e in cc
  not_first first event events false e none later bad (inr there) =
      later (let rest : bad_of plan events ≡ 0 = omega (arith, none) in rest) there

  none_bad : (events : List Event) → bad_of plan events ≡ 0 → (event : Event) → Contains events event →
      is_bad plan event ≡ true → ⊥
  none_bad [] none event there bad = none_there event there
  none_bad (first ∷ events) none event there bad =
      not_first first event events (is_bad plan first) refl (sym (one_more first events) ∙ none)
      (λ rest later. none_bad events rest event later bad) bad (member_cases first event events there)

  abbrev SomeBad : List Event → Type 0
  SomeBad events = (event : Event) × Contains events event × (is_bad plan event ≡ true)

  first_or_later : (first : Event) (events : List Event) (b : Bool) → is_bad plan first ≡ b →
      cond b 1 0 + bad_of plan events ≢ 0 → (bad_of plan events ≢ 0 → SomeBad events) → SomeBad (first ∷ events)
  first_or_later first events true e some later =
      (first, Contains-append_left (first ∷ []) events first (Contains-push [] first), e)
  first_or_later first events false e some later =
      let one = later (λ none. some (omega (arith, none))) in
      (one.0, Contains-append_right (first ∷ []) events one.0 one.1, one.2)

  some_bad : (events : List Event) → bad_of plan events ≢ 0 → SomeBad events
  some_bad [] some = absurd (some refl)
  some_bad (first ∷ events) some =
      first_or_later first events (is_bad plan first) refl (λ none. some (one_more first events ∙ none))
      (λ rest. some_bad events rest)

pub status_right : BadIsTold → StatusIsRight
status_right told plan events = record {
  good = λ zero' event there bad.
      none_bad plan events (no_status (bad_of plan events) zero') event there ((told.event plan event).1 bad);
  bad = λ some.
      let one = some_bad plan events (some_status (bad_of plan events) some) in
      (one.0, one.1, (told.event plan one.0).0 one.2);
}
