-- What is computed of events, and what is meant by it.
use Rattle.std.proofs.Common.{◌≡◌, ◌+◌, ◌<◌, ◌↔◌, ℕ, Bool, true, false, IsTrue, List, [], length, get_or}
use Rattle.std.proofs.Common.{refl, sym, ap, ◌∙◌, subst, Option, Some, None, inl, inr, arith}
use Rattle.std.specs.List.{range_with_len}
use Rattle.std.proofs.lemmas.Bool.{eqb-true, eq-eqb, cases_lt}
use Rattle.std.proofs.lemmas.List.{get_or_past}
use Rattle.std.proofs.lemmas.List.FromFn.{length-range_with_len, get_or-range_with_len}
use Rattle.std.proofs.lemmas.List.Folds.{Any-from_list_any, list_any-from_Any}
use Rattle.std.proofs.lemmas.List.Sums.{AllPass-from_list_all, list_all-from_AllPass}
use Rattle.header_set.specs.Headers.{field_of}
use Rattle.header_set.specs.Pattern.{fixed_at, Matches}
use Rattle.net_plan.specs.declared.plan.Plan.{Plan}
use Rattle.net_plan.specs.declared.plan.HostPlan.{HostPlan}
use Rattle.net_plan.specs.Plan.{host_at, sizes_of, Forbids}
use Rattle.net_runs.specs.declared.world.Event.{Event}
use Rattle.net_runs.specs.declared.world.Event.TheVariants.{Moved, Delivered, Aborted}
use Rattle.net_runs.specs.World.{IsBadEvent}
use Rattle.schedule.specs.Laws.{BadIsTold}
use Rattle.schedule.specs.Texts.{has_fixed, fits_pattern, is_forbidden, is_bad}

fixed_from : (o : Option ℕ) (v : ℕ) → ((x : ℕ) → o ≡ Some x → v ≡ x) → has_fixed o v ≡ true
fixed_from None v each = refl
fixed_from (Some x) v each = eq-eqb v x (each x refl)

fixed_is : (o : Option ℕ) (v x : ℕ) → o ≡ Some x → has_fixed o v ≡ true → v ≡ x
fixed_is None v x e t = absurd (cc)
fixed_is (Some y) v x e t = let same : y ≡ x = cc in eqb-true v y t ∙ same

module _ (sizes : List ℕ) (packet : ℕ) (pattern : List (Option ℕ)) where
  abbrev test : ℕ → Bool
  test k = has_fixed (fixed_at pattern k) (field_of sizes packet k)

  abbrev places : List ℕ
  places = range_with_len 0 (length sizes)

  counted : length places ≡ length sizes
  counted = length-range_with_len 0 (length sizes)

  place_at : (k d : ℕ) → k < length sizes → get_or places k d ≡ k
  place_at k d less = get_or-range_with_len 0 (length sizes) k d less ∙ (let same : 0 + k ≡ k = omega arith in same)

  fits : Matches sizes pattern packet → fits_pattern sizes packet pattern ≡ true
  fits matches =
      list_all-from_AllPass test places
      (λ k d less. let inside : k < length sizes = omega (arith, less, counted) in
      subst (λ i. test i ≡ true) (sym (place_at k d inside))
      (fixed_from (fixed_at pattern k) (field_of sizes packet k) (λ x e. matches.each k x inside e)))

  matches : fits_pattern sizes packet pattern ≡ true → Matches sizes pattern packet
  matches fit = record {
    each = λ k x less e.
        let inside : k < length places = omega (arith, less, counted) in
        let passes : test (get_or places k 0) ≡ true = AllPass-from_list_all test places fit k 0 inside in
        fixed_is (fixed_at pattern k) (field_of sizes packet k) x e
        (subst (λ i. test i ≡ true) (place_at k 0 less) passes);
  }

module _ (plan : Plan) (host packet : ℕ) where
  forbids_from : IsTrue (is_forbidden plan host packet) → Forbids plan host packet
  unfolding is_forbidden
  forbids_from is =
      let some = Any-from_list_any (fits_pattern (sizes_of plan) packet) (host_at plan host).forbids is in
      (some.0, some.1, some.2, some.3, matches (sizes_of plan) packet some.1 some.4)

  forbids_to : Forbids plan host packet → IsTrue (is_forbidden plan host packet)
  unfolding is_forbidden
  forbids_to some =
      list_any-from_Any (fits_pattern (sizes_of plan) packet) (host_at plan host).forbids
      (some.0, some.1, some.2, some.3, fits (sizes_of plan) packet some.1 some.4)

  pub forbidden : IsTrue (is_forbidden plan host packet) ↔ Forbids plan host packet
  forbidden = (forbids_from, forbids_to)

  -- a host that isn't there forbids nothing
  there : Forbids plan host packet → host < length plan.hosts
  there some = elim (cases_lt host (length plan.hosts)) [
    | inl less ↦ less
    | inr past ↦ (
        let no_host : HostPlan = record { name = []; sends = []; forbids = [] } in
        let none : (host_at plan host).forbids ≡ [] = ap (λ h. h.forbids) (get_or_past plan.hosts host no_host past) in
        let few : length (host_at plan host).forbids ≡ 0 = ap length none in
        absurd (omega (arith, few, some.2))
        )
  ]

two_tests : (a b : Bool) (P : Type 0) → (IsTrue a ↔ P) → (IsTrue b ↔ P) → a ≡ b
two_tests true b P p q = sym (q.1 (p.0 refl))
two_tests false true P p q = p.1 (q.0 refl)
two_tests false false P p q = refl

-- a test of what the host forbids is the one that is meant
pub same_answer : (plan : Plan) (host packet : ℕ) (found : Bool) → (IsTrue found ↔ Forbids plan host packet) →
    found ≡ is_forbidden plan host packet
same_answer plan host packet found is =
    two_tests found (is_forbidden plan host packet) (Forbids plan host packet) is (forbidden plan host packet)

bad_event : (plan : Plan) (event : Event) → IsTrue (is_bad plan event) ↔ IsBadEvent plan event
bad_event plan Moved = (λ e. absurd (cc), λ no. absurd no)
bad_event plan (Delivered host packet) = (
  λ e. (there plan host packet (forbids_from plan host packet e), forbids_from plan host packet e),
  λ bad. forbids_to plan host packet bad.1,
)
bad_event plan (Aborted box packet) = (λ e. tt, λ bad. refl)

pub bad_is_told : BadIsTold
bad_is_told = record { event = bad_event; delivery = forbidden }
