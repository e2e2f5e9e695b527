-- Lists with one member set or taken out, and boxes by their numbers.
use Rattle.std.proofs.Common.{◌≡◌, ◌≢◌, ℕ, ◌<◌, zero, suc, List, [], ◌∷◌, ◌++◌, length, Some, slice_set, replicate}
use Rattle.std.proofs.Common.{refl}
use Rattle.std.proofs.Common.{sym, ap, subst, ◌∙◌, ◌⊎◌, inl, inr, arith}
use Rattle.std.specs.Prelude.{slice_get}
use Rattle.std.specs.List.{Contains}
use Rattle.std.proofs.Math.ListN.{length-set}
use Rattle.std.proofs.lemmas.Bool.{cases_eq}
use Rattle.std.proofs.lemmas.Option.{get_or_from_slice_get, slice_get_within}
use Rattle.std.proofs.lemmas.List.Elements.{Contains-append_left, Contains-append_right, Contains-append_cases}
use Rattle.net_plan.specs.declared.plan.Plan.{Plan}
use Rattle.net_plan.specs.declared.plan.BoxPlan.{BoxPlan}
use Rattle.net_plan.specs.declared.plan.ClassPlan.{ClassPlan}
use Rattle.net_plan.specs.Plan.{box_at, class_of}
use Rattle.net_plan.proofs.Rising.{head_contained, tail_contained}
use Rattle.net_runs.specs.World.{IsBoxAt, TakesFirst}
use Rattle.packet_state.specs.Answers.{class_of_box}

pub some_inside : {X : Type 0} {x y : X} → Some x ≡ Some y → x ≡ y
some_inside e = cc

module _ {X : Type 0} where
  set_here : (xs : List X) (i : ℕ) (x : X) → i < length xs → slice_get (slice_set xs i x) i ≡ Some x
  set_here [] i x less = absurd (omega arith)
  set_here (y ∷ xs) zero x less = refl
  set_here (y ∷ xs) (suc i) x less = set_here xs i x (omega (arith, less))

  set_elsewhere : (xs : List X) (i j : ℕ) (x : X) → j ≢ i → slice_get (slice_set xs i x) j ≡ slice_get xs j
  set_elsewhere [] i j x apart = refl
  set_elsewhere (y ∷ xs) zero zero x apart = absurd (apart refl)
  set_elsewhere (y ∷ xs) zero (suc j) x apart = refl
  set_elsewhere (y ∷ xs) (suc i) zero x apart = refl
  set_elsewhere (y ∷ xs) (suc i) (suc j) x apart = set_elsewhere xs i j x (λ same. apart (ap suc same))

  -- what stands at a place after one place was set
  pub set_cases : (xs : List X) (i j : ℕ) (x y : X) → slice_get (slice_set xs i x) j ≡ Some y →
      ((i ≡ j) × (x ≡ y)) ⊎ (slice_get xs j ≡ Some y)
  set_cases xs i j x y found =
      elim (cases_eq j i) [
        | inr apart ↦ inr (sym (set_elsewhere xs i j x apart) ∙ found)
        | inl same ↦
            let there : slice_get (slice_set xs i x) i ≡ Some y = ap (slice_get (slice_set xs i x)) (sym same) ∙ found
            in
            let still : length (slice_set xs i x) ≡ length xs = length-set xs i x in
            let below : i < length (slice_set xs i x) = slice_get_within (slice_set xs i x) i y there in
            let within : i < length xs = omega (arith, still, below) in
            inl (sym same, some_inside (sym (set_here xs i x within) ∙ there))
      ]

  -- all that stands in a list of one member, many times, is that member
  pub all_alike : (n i : ℕ) (x y : X) → slice_get (replicate n x) i ≡ Some y → y ≡ x
  all_alike zero i x y e = absurd (cc)
  all_alike (suc n) zero x y e = sym (some_inside e)
  all_alike (suc n) (suc i) x y e = all_alike n i x y e

-- what is taken out stood there, and what is left too

pub stood : (packet : ℕ) (before after : List ℕ) → TakesFirst packet before after → Contains before packet
stood packet before after takes =
    subst (λ (l : List ℕ). Contains l packet) (sym takes.stood)
    (Contains-append_right takes.front (packet ∷ takes.rest) packet (head_contained packet takes.rest))

wider : (packet other : ℕ) (front rest : List ℕ) → Contains (front ++ rest) other →
    Contains (front ++ (packet ∷ rest)) other
wider packet other front rest there =
    elim (Contains-append_cases front rest other there) [
      | inl before ↦ Contains-append_left front (packet ∷ rest) other before
      | inr behind ↦ Contains-append_right front (packet ∷ rest) other (tail_contained packet other rest behind)
    ]

pub stood_too : (packet other : ℕ) (before after : List ℕ) → TakesFirst packet before after → Contains after other →
    Contains before other
stood_too packet other before after takes there =
    subst (λ (l : List ℕ). Contains l other) (sym takes.stood)
    (wider packet other takes.front takes.rest (subst (λ (l : List ℕ). Contains l other) takes.taken there))

-- the box of a number, and its class

pub box_found : (plan : Plan) (box : ℕ) (box_plan : BoxPlan) → slice_get plan.boxes box ≡ Some box_plan →
    box_at plan box ≡ box_plan
box_found plan box box_plan e =
    get_or_from_slice_get plan.boxes box box_plan (record { name = []; class = 0; first = [] }) e

pub class_found : (plan : Plan) (box : ℕ) (box_plan : BoxPlan) (class : ClassPlan) → IsBoxAt plan box box_plan class →
    class_of_box plan box ≡ class
class_found plan box box_plan class at_box =
    ap (λ (one : BoxPlan). class_of plan one) (box_found plan box box_plan at_box.numbered)
    ∙ get_or_from_slice_get plan.classes box_plan.class class
    (record { ports = []; relations = []; handlers = []; queries = [] }) at_box.of_class
