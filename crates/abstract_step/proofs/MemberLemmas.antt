-- Members of lists of lists.
use Rattle.std.proofs.Common.{◌≡◌, ℕ, zero, suc, ◌+◌, ◌<◌, ◌≤◌, List, [], ◌∷◌, ◌++◌, sym, ap, subst, ◌∙◌, ◌⊎◌, inl}
use Rattle.std.proofs.Common.{inr, length, take, get_or, map, arith}
use Rattle.std.proofs.lemmas.List.{take_all, take_more, map-append}
use Rattle.std.specs.List.{Contains, flat_map, range_with_len}
use Rattle.std.proofs.lemmas.List.Elements.{Contains-append_left, Contains-append_right, Contains-append_cases}
use Rattle.net_plan.proofs.Rising.{contained_cases, none_contained}

-- the only member
pub only_one : {X : Type 0} (x y : X) → Contains (x ∷ []) y → y ≡ x
only_one x y there =
    elim (contained_cases x y [] there) [ inl same ↦ sym same | inr none ↦ absurd (none_contained y none) ]

first_or : (first value : ℕ) → first ≤ value → (value ≡ first) ⊎ (first + 1 ≤ value)
first_or first value less = grind arith

module _ {X : Type 0} (f : ℕ → List X) (y : X) where
  pub into_range : (first many value : ℕ) → first ≤ value → value < first + many → Contains (f value) y →
      Contains (flat_map f (range_with_len first many)) y
  into_range first zero value less below there = absurd (omega (arith, less, below))
  into_range first (suc many) value less below there =
      elim (first_or first value less) [
        | inl same ↦ Contains-append_left (f first) (flat_map f (range_with_len (first + 1) many)) y
            (subst (λ (n : ℕ). Contains (f n) y) same there)
        | inr more ↦ Contains-append_right (f first) (flat_map f (range_with_len (first + 1) many)) y
            (into_range (first + 1) many value more (omega (arith, below)) there)
      ]

  pub out_of_range : (first many : ℕ) → Contains (flat_map f (range_with_len first many)) y →
      (value : ℕ) × (value < first + many) × Contains (f value) y
  out_of_range first zero there = absurd (none_contained y there)
  out_of_range first (suc many) there =
      elim (Contains-append_cases (f first) (flat_map f (range_with_len (first + 1) many)) y there) [
        | inl here ↦ (first, omega arith, here)
        | inr later ↦
            let rest = out_of_range (first + 1) many later in (rest.0, omega (arith, rest.1), rest.2)
      ]

-- one member more of a list that is mapped from the front
pub mapped_more : {A B : Type 0} (f : A → B) (xs : List A) (i : ℕ) (x : A) (front : List B) → i < length xs →
    x ≡ get_or xs i x → front ≡ map f (take i xs) → front ++ f x ∷ [] ≡ map f (take (i + 1) xs)
mapped_more {A} {B} f xs i x front inside here so_far =
    ap (λ (l : List B). l ++ f x ∷ []) so_far
    ∙ ap (λ y. map f (take i xs) ++ f y ∷ []) here
    ∙ sym (ap (map f) (take_more xs i x inside) ∙ map-append f (take i xs) (get_or xs i x ∷ []))

pub mapped_all : {A B : Type 0} (f : A → B) (xs : List A) (i : ℕ) (front : List B) → length xs ≤ i →
    front ≡ map f (take i xs) → front ≡ map f xs
mapped_all f xs i front all so_far = so_far ∙ ap (map f) (take_all i xs all)
