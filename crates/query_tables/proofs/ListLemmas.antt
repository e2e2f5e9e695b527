-- Members, rows and counts of lists that are made piece by piece.
use Rattle.std.proofs.Common.{◌≡◌, ℕ, zero, suc, ◌+◌, ◌*◌, ◌<◌, ◌≤◌, List, [], ◌∷◌, ◌++◌}
use Rattle.std.proofs.Common.{length, map, take, drop, refl, sym, ap, subst, ◌∙◌, inl, inr, arith, add-one}
use Rattle.std.proofs.Common.{length-append}
use Rattle.std.specs.List.{Contains, flat_map, range_with_len}
use Rattle.std.proofs.Math.Seq.{take-append_seam, drop-append-add}
use Rattle.std.proofs.lemmas.Grind.{flat_map-append}
use Rattle.std.proofs.lemmas.List.Elements.{Contains-append_left, Contains-append_right, Contains-append_cases}
use Rattle.std.proofs.lemmas.List.FromFn.{length-range_with_len, get_or-range_with_len}
use Rattle.net_plan.proofs.Rising.{head_contained, tail_contained, contained_cases}

-- members

none_in : {X : Type 0} (x : X) → ¬ (Contains [] x)
none_in x (k, within, is) = absurd (omega (arith, within))

pub map_has : {X Y : Type 0} (f : X → Y) (xs : List X) (x : X) → Contains xs x → Contains (map f xs) (f x)
map_has f [] x has = absurd (none_in x has)
map_has f (y ∷ xs) x has =
    elim (contained_cases y x xs has) [
      | inl here ↦ subst (λ z. Contains (f y ∷ map f xs) (f z)) here (head_contained (f y) (map f xs))
      | inr later ↦ tail_contained (f y) (f x) (map f xs) (map_has f xs x later)
    ]

pub map_from : {X Y : Type 0} (f : X → Y) (xs : List X) (y : Y) → Contains (map f xs) y →
    (x : X) × Contains xs x × (f x ≡ y)
map_from f [] y has = absurd (none_in y has)
map_from f (x ∷ xs) y has =
    elim (contained_cases (f x) y (map f xs) has) [
      | inl here ↦ (x, head_contained x xs, here)
      | inr later ↦ let rest = map_from f xs y later in (rest.0, tail_contained x rest.0 xs rest.1, rest.2)
    ]

pub pieces_have : {X Y : Type 0} (f : X → List Y) (xs : List X) (x : X) (y : Y) → Contains xs x → Contains (f x) y →
    Contains (flat_map f xs) y
pieces_have f [] x y has there = absurd (none_in x has)
pieces_have f (z ∷ xs) x y has there =
    elim (contained_cases z x xs has) [
      | inl here ↦ Contains-append_left (f z) (flat_map f xs) y (subst (λ w. Contains (f w) y) (sym here) there)
      | inr later ↦ Contains-append_right (f z) (flat_map f xs) y (pieces_have f xs x y later there)
    ]

pub pieces_from : {X Y : Type 0} (f : X → List Y) (xs : List X) (y : Y) → Contains (flat_map f xs) y →
    (x : X) × Contains xs x × Contains (f x) y
pieces_from f [] y has = absurd (none_in y has)
pieces_from f (x ∷ xs) y has =
    elim (Contains-append_cases (f x) (flat_map f xs) y has) [
      | inl here ↦ (x, head_contained x xs, here)
      | inr later ↦ let rest = pieces_from f xs y later in (rest.0, tail_contained x rest.0 xs rest.1, rest.2)
    ]

pub range_has : (n i : ℕ) → i < n → Contains (range_with_len 0 n) i
range_has n i less = (
  i,
  subst (λ (k : ℕ). i < k) (sym (length-range_with_len 0 n)) less,
  get_or-range_with_len 0 n i i less ∙ (let e : 0 + i ≡ i = omega arith in e),
)

pub range_from : (n i : ℕ) → Contains (range_with_len 0 n) i → i < n
range_from n i has =
    let inside : has.0 < n = subst (λ (k : ℕ). has.0 < k) (length-range_with_len 0 n) has.1 in
    let is : 0 + has.0 ≡ i = sym (get_or-range_with_len 0 n has.0 i inside) ∙ has.2 in
    omega (arith, inside, is)

-- rows

range_more : (a n : ℕ) → range_with_len a (suc n) ≡ range_with_len a n ++ (a + n) ∷ []
range_more a zero = ap (λ (k : ℕ). k ∷ []) (let e : a ≡ a + 0 = omega arith in e)
range_more a (suc n) =
    ap (λ l. a ∷ l)
    (range_more (a + 1) n
    ∙ ap (λ (k : ℕ). range_with_len (a + 1) n ++ k ∷ []) (let e : a + 1 + n ≡ a + suc n = omega arith in e))

append_nil : {X : Type 0} (xs : List X) → xs ++ [] ≡ xs
append_nil [] = refl
append_nil (x ∷ xs) = ap (λ l. x ∷ l) (append_nil xs)

pub pieces_more : {X : Type 0} (f : ℕ → List X) (n : ℕ) →
    flat_map f (range_with_len 0 (n + 1)) ≡ flat_map f (range_with_len 0 n) ++ f n
pieces_more f n =
    ap (λ (k : ℕ). flat_map f (range_with_len 0 k)) (add-one n) ∙ ap (flat_map f) (range_more 0 n)
    ∙ flat_map-append f (range_with_len 0 n) ((0 + n) ∷ [])
    ∙ ap (λ l. flat_map f (range_with_len 0 n) ++ l) (append_nil (f (0 + n)))
    ∙ ap (λ (k : ℕ). flat_map f (range_with_len 0 n) ++ f k) (let e : 0 + n ≡ n = omega arith in e)

module _ {X : Type 0} (f : ℕ → List X) (width : ℕ) (even : (i : ℕ) → length (f i) ≡ width) where
  pub length_pieces : (a n : ℕ) → length (flat_map f (range_with_len a n)) ≡ n * width
  length_pieces a zero = let e : 0 ≡ 0 * width = omega arith in e
  length_pieces a (suc n) =
      length-append (f a) (flat_map f (range_with_len (a + 1) n))
      ∙ (let rest : length (flat_map f (range_with_len (a + 1) n)) ≡ n * width = length_pieces (a + 1) n in
      let e : length (f a) + length (flat_map f (range_with_len (a + 1) n)) ≡ suc n * width =
      omega (arith, rest, even a) in e)

  pub row_at : (a n i : ℕ) → i < n → take width (drop (i * width) (flat_map f (range_with_len a n))) ≡ f (a + i)
  row_at a zero i less = absurd (omega (arith, less))
  row_at a (suc n) zero less =
      ap (λ (k : ℕ). take width (drop k (flat_map f (range_with_len a (suc n)))))
      (let e : 0 * width ≡ 0 = omega arith in e)
      ∙ ap (λ (k : ℕ). take k (f a ++ flat_map f (range_with_len (a + 1) n))) (sym (even a))
      ∙ take-append_seam (f a) (flat_map f (range_with_len (a + 1) n))
      ∙ ap f (let e : a ≡ a + 0 = omega arith in e)
  row_at a (suc n) (suc i) less =
      ap (λ (k : ℕ). take width (drop k (f a ++ flat_map f (range_with_len (a + 1) n))))
      (let e : suc i * width ≡ length (f a) + i * width = omega (arith, even a) in e)
      ∙ ap (take width) (drop-append-add (f a) (flat_map f (range_with_len (a + 1) n)) (i * width))
      ∙ row_at (a + 1) n i (omega (arith, less))
      ∙ ap f (let e : a + 1 + i ≡ a + suc i = omega arith in e)

pub length_within : {X : Type 0} (f : ℕ → List X) (width : ℕ) → ((i : ℕ) → length (f i) ≤ width) → (a n : ℕ) →
    length (flat_map f (range_with_len a n)) ≤ n * width
length_within f width few a zero = let l : 0 ≤ 0 * width = omega arith in l
length_within f width few a (suc n) =
    let rest : length (flat_map f (range_with_len (a + 1) n)) ≤ n * width = length_within f width few (a + 1) n in
    let both : length (f a ++ flat_map f (range_with_len (a + 1) n))
    ≡ length (f a) + length (flat_map f (range_with_len (a + 1) n)) =
    length-append (f a) (flat_map f (range_with_len (a + 1) n)) in
    let more : suc n * width ≡ width + n * width = omega arith in
    let all : length (f a ++ flat_map f (range_with_len (a + 1) n)) ≤ suc n * width =
    omega (arith, both, rest, more, few a) in
    all
