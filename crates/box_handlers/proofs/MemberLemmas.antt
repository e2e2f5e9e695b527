-- Members of lists that are put together, and what holds of them all.
use Rattle.std.proofs.Common.{◌≡◌, ◌≢◌, ℕ, ◌+◌, ◌<◌, ◌≤◌, zero, suc, Bool, true, false, cond, List, [], ◌∷◌, ◌++◌, ◌⊎◌}
use Rattle.std.proofs.Common.{inl, inr, refl, subst, sym, arith}
use Rattle.std.specs.List.{AllByRecursion, AllPairs, Contains, filter, flat_map, range_with_len}
use Rattle.std.proofs.lemmas.Bool.{cases_eq}
use Rattle.std.proofs.lemmas.List.Elements.{Contains-push, Contains-push_cases, Contains-append_left}
use Rattle.std.proofs.lemmas.List.Elements.{Contains-append_right, Contains-append_cases, All-from_recursion}

module _ {X : Type 0} where
  pub Contains-here : (x : X) (xs : List X) → Contains (x ∷ xs) x
  Contains-here x xs = Contains-append_left (x ∷ []) xs x (Contains-push [] x)

  pub Contains-there : (y x : X) (xs : List X) → Contains xs x → Contains (y ∷ xs) x
  Contains-there y x xs h = Contains-append_right (y ∷ []) xs x h

  pub Contains-none : (x : X) → Contains [] x → ⊥
  Contains-none x h = omega (arith, h.1)

  pub Contains-cons_cases : (y x : X) (xs : List X) → Contains (y ∷ xs) x → (y ≡ x) ⊎ Contains xs x
  Contains-cons_cases y x xs h =
      elim (Contains-append_cases (y ∷ []) xs x h) [
        | inl one ↦ elim
            (Contains-push_cases [] y x one) [ inl none ↦ absurd (Contains-none x none) | inr same ↦ inl same ]
        | inr there ↦ inr there
      ]

  -- a member that passes the test stays
  pub Contains-filter : (test : X → Bool) (x : X) (xs : List X) → Contains xs x → test x ≡ true →
      Contains (filter test xs) x
  Contains-filter test x [] h passes = absurd (Contains-none x h)
  Contains-filter test x (y ∷ ys) h passes =
      by (λ there. Contains-filter test x ys there passes) (test y) refl (Contains-cons_cases y x ys h)
    where
      by : (Contains ys x → Contains (filter test ys) x) → (b : Bool) → test y ≡ b → (y ≡ x) ⊎ Contains ys x →
          Contains (cond b (y ∷ filter test ys) (filter test ys)) x
      by later true e (inl same) =
          subst (λ z. Contains (z ∷ filter test ys) x) (sym same) (Contains-here x (filter test ys))
      by later true e (inr there) = Contains-there y x (filter test ys) (later there)
      by later false e (inl same) = absurd (let clash : test x ≡ false = subst (λ z. test z ≡ false) same e in cc)
      by later false e (inr there) = later there

  pub AllByRecursion-append : (P : X → Type 0) (xs ys : List X) → AllByRecursion P xs → AllByRecursion P ys →
      AllByRecursion P (xs ++ ys)
  AllByRecursion-append P [] ys p q = q
  AllByRecursion-append P (x ∷ xs) ys p q = (p.0, AllByRecursion-append P xs ys p.1 q)

  pub AllByRecursion-filter : (P : X → Type 0) (test : X → Bool) (xs : List X) → AllByRecursion P xs →
      AllByRecursion P (filter test xs)
  AllByRecursion-filter P test [] p = tt
  AllByRecursion-filter P test (x ∷ xs) p = by (AllByRecursion-filter P test xs p.1) (test x)
    where
      by : AllByRecursion P (filter test xs) → (b : Bool) →
          AllByRecursion P (cond b (x ∷ filter test xs) (filter test xs))
      by later true = (p.0, later)
      by later false = later

  -- what passes the test
  pub AllByRecursion-passes : (test : X → Bool) (xs : List X) → AllByRecursion (λ x. test x ≡ true) (filter test xs)
  AllByRecursion-passes test [] = tt
  AllByRecursion-passes test (x ∷ xs) = by (AllByRecursion-passes test xs) (test x) refl
    where
      by : AllByRecursion (λ y. test y ≡ true) (filter test xs) → (b : Bool) → test x ≡ b →
          AllByRecursion (λ y. test y ≡ true) (cond b (x ∷ filter test xs) (filter test xs))
      by later true e = (e, later)
      by later false e = later

  pub AllByRecursion-map : (P Q : X → Type 0) → ((x : X) → P x → Q x) → (xs : List X) → AllByRecursion P xs →
      AllByRecursion Q xs
  AllByRecursion-map P Q f [] p = tt
  AllByRecursion-map P Q f (x ∷ xs) p = (f x p.0, AllByRecursion-map P Q f xs p.1)

  -- each pair of a list, by recursion on it
  abbrev pub Pairs : (X → X → Type 0) → List X → Type 0
  Pairs R [] = Unit {0}
  Pairs R (x ∷ xs) = AllByRecursion (R x) xs × Pairs R xs

  pub Pairs-filter : (R : X → X → Type 0) (test : X → Bool) (xs : List X) → Pairs R xs → Pairs R (filter test xs)
  Pairs-filter R test [] p = tt
  Pairs-filter R test (x ∷ xs) p = by (Pairs-filter R test xs p.1) (test x)
    where
      by : Pairs R (filter test xs) → (b : Bool) → Pairs R (cond b (x ∷ filter test xs) (filter test xs))
      by later true = (AllByRecursion-filter (R x) test xs p.0, later)
      by later false = later

  pub AllPairs-from_pairs : (R : X → X → Type 0) (xs : List X) → Pairs R xs → AllPairs R xs
  AllPairs-from_pairs R [] p i j d before within = absurd (omega arith)
  AllPairs-from_pairs R (x ∷ xs) p zero zero d before within = absurd (omega arith)
  AllPairs-from_pairs R (x ∷ xs) p zero (suc j) d before within = All-from_recursion (R x) xs p.0 j d (omega arith)
  AllPairs-from_pairs R (x ∷ xs) p (suc i) zero d before within = absurd (omega arith)
  AllPairs-from_pairs R (x ∷ xs) p (suc i) (suc j) d before within =
      AllPairs-from_pairs R xs p.1 i j d (omega arith) (omega arith)

-- a member of what a member is sent to
pub Contains-flat_map : {X A : Type 0} (f : X → List A) (x : X) (xs : List X) (y : A) → Contains xs x →
    Contains (f x) y → Contains (flat_map f xs) y
Contains-flat_map f x [] y h there = absurd (Contains-none x h)
Contains-flat_map f x (z ∷ zs) y h there =
    elim (Contains-cons_cases z x zs h) [
      | inl same ↦ Contains-append_left (f z) (flat_map f zs) y (subst (λ w. Contains (f w) y) (sym same) there)
      | inr later ↦ Contains-append_right (f z) (flat_map f zs) y (Contains-flat_map f x zs y later there)
    ]

pub AllByRecursion-flat_map : {X A : Type 0} (P : A → Type 0) (f : X → List A) (xs : List X) →
    AllByRecursion (λ x. AllByRecursion P (f x)) xs → AllByRecursion P (flat_map f xs)
AllByRecursion-flat_map P f [] p = tt
AllByRecursion-flat_map P f (x ∷ xs) p =
    AllByRecursion-append P (f x) (flat_map f xs) p.0 (AllByRecursion-flat_map P f xs p.1)

pub AllByRecursion-always : {X : Type 0} (P : X → Type 0) → ((x : X) → P x) → (xs : List X) → AllByRecursion P xs
AllByRecursion-always P all [] = tt
AllByRecursion-always P all (x ∷ xs) = (all x, AllByRecursion-always P all xs)

-- the numbers from `start` on
pub Contains-range : (start len value : ℕ) → start ≤ value → value < start + len →
    Contains (range_with_len start len) value
Contains-range start zero value low high = absurd (omega arith)
Contains-range start (suc len) value low high =
    elim (cases_eq start value) [
      | inl same ↦ subst (λ x. Contains (x ∷ range_with_len (start + 1) len) value) (sym same)
          (Contains-here value (range_with_len (start + 1) len))
      | inr apart ↦ Contains-there start value (range_with_len (start + 1) len)
          (Contains-range (start + 1) len value (let differs : start ≢ value = apart in omega arith) (omega arith))
    ]
