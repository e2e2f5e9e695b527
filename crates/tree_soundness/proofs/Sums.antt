-- Sums over names of what is said of each name once.
use Rattle.std.proofs.Common.{
  ◌≡◌,
  ℕ,
  suc,
  ◌+◌,
  ◌≤◌,
  true,
  false,
  List,
  [],
  ◌∷◌,
  length,
  map,
  sum_by,
  filter,
  refl,
  sym,
  ap,
  subst,
  ◌∙◌,
  inl,
  inr,
  arith,
}
use Rattle.std.proofs.lemmas.Bool.{or_parts, cases_Bool, cond-true, cond-false}
use Rattle.std.proofs.lemmas.List.Sums.{sum_by-cons}
use Rattle.amdl_tree.specs.Items.{PatternItem}
use Rattle.tree_plan.specs.Names.{same_name}
use Rattle.tree_rules.specs.Spaces.{is_among, repeats}
use Rattle.tree_soundness.proofs.Names.{same_is}

pub sum_map : {A B : Type 0} (f : B → ℕ) (g : A → B) (xs : List A) → sum_by f (map g xs) ≡ sum_by (λ x. f (g x)) xs
sum_map f g [] = refl
sum_map f g (x ∷ xs) =
    sum_by-cons f (g x) (map g xs) ∙ ap (λ n. f (g x) + n) (sum_map f g xs) ∙ sym (sum_by-cons (λ x. f (g x)) x xs)

-- sums over names that differ from one name
sums_apart : (name : List ℕ) (one two : List ℕ → ℕ) (names : List (List ℕ)) → is_among names name ≡ false →
    ((other : List ℕ) → same_name name other ≡ false → one other ≤ two other) →
    sum_by one names ≤ sum_by two names
sums_apart name one two [] apart less = omega arith
sums_apart name one two (other ∷ names) apart less =
    let parts = or_parts (same_name name other) (is_among names name) apart in
    omega (
      arith,
      sum_by-cons one other names,
      sum_by-cons two other names,
      less other parts.0,
      sums_apart name one two names parts.1 less,
    )

-- sums over names without repeats, of which at most one is this one
pub sums_once : (name : List ℕ) (more : ℕ) (one two : List ℕ → ℕ) (names : List (List ℕ)) → repeats names ≡ false →
    ((other : List ℕ) → same_name name other ≡ true → one other ≤ more + two other) →
    ((other : List ℕ) → same_name name other ≡ false → one other ≤ two other) →
    sum_by one names ≤ more + sum_by two names
sums_once name more one two [] once same less = omega arith
sums_once name more one two (other ∷ names) once same less =
    let parts = or_parts (is_among names other) (repeats names) once in
    elim (cases_Bool (same_name name other)) as (λ s. sum_by one (other ∷ names) ≤ more + sum_by two (other ∷ names)) [
      | inl held ↦
          let apart : is_among names name ≡ false =
          subst (λ n. is_among names n ≡ false) (sym (same_is name other held)) parts.0 in
          omega (
            arith,
            sum_by-cons one other names,
            sum_by-cons two other names,
            same other held,
            sums_apart name one two names apart less,
          )
      | inr failed ↦
          omega (
            arith,
            sum_by-cons one other names,
            sum_by-cons two other names,
            less other failed,
            sums_once name more one two names parts.1 same less,
          )
    ]

pub sum_zero : {A : Type 0} (xs : List A) → sum_by (λ x. 0) xs ≡ 0
sum_zero [] = refl
sum_zero {A} (x ∷ xs) = omega (arith, sum_by-cons {X = A} (λ x. 0) x xs, sum_zero xs)

-- how many items each host has, all hosts together
abbrev pub items_of : List PatternItem → List ℕ → List PatternItem
items_of list host = filter (λ item. same_name item.host host) list

pub items_counted : (list : List PatternItem) (hosts : List (List ℕ)) → repeats hosts ≡ false →
    sum_by (λ host. length (items_of list host)) hosts ≤ length list
items_counted [] hosts once = omega (arith, sum_zero hosts)
items_counted (item ∷ list) hosts once =
    let rest = items_counted list hosts once in
    let step : sum_by (λ host. length (items_of (item ∷ list) host)) hosts ≤ 1 + sum_by
    (λ host. length (items_of list host)) hosts =
    sums_once item.host 1 (λ host. length (items_of (item ∷ list) host))
    (λ host. length (items_of list host)) hosts once
    (λ host held.
    let e : length (items_of (item ∷ list) host) ≡ suc (length (items_of list host)) =
    ap length (cond-true (same_name item.host host) (item ∷ items_of list host) (items_of list host) held) in
    omega (arith, e))
    (λ host failed.
    let e : length (items_of (item ∷ list) host) ≡ length (items_of list host) =
    ap length (cond-false (same_name item.host host) (item ∷ items_of list host) (items_of list host) failed) in
    omega (arith, e)) in
    omega (arith, rest, step)
