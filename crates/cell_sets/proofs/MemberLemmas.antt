-- The members of a set as a list.
use Rattle.std.proofs.Common.{◌≡◌, ℕ, ◌+◌, ◌<◌, ◌↔◌, Bool, true, false, cond, List, [], ◌∷◌, length, get_or, map, refl}
use Rattle.std.proofs.Common.{sym, ap, subst, ◌∙◌, arith, zero, suc, inl, inr, ◌⊎◌}
use Rattle.std.specs.List.{All, Contains, filter, range_with_len}
use Rattle.std.proofs.lemmas.Bool.{cases_Bool}
use Rattle.std.proofs.lemmas.List.FromFn.{length-range_with_len, get_or-range_with_len, fill_by_all}
use Rattle.std.proofs.lemmas.List.Elements.{Contains-get_or}
use Rattle.std.proofs.lemmas.List.Folds.{fold-map}
use Rattle.std.proofs.lemmas.List.Sums.{length-filter}
use Rattle.cell_sets.specs.Laws.{MembersAreListed}
use Rattle.cell_sets.specs.Marks.{HasCell, members_in, members_of}

Contains-later : (x : ℕ) (xs : List ℕ) (y : ℕ) → Contains xs y → Contains (x ∷ xs) y
Contains-later x xs y has = (suc has.0, omega (arith, has.1), has.2)

Contains-cases : (x : ℕ) (xs : List ℕ) (y : ℕ) → Contains (x ∷ xs) y → (x ≡ y) ⊎ Contains xs y
Contains-cases x xs y (zero, within, is) = inl is
Contains-cases x xs y (suc k, within, is) = inr (k, omega (arith, within), is)

module _ (test : ℕ → Bool) where
  Contains-filter : (xs : List ℕ) (y : ℕ) → Contains (filter test xs) y → Contains xs y × (test y ≡ true)
  Contains-filter [] y has = absurd (omega (arith, has.1))
  Contains-filter (x ∷ xs) y has = elim (cases_Bool (test x)) [
    | inl passes ↦ elim
        (Contains-cases x (filter test xs) y
        (subst (λ l. Contains l y) (ap (λ b. cond b (x ∷ filter test xs) (filter test xs)) passes) has)) [
          | inl here ↦ ((0, omega arith, here), subst (λ n. test n ≡ true) here passes)
          | inr rest ↦ let before = Contains-filter xs y rest in (Contains-later x xs y before.0, before.1)
        ]
    | inr fails ↦ let before =
        Contains-filter xs y
        (subst (λ l. Contains l y) (ap (λ b. cond b (x ∷ filter test xs) (filter test xs)) fails) has) in
        (Contains-later x xs y before.0, before.1)
  ]

  filter-Contains : (xs : List ℕ) (y : ℕ) → Contains xs y → test y ≡ true → Contains (filter test xs) y
  filter-Contains [] y has passes = absurd (omega (arith, has.1))
  filter-Contains (x ∷ xs) y has passes = elim (Contains-cases x xs y has) [
    | inl here ↦ subst (λ l. Contains l y)
        (sym (ap (λ b. cond b (x ∷ filter test xs) (filter test xs)) (ap test here ∙ passes))) (0, omega arith, here)
    | inr rest ↦ let after = filter-Contains xs y rest passes in elim (cases_Bool (test x)) [
      | inl also ↦ subst (λ l. Contains l y) (sym (ap (λ b. cond b (x ∷ filter test xs) (filter test xs)) also))
          (Contains-later x (filter test xs) y after)
      | inr fails ↦ subst (λ l. Contains l y) (sym (ap (λ b. cond b (x ∷ filter test xs) (filter test xs)) fails)) after
    ]
  ]

in_range : (n cell : ℕ) → Contains (range_with_len 0 n) cell → cell < n
in_range n cell has =
    let inside : has.0 < n = subst (λ k. has.0 < k) (length-range_with_len 0 n) has.1 in
    let is : 0 + has.0 ≡ cell = sym (get_or-range_with_len 0 n has.0 cell inside) ∙ has.2 in
    omega (arith, inside, is)

range_has : (n cell : ℕ) → cell < n → Contains (range_with_len 0 n) cell
range_has n cell within =
    let is : 0 + cell ≡ cell = omega arith in (
      cell,
      subst (λ k. cell < k) (sym (length-range_with_len 0 n)) within,
      get_or-range_with_len 0 n cell cell within
          ∙ is,
    )

module _ (marks : List Bool) where
  pub listed_iff : (cell : ℕ) → Contains (members_of marks) cell ↔ HasCell marks cell
  listed_iff cell = (
    λ has. let inside =
        Contains-filter (λ c. get_or marks c false) (range_with_len 0 (length marks)) cell has in
        (in_range (length marks) cell inside.0, inside.1),
    λ has. filter-Contains (λ c. get_or marks c false) (range_with_len 0 (length marks)) cell
        (range_has (length marks) cell has.0) has.1,
  )

  pub members_below : All (λ cell. cell < length marks) (members_of marks)
  members_below k d within =
      ((listed_iff (get_or (members_of marks) k d)).0 (Contains-get_or (members_of marks) k d within)).0

  pub length-members_of : length (members_of marks) ≡ members_in marks
  length-members_of =
      let marked : ℕ → Bool = λ c. get_or marks c false in
      let all : marks ≡ map marked (range_with_len 0 (length marks)) =
      fill_by_all marked marks (length marks) false refl (λ k below. refl) in
      length-filter marked (range_with_len 0 (length marks))
      ∙ sym (ap members_in all
      ∙ fold-map (λ (n : ℕ) (mark : Bool). n + cond mark 1 0) marked 0 (range_with_len 0 (length marks)))

pub members_listed : MembersAreListed
members_listed marks = (listed_iff marks, length-members_of marks)
