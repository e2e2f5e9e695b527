-- Leaps from one rising list to another.
use Rattle.std.proofs.Common.{ℕ, List, inl, inr}
use Rattle.std.specs.List.{Contains}
use Rattle.std.proofs.lemmas.Bool.{cases_lt}
use Rattle.query_tables.specs.Search.{HasNone, HasNoneFrom, IsInBoth}

module _ (one other : List ℕ) (from low : ℕ) (none : HasNone (IsInBoth one other) from low) where
  -- the first list has no number from the low one on
  pub first_ends : HasNoneFrom (Contains one) low → HasNoneFrom (IsInBoth one other) from
  first_ends ends k le both = elim (cases_lt k low) [ inl less ↦ none k le less both | inr more ↦ ends k more both.0 ]

  module _ (first : ℕ) (least : HasNone (Contains one) low first) where
    none_below : HasNone (IsInBoth one other) from first
    none_below k le less both =
        elim (cases_lt k low) [ inl below ↦ none k le below both | inr more ↦ least k more less both.0 ]

    pub second_ends : HasNoneFrom (Contains other) first → HasNoneFrom (IsInBoth one other) from
    second_ends ends k le both =
        elim (cases_lt k first) [ inl less ↦ none_below k le less both | inr more ↦ ends k more both.1 ]

    pub both_below : (second : ℕ) → HasNone (Contains other) first second → HasNone (IsInBoth one other) from second
    both_below second next k le less both =
        elim (cases_lt k first) [ inl below ↦ none_below k le below both | inr more ↦ next k more less both.1 ]
