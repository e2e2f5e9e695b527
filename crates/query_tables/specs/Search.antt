-- What a search among numbers leaves out.
use Rattle.std.specs.Prelude.{ℕ, ◌<◌, ◌≤◌, List}
use Rattle.std.specs.List.{Contains}

-- what holds of numbers is not so from one number up to another, without that one
abbrev pub HasNone : (ℕ → Type 0) → ℕ → ℕ → Type 0
HasNone P from to = (k : ℕ) → from ≤ k → k < to → P k → ⊥

-- nor from one number on
abbrev pub HasNoneFrom : (ℕ → Type 0) → ℕ → Type 0
HasNoneFrom P from = (k : ℕ) → from ≤ k → P k → ⊥

-- both lists have the number
abbrev pub IsInBoth : List ℕ → List ℕ → ℕ → Type 0
IsInBoth one other k = Contains one k × Contains other k
