-- Sets of cells, as lists, that are closed under rules.
use Rattle.std.specs.Prelude.{ℕ, ◌<◌, List}
use Rattle.std.specs.List.{All, Contains}

-- what follows from cells of the set, or from none, is in the set
abbrev pub IsClosed : (List ℕ → ℕ → Type 0) → List ℕ → Type 0
IsClosed follows cells =
    (premises : List ℕ) (conclusion : ℕ) →
    All (Contains cells) premises → follows premises conclusion → Contains cells conclusion

-- each cell of the set is below the number of cells
abbrev pub AreBelow : ℕ → List ℕ → Type 0
AreBelow count cells = All (λ cell. cell < count) cells
