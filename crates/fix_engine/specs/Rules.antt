-- What the rules of a domain give from cells that are found already. Derivations are those of `amdl_tree`, over cells.
use Rattle.std.specs.Prelude.{ℕ, ◌⊎◌, List}
use Rattle.std.specs.List.{All, Contains}

-- the cell is given, or it follows
abbrev pub GivenOrFollows : (List ℕ → ℕ → Type 0) → List ℕ → List ℕ → ℕ → Type 0
GivenOrFollows follows given premises cell = Contains given cell ⊎ follows premises cell

-- what follows from cells that are done, the given cell among the premises, is found
abbrev pub HasReacted : (List ℕ → ℕ → Type 0) → ℕ → List ℕ → List ℕ → Type 0
HasReacted follows cell done found =
    (premises : List ℕ) (conclusion : ℕ) →
    follows premises conclusion → Contains premises cell → All (Contains done) premises → Contains found conclusion
