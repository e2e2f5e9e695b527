-- How far the work of a fixpoint has come, and the steps by which it goes on.
use Rattle.std.specs.Prelude.{◌≡◌, ℕ, ◌<◌, ◌≤◌, ◌⊎◌, List, [], ◌∷◌, ◌++◌}
use Rattle.std.specs.List.{Contains}

-- the number of cells; the cells that are done, in the order in which they were taken; and those that wait, in the
-- order in which they will be
pub record Progress : Type 0 where
  pub cells : ℕ
  pub done : List ℕ
  pub todo : List ℕ

-- the cells that are found, done or waiting
abbrev pub found_in : Progress → List ℕ
found_in progress = progress.done ++ progress.todo

-- nothing is found yet
abbrev pub nothing_found : ℕ → Progress
nothing_found cells = record { cells = cells; done = []; todo = [] }

-- a cell is offered: it waits behind all others from now on, or it was found before and nothing changes
abbrev pub Offers : Progress → ℕ → Progress → Type 0
Offers old cell new =
    (Contains (found_in old) cell × (new ≡ old))
    ⊎ (¬ (Contains (found_in old) cell) × (new ≡ record old { todo = old.todo ++ cell ∷ [] }))

-- the first cell that waits is done from now on
pub record Takes (old : Progress) (cell : ℕ) (new : Progress) : Type 0 where
  pub cells : new.cells ≡ old.cells
  pub todo : old.todo ≡ cell ∷ new.todo
  pub done : new.done ≡ old.done ++ cell ∷ []

-- cells were offered, and none was taken
pub record Grows (old new : Progress) : Type 0 where
  pub cells : new.cells ≡ old.cells
  pub done : new.done ≡ old.done
  pub todo : (more : List ℕ) × (new.todo ≡ old.todo ++ more)

-- no cell of the list lies from the one cell up to the other, without that one
abbrev pub HasNoneOf : List ℕ → ℕ → ℕ → Type 0
HasNoneOf list from to = (cell : ℕ) → from ≤ cell → cell < to → ¬ (Contains list cell)
