-- How a work space keeps its progress: the found cells in the order in which they were found, the place of the first
-- one that waits, and a set each of the found and of the taken cells.
use Rattle.std.specs.Prelude.{◌≡◌, ◌≢◌, ℕ, ◌≤◌, ◌↔◌, Bool, List, length, take, drop}
use Rattle.std.specs.List.{AllPairs, Contains}
use Rattle.cell_sets.specs.Marks.{HasCell, members_in}
use Rattle.fix_engine.specs.Progress.{Progress}

abbrev pub progress_of : List Bool → List ℕ → ℕ → Progress
progress_of found order next = record { cells = length found; done = take next order; todo = drop next order }

-- the order has each found cell once, and room for all cells
pub record IsSpace (found taken : List Bool) (order : List ℕ) (next room : ℕ) : Type 0 where
  pub sizes : length taken ≡ length found
  pub fits : length found ≤ room
  pub count : length order ≡ members_in found
  pub within : next ≤ length order
  pub once : AllPairs (λ one other. one ≢ other) order
  pub finds : (cell : ℕ) → HasCell found cell ↔ Contains order cell
  pub takes : (cell : ℕ) → HasCell taken cell ↔ Contains (take next order) cell
