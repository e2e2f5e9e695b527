-- A set of cells as its marks, one a cell in rising order.
use Rattle.std.specs.Prelude.{◌≡◌, ℕ, ◌<◌, ◌≤◌, Bool, true, false, List, length, slice_index_or}
use Rattle.std.specs.List.{count_by, filter, range_with_len}

-- the cell is in the set
abbrev pub HasCell : List Bool → ℕ → Type 0
HasCell marks cell = (cell < length marks) × (slice_index_or marks cell false ≡ true)

-- no cell from the one up to the other, without that one, is in the set
abbrev pub HasNoneFrom : List Bool → ℕ → ℕ → Type 0
HasNoneFrom marks from to = (cell : ℕ) → from ≤ cell → cell < to → ¬ (HasCell marks cell)

-- how many cells are in the set
abbrev pub members_in : List Bool → ℕ
members_in marks = count_by (λ mark. mark) marks

-- the cells of the set, in rising order
abbrev pub members_of : List Bool → List ℕ
members_of marks = filter (λ cell. slice_index_or marks cell false) (range_with_len 0 (length marks))
