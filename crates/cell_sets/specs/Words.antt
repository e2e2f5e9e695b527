-- Marks kept as the bits of words, 64 in each, the lowest first.
use Rattle.std.specs.Prelude.{◌≡◌, ℕ, ◌/◌, ◌%◌, ◌<◌, ◌≤◌, ◌==◌, Bool, false, List, map, slice_index}
use Rattle.std.specs.List.{range_with_len}
use Rattle.std.specs.Int.{bit_at}

-- whether the cell's bit is 1
unfoldable pub is_marked : List ℕ → ℕ → Bool
is_marked words cell = bit_at (slice_index words (cell / 64)) (cell % 64) == 1

-- the marks of the cells below the count
unfoldable pub marks_of : List ℕ → ℕ → List Bool
marks_of words cells = map (is_marked words) (range_with_len 0 cells)

-- no bit of the word from the one place up to the other is 1
abbrev pub HasNoBit : ℕ → ℕ → ℕ → Type 0
HasNoBit word from to = (place : ℕ) → from ≤ place → place < to → bit_at word place ≡ 0

-- no cell from the one up to the other is marked
abbrev pub HasNoMark : List ℕ → ℕ → ℕ → Type 0
HasNoMark words from to = (cell : ℕ) → from ≤ cell → cell < to → is_marked words cell ≡ false
