-- Patterns: for each of eight places perhaps one value, which the field of that number is to have.
use Rattle.std.specs.Prelude.{◌≡◌, ℕ, ◌<◌, List, length, Option, Some, None, replicate, slice_index_or}
use Rattle.header_set.specs.Headers.{field_of}

-- the pattern that leaves all fields free
abbrev pub any_pattern : List (Option ℕ)
any_pattern = replicate 8 None

-- what the pattern fixes for field k, if anything
abbrev pub fixed_at : List (Option ℕ) → ℕ → Option ℕ
fixed_at pattern k = slice_index_or pattern k None

-- the packet has each value that the pattern fixes for one of its fields
pub record Matches (sizes : List ℕ) (pattern : List (Option ℕ)) (p : ℕ) : Type 0 where
  pub each : (k x : ℕ) → k < length sizes → fixed_at pattern k ≡ Some x → field_of sizes p k ≡ x
