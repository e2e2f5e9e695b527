-- Names in lists.
use Rattle.std.specs.Prelude.{ℕ, Bool, false, ◌||◌, List, [], ◌∷◌, Option, Some, None, nat_eq, if◌then◌else◌}
use Rattle.std.specs.List.{list_any}
use Rattle.std.specs.Map.{lookup}
use Rattle.std.specs.Cmp.Lexicographic.{pointwise}

-- two names are the same
abbrev pub same_name : List ℕ → List ℕ → Bool
same_name one two = pointwise nat_eq one two

-- the name is one of these
abbrev pub is_among : List (List ℕ) → List ℕ → Bool
is_among names name = list_any (same_name name) names

-- some name stands twice
abbrev pub repeats : List (List ℕ) → Bool
repeats [] = false
repeats (name ∷ names) = is_among names name || repeats names

-- what a list of pairs tells of a name: the second part of the first pair whose first part is the name
abbrev pub told : List (List ℕ × List ℕ) → List ℕ → Option (List ℕ)
told pairs name = lookup (same_name name) pairs

-- what one pair tells
abbrev pub told_by : List ℕ → List ℕ → List ℕ → Option (List ℕ)
told_by first second name = if same_name name first then Some second else None
