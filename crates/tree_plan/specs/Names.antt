-- What names stand for. A name stands for the first that is declared so; one that isn't declared stands for nothing.
use Rattle.std.specs.Prelude.{ℕ, Bool, List, [], ◌∷◌, Option, Some, None, nat_eq, length, map, slice_get}
use Rattle.std.specs.List.{position_from}
use Rattle.std.specs.Option.{option_map, option_and_then, option_or}
use Rattle.std.specs.Cmp.Lexicographic.{pointwise}
use Rattle.amdl_tree.specs.Items.{KindItem}

-- two names are the same
abbrev pub same_name : List ℕ → List ℕ → Bool
same_name one two = pointwise nat_eq one two

-- the number of a name among those that are declared
abbrev pub number_of : List (List ℕ) → List ℕ → Option ℕ
number_of names name = position_from (same_name name) 0 names

-- what two come to together, where both come to something
abbrev pub joined : {A B C : Type 0} → (A → B → C) → Option A → Option B → Option C
joined f (Some a) (Some b) = Some (f a b)
joined f _ _ = None

-- what each of a list comes to, where all come to something
abbrev pub all_some : {A B : Type 0} → (A → Option B) → List A → Option (List B)
all_some f [] = Some []
all_some f (x ∷ xs) = joined (λ y ys. y ∷ ys) (f x) (all_some f xs)

-- the number of a type, and the type
abbrev pub kind_number : List KindItem → List ℕ → Option ℕ
kind_number kinds name = number_of (map (λ kind. kind.name) kinds) name

abbrev pub kind_named : List KindItem → List ℕ → Option KindItem
kind_named kinds name = option_and_then (slice_get kinds) (kind_number kinds name)

-- the number of a value in its type
abbrev pub value_number : List KindItem → List ℕ → Option ℕ
value_number [] name = None
value_number (kind ∷ kinds) name = option_or (number_of kind.values name) (value_number kinds name)

-- how many values a type has
abbrev pub values_named : List KindItem → List ℕ → Option ℕ
values_named kinds name = option_map (λ kind. length kind.values) (kind_named kinds name)

-- the number of a value among those of the type of a name
abbrev pub value_in : List KindItem → List ℕ → List ℕ → Option ℕ
value_in kinds kind value = option_and_then (λ found. number_of found.values value) (kind_named kinds kind)
