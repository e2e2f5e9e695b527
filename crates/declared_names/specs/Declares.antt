-- The tables of the names that items declare.
use Rattle.std.specs.Prelude.{◌≡◌, ℕ, List, Option, Some, None, if◌then◌else◌}
use Rattle.amdl_tree.specs.declared.tree.Item.{Item}
use Rattle.name_tables.specs.Names.{is_among, told}
use Rattle.tree_rules.specs.Spaces.{kind_names}
use Rattle.tree_rules.specs.Kinds.{kind_of_field, kind_of_value}
use Rattle.declared_names.specs.declared.declared.Declared.{Declared}

-- the tables have the types, the fields and the values of these items
pub record Declares (items : List Item) (declared : Declared) : Type 0 where
  pub kinds : (name : List ℕ) → is_among declared.kinds name ≡ is_among (kind_names items) name
  pub fields : (name : List ℕ) → told declared.fields name ≡ kind_of_field items name
  pub values : (name : List ℕ) → told declared.values name ≡ kind_of_value items name

-- what the values of one type tell
abbrev pub told_among : List (List ℕ) → List ℕ → List ℕ → Option (List ℕ)
told_among values kind name = if is_among values name then Some kind else None
