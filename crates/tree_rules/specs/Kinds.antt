-- The type of what is named. A pick hides what else has its name, and a field hides a value.
use Rattle.std.specs.Prelude.{ℕ, Bool, false, not, List, Option, Some}
use Rattle.std.specs.List.{find}
use Rattle.std.specs.Option.{option_map, option_or}
use Rattle.amdl_tree.specs.declared.class.Relation.{Relation}
use Rattle.amdl_tree.specs.declared.tree.Item.{Item}
use Rattle.amdl_tree.specs.Items.{kind_items, field_items}
use Rattle.tree_plan.specs.Names.{same_name}
use Rattle.tree_rules.specs.Spaces.{is_among}
use Rattle.tree_rules.specs.Uses.{Opened}

-- the type that a field, a value and a pick are declared with
abbrev pub kind_of_field : List Item → List ℕ → Option (List ℕ)
kind_of_field items name =
    option_map (λ field. field.kind) (find (λ field. same_name name field.name) (field_items items))

abbrev pub kind_of_value : List Item → List ℕ → Option (List ℕ)
kind_of_value items name = option_map (λ kind. kind.name) (find (λ kind. is_among kind.values name) (kind_items items))

abbrev pub kind_of_pick : List Opened → List ℕ → Option (List ℕ)
kind_of_pick opened name = option_map (λ pick. pick.kind) (find (λ pick. same_name name pick.name) opened)

-- the type of an expression
abbrev pub kind_of_term : List Item → List Opened → List ℕ → Option (List ℕ)
kind_of_term items opened name =
    option_or (kind_of_pick opened name) (option_or (kind_of_field items name) (kind_of_value items name))

-- both have a type, and these differ
abbrev pub differ : Option (List ℕ) → Option (List ℕ) → Bool
differ (Some one) (Some two) = not (same_name one two)
differ _ _ = false

-- the relation of a name among those of a class
abbrev pub relation_named : List Relation → List ℕ → Option Relation
relation_named relations name = find (λ relation. same_name name relation.name) relations
