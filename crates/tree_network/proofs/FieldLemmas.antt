-- Fields and their places, in the tables of the code.
use Rattle.std.proofs.Common.{◌≡◌, ℕ, ◌+◌, ◌≤◌, cond, List, [], ◌∷◌, length, Option, Some, refl, sym, ap, ◌∙◌, arith}
use Rattle.std.specs.Borrow.{Bor}
use Rattle.std.specs.List.{position_from}
use Rattle.std.specs.Option.{option_map, option_and_then}
use Rattle.std.specs.Slice.{IsItemAt}
use Rattle.std.proofs.lemmas.List.{set_past}
use Rattle.amdl_tree.specs.Items.{KindItem}
use Rattle.tree_plan.specs.Names.{same_name, number_of, value_in}
use Rattle.tree_plan.specs.Net.{field_names, value_of_field, with_equation}
use Rattle.tree_plan.proofs.NameLemmas.{lent_at}
use Rattle.tree_network.specs.declared.items.FieldItem.{FieldItem as ReadField}
use Rattle.tree_network.specs.Reads.{field_back, field_lent, fields_back}

-- the place of a field
field_from : (fields : List ReadField) (name : List ℕ) (i : ℕ) →
    position_from (λ field. same_name name field.name) i fields
    ≡ position_from (same_name name) i (field_names (fields_back fields))
field_from [] name i = refl
field_from (field ∷ fields) name i =
    ap (λ later. cond (same_name name field.name) (Some i) later) (field_from fields name (i + 1))

pub field_found : (fields : List ReadField) (name : List ℕ) (found : Option ℕ) →
    found ≡ position_from (λ field. same_name name field.name) 0 fields →
    found ≡ number_of (field_names (fields_back fields)) name
field_found fields name found at = at ∙ field_from fields name 0

-- what is asked of the field at a place
pub field_here : (kinds : List KindItem) (fields : List ReadField) (value : List ℕ) (k : ℕ)
    (lent : Option (Bor ReadField)) (found : Option ℕ) → IsItemAt fields k lent →
    found ≡ option_and_then (λ field. value_in kinds field.kind value) (option_map field_lent lent) →
    found ≡ value_of_field kinds (fields_back fields) value k
field_here kinds fields value k lent found here comes =
    comes ∙ ap (option_and_then (λ field. value_in kinds field.kind value)) (lent_at field_back fields k lent here)

-- a pattern has eight places
pub unplaced : (pattern : List (Option ℕ)) (field value : ℕ) → length pattern ≡ 8 → 8 ≤ field →
    pattern ≡ with_equation pattern (field, value)
unplaced pattern field value long past = sym (set_past pattern field (Some value) (omega arith))
