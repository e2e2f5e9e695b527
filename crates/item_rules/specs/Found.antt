-- The first of some items that tells something.
use Rattle.std.specs.Prelude.{ℕ, ◌*◌, min, Bool, List, [], ◌∷◌, Option, Some, None, cond, length}
use Rattle.std.specs.List.{find}
use Rattle.std.specs.Option.{option_map, option_and_then, option_or}
use Rattle.amdl_tree.specs.declared.class.Class.{Class}
use Rattle.amdl_tree.specs.declared.tree.Item.{Item}
use Rattle.amdl_tree.specs.Items.{FieldItem, kind_item, field_item, class_item, box_item, kind_items, box_items}
use Rattle.name_tables.specs.Names.{is_among}
use Rattle.tree_plan.specs.Names.{same_name, joined, values_named}
use Rattle.tree_plan.specs.Net.{class_named}
use Rattle.tree_rules.specs.Rules.{passes}

-- what the first tells that tells something
abbrev pub first_told : {A B : Type 0} → (A → Option B) → List A → Option B
first_told tells [] = None
first_told tells (x ∷ xs) = option_or (tells x) (first_told tells xs)

-- what one tells that passes a test
abbrev pub tells_if : {A B : Type 0} → (A → Bool) → (A → B) → A → Option B
tells_if test tells x = cond (test x) (Some (tells x)) None

-- the class of this name
abbrev pub class_if : List ℕ → Item → Option Class
class_if name item = option_and_then (tells_if (λ class. same_name name class.name) (λ class. class)) (class_item item)

-- the name of the class of the box of this name
abbrev pub box_class_if : List ℕ → Item → Option (List ℕ)
box_class_if name item = option_and_then (tells_if (λ box. same_name name box.name) (λ box. box.class)) (box_item item)

-- how many values the type of this name has
abbrev pub size_if : List ℕ → Item → Option ℕ
size_if name item =
    option_and_then (tells_if (λ kind. same_name name kind.name) (λ kind. length kind.values)) (kind_item item)

-- the class of this name has the port
abbrev pub class_has_port : List Item → List ℕ → List ℕ → Bool
class_has_port items port name = passes (λ class. is_among class.ports port) (class_named items name)

-- the class of the box of this name has the port
abbrev pub box_has_port : List Item → List ℕ → List ℕ → Bool
box_has_port items name port =
    passes (class_has_port items port)
    (option_map (λ box. box.class) (find (λ box. same_name name box.name) (box_items items)))

-- a number, or the largest of 64 bits where that is less
abbrev pub capped : ℕ → ℕ
capped n = min n 18446744073709551615

-- what an item counts for in the product of the sizes of the fields: its size, or 1 where it is no field
abbrev pub factor_with : List Item → Option FieldItem → Option ℕ
factor_with before (Some field) = values_named (kind_items before) field.kind
factor_with before None = Some 1

-- the product of these factors
abbrev pub product_with : List Item → List Item → Option ℕ
product_with before [] = Some 1
product_with before (item ∷ items) =
    joined (λ size sizes. size * sizes) (factor_with before (field_item item)) (product_with before items)
