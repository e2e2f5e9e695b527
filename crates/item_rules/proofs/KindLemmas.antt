-- The first rule that a type or a field breaks.
use Rattle.std.proofs.Common.{◌≡◌, ℕ, Bool, true, false, ◌||◌, cond, List, [], ◌∷◌, Option, Some}
use Rattle.std.proofs.Common.{is_some, map, flat_map, refl, sym, ap, ◌∙◌}
use Rattle.std.specs.List.{list_any, find}
use Rattle.std.specs.Option.{option_map}
use Rattle.std.proofs.lemmas.List.Folds.{list_any-append}
use Rattle.amdl_tree.specs.declared.tree.Item.{Item}
use Rattle.amdl_tree.specs.declared.tree.Item.TheVariants.{Kind}
use Rattle.amdl_tree.specs.Items.{kind_items, field_items}
use Rattle.name_tables.specs.Names.{same_name, is_among, repeats}
use Rattle.tree_rules.specs.Spaces.{kind_names, term_names}
use Rattle.tree_rules.specs.Rules.{name_taken}
use Rattle.declared_names.specs.declared.declared.Declared.{Declared}
use Rattle.declared_names.specs.Declares.{Declares}
use Rattle.item_rules.specs.ByTables.{is_term, kind_takes}
use Rattle.item_rules.proofs.NodeLemmas.{any_map}

step : {A B : Type 0} (f : A → B) (b : Bool) (x : A) (rest : Option A) (any : Bool) →
    is_some (option_map f rest) ≡ any → is_some (option_map f (cond b (Some x) rest)) ≡ b || any
step f true x rest any e = refl
step f false x rest any e = e

-- something is found exactly where something passes
found_any : {A B : Type 0} (t : A → Bool) (f : A → B) (xs : List A) → is_some (option_map f (find t xs)) ≡ list_any t xs
found_any t f [] = refl
found_any t f (x ∷ xs) = step f (t x) x (find t xs) (list_any t xs) (found_any t f xs)

any_flat : {A B : Type 0} (t : B → Bool) (f : A → List B) (xs : List A) →
    list_any (λ x. list_any t (f x)) xs ≡ list_any t (flat_map f xs)
any_flat t f [] = refl
any_flat t f (x ∷ xs) =
    ap (λ b. list_any t (f x) || b) (any_flat t f xs) ∙ sym (list_any-append t (f x) (flat_map f xs))

-- the names of values and of fields by the tables
pub terms_are : (items : List Item) (declared : Declared) (name : List ℕ) → Declares items declared →
    is_term declared name ≡ is_among (term_names items) name
terms_are items declared name tables =
    (λ k. is_some (tables.values name k) || is_some (tables.fields name k))
    ∙ (λ k. found_any (λ kind. is_among kind.values name) (λ kind. kind.name) (kind_items items) k
    || found_any (λ field. same_name name field.name) (λ field. field.kind) (field_items items) k)
    ∙ (λ k. any_flat (same_name name) (λ kind. kind.values) (kind_items items) k
    || any_map (same_name name) (λ field. field.name) (field_items items) k)
    ∙ sym (list_any-append (same_name name) (flat_map (λ kind. kind.values) (kind_items items))
    (map (λ field. field.name) (field_items items)))

pub types_are : (items : List Item) (declared : Declared) (name : List ℕ) → Declares items declared →
    is_among declared.kinds name ≡ is_among (kind_names items) name
types_are items declared name tables = tables.kinds name

pub takes_are : (items : List Item) (declared : Declared) (name : List ℕ) (values : List (List ℕ)) →
    Declares items declared → kind_takes declared name values ≡ name_taken items (Kind name values)
takes_are items declared name values tables =
    λ k. tables.kinds name k || list_any (λ value. terms_are items declared value tables k) values || repeats values
