-- The names of hosts and of boxes.
use Rattle.std.proofs.Common.{◌≡◌, ℕ, Bool, ◌||◌, List, [], ◌∷◌, map, refl, ap, ◌∙◌}
use Rattle.std.specs.List.{list_any}
use Rattle.std.proofs.lemmas.List.Folds.{list_any-append}
use Rattle.amdl_tree.specs.declared.tree.Item.{Item}
use Rattle.amdl_tree.specs.Items.{host_item, host_items, box_item, box_items}
use Rattle.name_tables.specs.Names.{same_name, is_among}
use Rattle.tree_rules.specs.Spaces.{node_names}
use Rattle.tree_rules.specs.Rules.{passes}
use Rattle.item_rules.proofs.FormLemmas.{any_of_form}

pub any_map : {A B : Type 0} (t : B → Bool) (f : A → B) (xs : List A) →
    list_any (λ x. t (f x)) xs ≡ list_any t (map f xs)
any_map t f [] = refl
any_map t f (x ∷ xs) = ap (λ b. t (f x) || b) (any_map t f xs)

pub host_before : (name : List ℕ) (items : List Item) (found : Bool) →
    found ≡ list_any (λ item. passes (same_name name) (host_item item)) items →
    found ≡ is_among (host_items items) name
host_before name items found is = is ∙ any_of_form host_item (same_name name) items

pub box_before : (name : List ℕ) (items : List Item) (found : Bool) →
    found ≡ list_any (λ item. passes (λ box. same_name name box.name) (box_item item)) items →
    found ≡ is_among (map (λ box. box.name) (box_items items)) name
box_before name items found is =
    is ∙ any_of_form box_item (λ box. same_name name box.name) items
    ∙ any_map (same_name name) (λ box. box.name) (box_items items)

pub node_among : (name : List ℕ) (items : List Item) →
    is_among (node_names items) name
    ≡ is_among (host_items items) name || is_among (map (λ box. box.name) (box_items items)) name
node_among name items =
    list_any-append (same_name name) (host_items items) (map (λ box. box.name) (box_items items))
