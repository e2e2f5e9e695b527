-- Items of one form.
use Rattle.std.proofs.Common.{◌≡◌, ℕ, Bool, ◌||◌, List, [], ◌∷◌, Option, Some, None, filter_map, refl, ap, ◌∙◌}
use Rattle.std.specs.List.{list_any, cons_option}
use Rattle.amdl_tree.specs.declared.tree.End.{End}
use Rattle.amdl_tree.specs.declared.tree.Equal.{Equal}
use Rattle.amdl_tree.specs.declared.tree.Item.{Item}
use Rattle.amdl_tree.specs.Items.{link_item, sends_item, sends_items, forbid_item, forbid_items}
use Rattle.tree_rules.specs.Rules.{passes, has_end, end_taken_before, same_pattern}

step : {B : Type 0} (t : B → Bool) (found : Option B) (others : List B) →
    passes t found || list_any t others ≡ list_any t (cons_option found others)
step t None others = refl
step t (Some y) others = refl

-- one of the items of a form passes exactly where one of all items is of the form and passes
pub any_of_form : {A B : Type 0} (form : A → Option B) (t : B → Bool) (xs : List A) →
    list_any (λ x. passes t (form x)) xs ≡ list_any t (filter_map form xs)
any_of_form form t [] = refl
any_of_form form t (x ∷ xs) =
    ap (λ b. passes t (form x) || b) (any_of_form form t xs) ∙ step t (form x) (filter_map form xs)

pub linked_before : (end : End) (items : List Item) (found : Bool) →
    found ≡ list_any (λ item. passes (has_end end) (link_item item)) items → found ≡ end_taken_before items end
linked_before end items found is = is ∙ any_of_form link_item (has_end end) items

pub sent_before : (host : List ℕ) (pattern : List Equal) (items : List Item) (found : Bool) →
    found ≡ list_any (λ item. passes (same_pattern host pattern) (sends_item item)) items →
    found ≡ list_any (same_pattern host pattern) (sends_items items)
sent_before host pattern items found is = is ∙ any_of_form sends_item (same_pattern host pattern) items

pub forbidden_before : (host : List ℕ) (pattern : List Equal) (items : List Item) (found : Bool) →
    found ≡ list_any (λ item. passes (same_pattern host pattern) (forbid_item item)) items →
    found ≡ list_any (same_pattern host pattern) (forbid_items items)
forbidden_before host pattern items found is = is ∙ any_of_form forbid_item (same_pattern host pattern) items
