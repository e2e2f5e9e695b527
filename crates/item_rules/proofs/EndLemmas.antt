-- Where ends are.
use Rattle.std.proofs.Common.{◌≡◌, ℕ, ◌+◌, Bool, true, false, cond, ◌||◌, not, List, [], ◌∷◌, Option, Some, None}
use Rattle.std.proofs.Common.{is_none, slice_get, refl, sym, ap, ◌∙◌}
use Rattle.std.specs.List.{find, list_any, position_from}
use Rattle.std.specs.Option.{option_map, option_and_then}
use Rattle.amdl_tree.specs.declared.class.Class.{Class}
use Rattle.amdl_tree.specs.declared.tree.Item.{Item}
use Rattle.amdl_tree.specs.declared.tree.End.TheVariants as at
use Rattle.amdl_tree.specs.Items.{BoxItem, class_items, host_items, box_items}
use Rattle.net_plan.specs.declared.fact.Place.TheVariants.{Host, Port}
use Rattle.name_tables.specs.Names.{same_name, is_among}
use Rattle.tree_plan.specs.Names.{number_of}
use Rattle.tree_plan.specs.Net.{class_named, port_of, port_place, box_number, place_of}
use Rattle.tree_rules.specs.Rules.{passes}
use Rattle.item_rules.specs.Found.{class_has_port, box_has_port}
use Rattle.item_rules.proofs.FoundLemmas.{named_found}

none_mapped : {A B : Type 0} (f : A → B) (found : Option A) → is_none (option_map f found) ≡ is_none found
none_mapped f None = refl
none_mapped f (Some x) = refl

none_or : (b : Bool) (i : ℕ) (found : Option ℕ) (any : Bool) → is_none found ≡ not any →
    is_none (cond b (Some i) found) ≡ not (b || any)
none_or true i found any is = refl
none_or false i found any is = is

-- a name has no number exactly where it is not among the names
no_place : {A : Type 0} (t : A → Bool) (i : ℕ) (xs : List A) → is_none (position_from t i xs) ≡ not (list_any t xs)
no_place t i [] = refl
no_place t i (x ∷ xs) = none_or (t x) i (position_from t (i + 1) xs) (list_any t xs) (no_place t (i + 1) xs)

pub host_placed : (items : List Item) (host : List ℕ) (found : Bool) → found ≡ is_among (host_items items) host →
    not found ≡ is_none (place_of items (at.Host host))
host_placed items host found is =
    ap not is
    ∙ sym (none_mapped Host (number_of (host_items items) host) ∙ no_place (same_name host) 0 (host_items items))

module _ (items : List Item) (port : List ℕ) where
  by_class : (class : Option Class) →
      is_none (option_and_then (λ class. number_of class.ports port) class)
      ≡ not (passes (λ class. is_among class.ports port) class)
  by_class None = refl
  by_class (Some class) = no_place (same_name port) 0 class.ports

  by_box : (box : Option BoxItem) →
      is_none (option_and_then (port_of (class_items items) port) box)
      ≡ not (passes (class_has_port items port) (option_map (λ box. box.class) box))
  by_box None = refl
  by_box (Some box) = by_class (class_named items box.class)

  by_number : (number : Option ℕ) →
      is_none (option_and_then (port_place (class_items items) (box_items items) port) number)
      ≡ is_none (option_and_then (port_of (class_items items) port)
      (option_and_then (slice_get (box_items items)) number))
  by_number None = refl
  by_number (Some n) =
      none_mapped (Port n) (option_and_then (port_of (class_items items) port) (slice_get (box_items items) n))

  pub port_placed : (name : List ℕ) (found : Bool) → found ≡ box_has_port items name port →
      not found ≡ is_none (place_of items (at.Port name port))
  port_placed name found is =
      ap not is
      ∙ sym (by_number (box_number (box_items items) name)
      ∙ ap (λ box. is_none (option_and_then (port_of (class_items items) port) box))
      (named_found (λ box. box.name) name (box_items items))
      ∙ by_box (find (λ box. same_name name box.name) (box_items items)))
