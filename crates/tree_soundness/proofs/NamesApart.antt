-- The names of the network of items that keep the rules.
use Rattle.std.proofs.Common.{◌≡◌, ℕ, List, [], ◌∷◌, ◌++◌, map, map-id, flat_map, Some, refl, sym, ap, subst, ◌∙◌}
use Rattle.std.proofs.lemmas.List.Folds.{flat_map-map}
use Rattle.amdl_tree.specs.declared.tree.Item.{Item}
use Rattle.amdl_tree.specs.declared.tree.Tree.{Tree}
use Rattle.amdl_tree.specs.Items.{FieldItem, BoxItem, kind_items, field_items, host_items, box_items}
use Rattle.amdl_tree.specs.Word.{IsName}
use Rattle.net_plan.specs.declared.plan.Plan.{Plan}
use Rattle.net_plan.specs.declared.plan.KindPlan.{KindPlan}
use Rattle.net_plan.specs.declared.plan.FieldPlan.{FieldPlan}
use Rattle.net_plan.specs.declared.plan.HostPlan.{HostPlan}
use Rattle.net_plan.specs.declared.plan.BoxPlan.{BoxPlan}
use Rattle.net_plan.specs.Sound.{AreApart, terms_of, nodes_of, HasNamesApart}
use Rattle.tree_plan.specs.Net.{kind_of, field_of}
use Rattle.tree_rules.specs.Spaces.{kind_names}
use Rattle.tree_soundness.proofs.Parts.{host_from, box_from}
use Rattle.tree_soundness.proofs.Prefixes.{KeepsRules}
use Rattle.tree_soundness.proofs.Names.{names_apart}
use Rattle.tree_soundness.proofs.Declared.{
  value_names,
  names_of_fields,
  names_of_boxes,
  kinds_once,
  terms_once,
  nodes_once,
  space_once,
}
use Rattle.tree_soundness.proofs.Lists.{come_from, zip_map}
use Rattle.tree_soundness.proofs.Spelled.{HasParts, IsSpelled, field_parts, host_parts, box_parts}

pub map_twice : {A B C : Type 0} (g : B → C) (f : A → B) (xs : List A) → map g (map f xs) ≡ map (λ x. g (f x)) xs
map_twice g f [] = refl
map_twice g f (x ∷ xs) = ap (λ ys. g (f x) ∷ ys) (map_twice g f xs)

module _ (items : List Item) (spelled : Plan) (parts : HasParts items spelled) where
  pub kinds_named : map (λ (kind : KindPlan). kind.name) spelled.kinds ≡ kind_names items
  kinds_named =
      ap (map (λ (kind : KindPlan). kind.name)) parts.kinds
      ∙ map_twice (λ (kind : KindPlan). kind.name) kind_of (kind_items items)

  values_same : flat_map (λ (kind : KindPlan). kind.values) spelled.kinds ≡ value_names items
  values_same =
      ap (flat_map (λ (kind : KindPlan). kind.values)) parts.kinds
      ∙ flat_map-map (λ (kind : KindPlan). kind.values) kind_of (kind_items items)

  fields_named : map (λ (field : FieldPlan). field.name) spelled.fields ≡ names_of_fields items
  fields_named =
      zip_map (λ field found. field_of (kind_items items) field ≡ Some found) (λ (field : FieldItem). field.name)
      (λ (field : FieldPlan). field.name) (field_items items) spelled.fields
      (λ field found came. (field_parts items field found came).name)
      (come_from (field_of (kind_items items)) (field_items items) spelled.fields parts.fields)

  hosts_named : map (λ (host : HostPlan). host.name) spelled.hosts ≡ host_items items
  hosts_named =
      zip_map (λ name found. host_from items name ≡ Some found) (λ (name : List ℕ). name)
      (λ (host : HostPlan). host.name)
      (host_items items) spelled.hosts
      (λ name found came. (host_parts items name found came).name_is)
      (come_from (host_from items) (host_items items) spelled.hosts parts.hosts)
      ∙ map-id (host_items items)

  boxes_named : map (λ (box : BoxPlan). box.name) spelled.boxes ≡ names_of_boxes items
  boxes_named =
      zip_map (λ box found. box_from items box ≡ Some found) (λ (box : BoxItem). box.name)
      (λ (box : BoxPlan). box.name)
      (box_items items) spelled.boxes
      (λ box found came. (box_parts items box found came).name)
      (come_from (box_from items) (box_items items) spelled.boxes parts.boxes)

  terms_same : terms_of spelled ≡ value_names items ++ names_of_fields items
  terms_same = λ i. values_same i ++ fields_named i

  nodes_same : nodes_of spelled ≡ host_items items ++ names_of_boxes items
  nodes_same = λ i. hosts_named i ++ boxes_named i

pub has_names_apart : (tree : Tree) (spelled : Plan) → IsSpelled tree spelled → KeepsRules tree.items →
    IsName tree.name → HasNamesApart spelled
has_names_apart tree spelled is keeps named = record {
  named = subst IsName (sym is.name) named;
  kinds = subst AreApart (sym (kinds_named tree.items spelled is.parts))
      (names_apart (kind_names tree.items) (kinds_once tree.items keeps));
  terms = subst AreApart (sym (terms_same tree.items spelled is.parts))
      (names_apart (value_names tree.items ++ names_of_fields tree.items)
      (space_once (value_names tree.items) (names_of_fields tree.items) (terms_once tree.items keeps)));
  nodes = subst AreApart (sym (nodes_same tree.items spelled is.parts))
      (names_apart (host_items tree.items ++ names_of_boxes tree.items)
      (space_once (host_items tree.items) (names_of_boxes tree.items) (nodes_once tree.items keeps)));
}
