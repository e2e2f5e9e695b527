-- Each name is declared once in its name space.
use Rattle.std.proofs.Common.{
  ◌≡◌,
  ℕ,
  false,
  ◌||◌,
  List,
  [],
  ◌∷◌,
  ◌++◌,
  map,
  flat_map,
  refl,
  sym,
  ap,
  subst,
  ◌∙◌,
  append-nil,
}
use Rattle.std.specs.List.{list_any}
use Rattle.std.proofs.lemmas.Bool.{or_parts}
use Rattle.std.proofs.lemmas.List.{map-append}
use Rattle.std.proofs.lemmas.List.Concat.{flat_map-append}
use Rattle.std.proofs.lemmas.List.Elements.{filter_map-append}
use Rattle.amdl_tree.specs.declared.class.Class.{Class}
use Rattle.amdl_tree.specs.declared.tree.Item.{Item}
use Rattle.amdl_tree.specs.declared.tree.Item.TheVariants.{Kind, Field, Host, Instance}
use Rattle.amdl_tree.specs.Items.{
  kind_item,
  field_item,
  class_item,
  host_item,
  box_item,
  kind_items,
  field_items,
  class_items,
  host_items,
  box_items,
}
use Rattle.tree_rules.specs.declared.rule.Rule.TheVariants.{NameTaken}
use Rattle.tree_rules.specs.Spaces.{kind_names, term_names, class_names, node_names, is_among, repeats}
use Rattle.tree_rules.specs.Uses.{uses_of_handlers}
use Rattle.tree_rules.specs.Rules.{name_taken, use_takes, class_takes}
use Rattle.tree_soundness.proofs.Prefixes.{KeepsRules, grows}
use Rattle.tree_soundness.proofs.Names.{
  AreDisjoint,
  disjoint_from,
  disjoint_turned,
  disjoint_append,
  disjoint_append_left,
  disjoint_append_right,
  disjoint_single,
  repeats_append,
}

-- the items of one form, an item more
pub kinds_more : (before : List Item) (item : Item) →
    kind_items (before ++ item ∷ []) ≡ kind_items before ++ kind_items (item ∷ [])
kinds_more before item = filter_map-append kind_item before (item ∷ [])

pub fields_more : (before : List Item) (item : Item) →
    field_items (before ++ item ∷ []) ≡ field_items before ++ field_items (item ∷ [])
fields_more before item = filter_map-append field_item before (item ∷ [])

pub classes_more : (before : List Item) (item : Item) →
    class_items (before ++ item ∷ []) ≡ class_items before ++ class_items (item ∷ [])
classes_more before item = filter_map-append class_item before (item ∷ [])

pub hosts_more : (before : List Item) (item : Item) →
    host_items (before ++ item ∷ []) ≡ host_items before ++ host_items (item ∷ [])
hosts_more before item = filter_map-append host_item before (item ∷ [])

pub boxes_more : (before : List Item) (item : Item) →
    box_items (before ++ item ∷ []) ≡ box_items before ++ box_items (item ∷ [])
boxes_more before item = filter_map-append box_item before (item ∷ [])

-- the names of the kinds
names_of_kinds_more : (before : List Item) (item : Item) →
    kind_names (before ++ item ∷ []) ≡ kind_names before ++ kind_names (item ∷ [])
names_of_kinds_more before item =
    ap (map (λ kind. kind.name)) (kinds_more before item)
    ∙ map-append (λ kind. kind.name) (kind_items before) (kind_items (item ∷ []))

-- one name more, that is none of those so far
one_more : (names : List (List ℕ)) (name : List ℕ) → repeats names ≡ false → is_among names name ≡ false →
    repeats (names ++ name ∷ []) ≡ false
one_more names name once apart = repeats_append names (name ∷ []) once refl (disjoint_single names name apart)

none_more : (names : List (List ℕ)) → repeats names ≡ false → repeats (names ++ []) ≡ false
none_more names once = subst (λ names. repeats names ≡ false) (sym (append-nil names)) once

kinds_step : (before : List Item) (item : Item) → name_taken before item ≡ false →
    repeats (kind_names before) ≡ false →
    repeats (kind_names before ++ kind_names (item ∷ [])) ≡ false
kinds_step before (Kind name values) kept once =
    let parts =
    or_parts (is_among (kind_names before) name || list_any (is_among (term_names before)) values)
    (repeats values) kept in
    one_more (kind_names before) name once
    (or_parts (is_among (kind_names before) name) (list_any (is_among (term_names before)) values) parts.0).0
kinds_step before _ kept once = none_more (kind_names before) once

pub kinds_once : (items : List Item) → KeepsRules items → repeats (kind_names items) ≡ false
kinds_once items keeps =
    grows (λ items. repeats (kind_names items) ≡ false) items refl
    (λ before item after stands once.
    subst (λ names. repeats names ≡ false) (sym (names_of_kinds_more before item))
    (kinds_step before item (keeps.each NameTaken before item after stands) once))

-- what isn't taken by a class: its name, its ports, its relations, and the names in its handlers
pub record TakesNone (before : List Item) (class : Class) : Type 0 where
  pub name : is_among (class_names before) class.name ≡ false
  pub ports : repeats class.ports ≡ false
  pub relations : repeats (map (λ relation. relation.name) class.relations) ≡ false
  pub uses : list_any (use_takes before) (uses_of_handlers class.handlers) ≡ false

pub takes_none : (before : List Item) (class : Class) → class_takes before class ≡ false → TakesNone before class
takes_none before class kept =
    let name = is_among (class_names before) class.name in
    let ports = repeats class.ports in
    let relations = repeats (map (λ relation. relation.name) class.relations) in
    let one =
    or_parts ((name || ports) || relations) (list_any (use_takes before) (uses_of_handlers class.handlers)) kept in
    let two = or_parts (name || ports) relations one.0 in
    let three = or_parts name ports two.0 in
    record { name = three.0; ports = three.1; relations = two.1; uses = one.1 }

-- two lists that are one name space
pub record AreOneSpace (ones twos : List (List ℕ)) : Type 0 where
  pub first : repeats ones ≡ false
  pub second : repeats twos ≡ false
  pub apart : AreDisjoint ones twos

pub space_once : (ones twos : List (List ℕ)) → AreOneSpace ones twos → repeats (ones ++ twos) ≡ false
space_once ones twos space = repeats_append ones twos space.first space.second space.apart

same_space : (ones twos : List (List ℕ)) → AreOneSpace ones twos → AreOneSpace (ones ++ []) (twos ++ [])
same_space ones twos space =
    subst (λ names. AreOneSpace names (twos ++ [])) (sym (append-nil ones))
    (subst (AreOneSpace ones) (sym (append-nil twos)) space)

-- more names in the first list, and one name more in the second
space_first : (ones more twos : List (List ℕ)) → AreOneSpace ones twos → repeats more ≡ false →
    AreDisjoint (ones ++ twos) more → AreOneSpace (ones ++ more) (twos ++ [])
space_first ones more twos space once apart =
    subst (AreOneSpace (ones ++ more)) (sym (append-nil twos)) (record {
      first = repeats_append ones more space.first once (disjoint_append_left ones twos more apart);
      second = space.second;
      apart = disjoint_append ones more twos space.apart
          (disjoint_turned twos more (disjoint_append_right ones twos more apart));
    })

space_second : (ones twos : List (List ℕ)) (name : List ℕ) → AreOneSpace ones twos →
    is_among (ones ++ twos) name ≡ false → AreOneSpace (ones ++ []) (twos ++ name ∷ [])
space_second ones twos name space apart =
    let alone : AreDisjoint (ones ++ twos) (name ∷ []) = disjoint_single (ones ++ twos) name apart in
    subst (λ names. AreOneSpace names (twos ++ name ∷ [])) (sym (append-nil ones)) (record {
      first = space.first;
      second = repeats_append twos (name ∷ []) space.second refl (disjoint_append_right ones twos (name ∷ []) alone);
      apart = disjoint_turned (twos ++ name ∷ []) ones
          (disjoint_append twos (name ∷ []) ones (disjoint_turned ones twos space.apart)
          (disjoint_turned ones (name ∷ []) (disjoint_append_left ones twos (name ∷ []) alone)));
    })

-- values and fields
abbrev pub value_names : List Item → List (List ℕ)
value_names items = flat_map (λ kind. kind.values) (kind_items items)

abbrev pub names_of_fields : List Item → List (List ℕ)
names_of_fields items = map (λ field. field.name) (field_items items)

values_more : (before : List Item) (item : Item) →
    value_names (before ++ item ∷ []) ≡ value_names before ++ value_names (item ∷ [])
values_more before item =
    ap (flat_map (λ kind. kind.values)) (kinds_more before item)
    ∙ flat_map-append (λ kind. kind.values) (kind_items before) (kind_items (item ∷ []))

names_of_fields_more : (before : List Item) (item : Item) →
    names_of_fields (before ++ item ∷ []) ≡ names_of_fields before ++ names_of_fields (item ∷ [])
names_of_fields_more before item =
    ap (map (λ field. field.name)) (fields_more before item)
    ∙ map-append (λ field. field.name) (field_items before) (field_items (item ∷ []))

terms_step : (before : List Item) (item : Item) → name_taken before item ≡ false →
    AreOneSpace (value_names before) (names_of_fields before) →
    AreOneSpace (value_names before ++ value_names (item ∷ [])) (names_of_fields before ++ names_of_fields (item ∷ []))
terms_step before (Kind name values) kept space =
    let parts =
    or_parts (is_among (kind_names before) name || list_any (is_among (term_names before)) values)
    (repeats values) kept in
    let apart =
    (or_parts (is_among (kind_names before) name) (list_any (is_among (term_names before)) values) parts.0).1 in
    subst (λ more. AreOneSpace (value_names before ++ more) (names_of_fields before ++ [])) (sym (append-nil values))
    (space_first (value_names before) values (names_of_fields before) space parts.1
    (disjoint_from (term_names before) values apart))
terms_step before (Field name kind) kept space =
    space_second (value_names before) (names_of_fields before) name space kept
terms_step before _ kept space = same_space (value_names before) (names_of_fields before) space

pub terms_once : (items : List Item) → KeepsRules items → AreOneSpace (value_names items) (names_of_fields items)
terms_once items keeps =
    grows (λ items. AreOneSpace (value_names items) (names_of_fields items)) items
    (record { first = refl; second = refl; apart = disjoint_from [] [] refl })
    (λ before item after stands space.
    subst (λ ones. AreOneSpace ones (names_of_fields (before ++ item ∷ []))) (sym (values_more before item))
    (subst (AreOneSpace (value_names before ++ value_names (item ∷ []))) (sym (names_of_fields_more before item))
    (terms_step before item (keeps.each NameTaken before item after stands) space)))

-- hosts and boxes
abbrev pub names_of_boxes : List Item → List (List ℕ)
names_of_boxes items = map (λ box. box.name) (box_items items)

names_of_boxes_more : (before : List Item) (item : Item) →
    names_of_boxes (before ++ item ∷ []) ≡ names_of_boxes before ++ names_of_boxes (item ∷ [])
names_of_boxes_more before item =
    ap (map (λ box. box.name)) (boxes_more before item)
    ∙ map-append (λ box. box.name) (box_items before) (box_items (item ∷ []))

nodes_step : (before : List Item) (item : Item) → name_taken before item ≡ false →
    AreOneSpace (host_items before) (names_of_boxes before) →
    AreOneSpace (host_items before ++ host_items (item ∷ [])) (names_of_boxes before ++ names_of_boxes (item ∷ []))
nodes_step before (Host name) kept space =
    space_first (host_items before) (name ∷ []) (names_of_boxes before) space refl
    (disjoint_single (node_names before) name kept)
nodes_step before (Instance name class first) kept space =
    space_second (host_items before) (names_of_boxes before) name space kept
nodes_step before _ kept space = same_space (host_items before) (names_of_boxes before) space

pub nodes_once : (items : List Item) → KeepsRules items → AreOneSpace (host_items items) (names_of_boxes items)
nodes_once items keeps =
    grows (λ items. AreOneSpace (host_items items) (names_of_boxes items)) items
    (record { first = refl; second = refl; apart = disjoint_from [] [] refl })
    (λ before item after stands space.
    subst (λ ones. AreOneSpace ones (names_of_boxes (before ++ item ∷ []))) (sym (hosts_more before item))
    (subst (AreOneSpace (host_items before ++ host_items (item ∷ []))) (sym (names_of_boxes_more before item))
    (nodes_step before item (keeps.each NameTaken before item after stands) space)))
