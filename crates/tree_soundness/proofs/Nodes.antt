-- Each part of the network of items that keep the rules: its hosts and its boxes.
use Rattle.std.proofs.Common.{
  ◌≡◌,
  ℕ,
  Bool,
  true,
  false,
  cond,
  not,
  nat_eq,
  List,
  [],
  ◌∷◌,
  ◌++◌,
  length,
  map,
  zip,
  fold,
  filter,
  Option,
  Some,
  is_none,
  option_map,
  option_and_then,
  slice_get,
  refl,
  sym,
  ap,
  subst,
  ◌∙◌,
  arith,
  eqb-true,
}
use Rattle.std.specs.List.{All, list_any, find, AllByRecursion}
use Rattle.std.proofs.lemmas.Bool.{or_parts, not-false}
use Rattle.std.proofs.lemmas.Option.{option_and_then_some}
use Rattle.std.proofs.lemmas.List.{map-append}
use Rattle.header_set.specs.Pattern.{any_pattern}
use Rattle.amdl_tree.specs.declared.guard.Atom.{Atom}
use Rattle.amdl_tree.specs.declared.class.Class.{Class}
use Rattle.amdl_tree.specs.declared.class.Relation.{Relation}
use Rattle.amdl_tree.specs.declared.tree.Equal.{Equal}
use Rattle.amdl_tree.specs.declared.tree.Item.{Item}
use Rattle.amdl_tree.specs.declared.tree.Item.TheVariants.{Instance, Sends, Forbid}
use Rattle.amdl_tree.specs.Items.{
  KindItem,
  FieldItem,
  BoxItem,
  PatternItem,
  kind_items,
  field_items,
  class_items,
  host_items,
  box_items,
  sends_items,
  forbid_items,
}
use Rattle.amdl_tree.specs.WellBuilt.{IsBuiltItem}
use Rattle.box_contents.specs.Contents.{with_entry}
use Rattle.box_handlers.specs.Tuple.{tuple_number}
use Rattle.tree_plan.specs.Names.{value_in, same_name, number_of, all_some, kind_number, kind_named, values_named}
use Rattle.tree_plan.specs.Net.{
  field_names,
  value_of_field,
  equation_of,
  with_equation,
  pattern_of,
  patterns_of,
  class_named,
  values_of,
  tuple_of_values,
}
use Rattle.tree_rules.specs.declared.rule.Rule.TheVariants.{UnknownName, Arity, KindMismatch}
use Rattle.tree_rules.specs.Spaces.{class_names, is_among, repeats}
use Rattle.tree_rules.specs.Kinds.{kind_of_value, differ, relation_named}
use Rattle.tree_rules.specs.Kinds as rule
use Rattle.tree_rules.specs.Rules.{
  passes,
  atom_unknown,
  equal_unknown,
  pattern_unknown,
  arity_differs,
  args_mismatch,
  equal_mismatch,
}
use Rattle.tree_soundness.proofs.Parts.{host_from, class_number_from, entry_from, first_from, box_from}
use Rattle.tree_soundness.proofs.Prefixes.{KeepsRules}
use Rattle.tree_soundness.proofs.Names.{number_at, number_among, number_front, same_is}
use Rattle.tree_soundness.proofs.Declared.{kinds_once}
use Rattle.tree_soundness.proofs.Lists.{
  option_map_some,
  some_come,
  each_fails,
  each_weaker,
  each_both,
  each_three,
  each_always,
  each_at,
  get_in_front,
  map_get,
  find_at,
  position_map,
}
use Rattle.tree_soundness.proofs.Forms.{
  each_class,
  each_box,
  each_sends,
  each_forbid,
  kinds_split,
  classes_split,
  fields_fixed,
}
use Rattle.tree_soundness.proofs.Existence.{
  Comes,
  comes_mapped,
  comes_joined,
  not_none,
  kind_comes,
  argument_kinds_come,
}

-- two types that don't differ are one
pub differ_not : (one two : List ℕ) → differ (Some one) (Some two) ≡ false → one ≡ two
differ_not one two same = same_is one two (not-false (same_name one two) same)

-- a type at its place among types without repeats
pub kind_placed : (kinds : List KindItem) (k : ℕ) (kind : KindItem) → repeats (map (λ kind. kind.name) kinds) ≡ false →
    slice_get kinds k ≡ Some kind →
    kind_number kinds kind.name ≡ Some k
kind_placed kinds k kind once at =
    number_at (map (λ kind. kind.name) kinds) k kind.name once
    (map_get (λ (kind : KindItem). kind.name) kinds k kind at)

-- the type of a value is the one of its name among all
pub record HasValue (kinds : List KindItem) (value name : List ℕ) : Type 0 where
  pub kind : KindItem
  pub named : kind.name ≡ name
  pub place : ℕ
  pub number : kind_number kinds name ≡ Some place
  pub stands : slice_get kinds place ≡ Some kind
  pub found : ℕ
  pub value_is : number_of kind.values value ≡ Some found

pub value_found : (kinds more : List KindItem) (value name : List ℕ) →
    repeats (map (λ kind. kind.name) (kinds ++ more)) ≡ false →
    option_map (λ kind. kind.name) (find (λ kind. is_among kind.values value) kinds) ≡ Some name →
    HasValue (kinds ++ more) value name
value_found kinds more value name once has =
    option_map_some (λ (kind : KindItem). kind.name) (find (λ kind. is_among kind.values value) kinds) name has
    (λ kind found is.
    let at = find_at (λ (kind : KindItem). is_among kind.values value) kinds kind found in
    let stands = get_in_front kinds more at.0 kind at.2 in
    let number = number_among kind.values value at.3 in
    record {
      kind = kind;
      named = is;
      place = at.0;
      number = subst (λ name. kind_number (kinds ++ more) name ≡ Some at.0) is
          (kind_placed (kinds ++ more) at.0 kind once stands);
      stands = stands;
      found = number.0;
      value_is = number.1;
    })

pub value_named : (kinds : List KindItem) (value name : List ℕ) (has : HasValue kinds value name) →
    kind_named kinds name ≡ Some has.kind
value_named kinds value name has = ap (option_and_then (slice_get kinds)) has.number ∙ has.stands

module _ (items : List Item) (keeps : KeepsRules items) where
  pub value_found_at : (before rest : List Item) (value name : List ℕ) → items ≡ before ++ rest →
      kind_of_value before value ≡ Some name → HasValue (kind_items items) value name
  value_found_at before rest value name whole has =
      subst (λ kinds. HasValue kinds value name) (sym (kinds_split items before rest whole))
      (value_found (kind_items before) (kind_items rest) value name
      (subst (λ kinds. repeats (map (λ kind. kind.name) kinds) ≡ false) (kinds_split items before rest whole)
      (kinds_once items keeps)) has)

  -- an equation of a pattern
  equation_comes : (before rest : List Item) (equal : Equal) → items ≡ before ++ rest →
      field_items items ≡ field_items before →
      equal_unknown before equal ≡ false → equal_mismatch before equal ≡ false →
      Comes (equation_of (kind_items items) (field_items items) equal)
  equation_comes before rest equal whole fixed known meet =
      let parts =
      or_parts (is_none (rule.kind_of_field before equal.field))
      (is_none (kind_of_value before equal.value)) known in
      let of_field = not_none (rule.kind_of_field before equal.field) parts.0 in
      let of_value = not_none (kind_of_value before equal.value) parts.1 in
      let same : of_field.0 ≡ of_value.0 =
      differ_not of_field.0 of_value.0 (sym (λ i. differ (of_field.1 i) (of_value.1 i)) ∙ meet) in
      let has : HasValue (kind_items items) equal.value of_value.0 =
      value_found_at before rest equal.value of_value.0 whole of_value.1 in
      option_map_some (λ (field : FieldItem). field.kind)
      (find (λ field. same_name equal.field field.name) (field_items before)) of_field.0 of_field.1
      (λ field found is.
      let at = find_at (λ (field : FieldItem). same_name equal.field field.name) (field_items before) field found in
      let number : number_of (field_names (field_items items)) equal.field ≡ Some at.0 =
      ap (λ fields. number_of (field_names fields) equal.field) fixed
      ∙ position_map (same_name equal.field) (λ (field : FieldItem). field.name) 0 (field_items before) ∙ at.1 in
      let value : value_of_field (kind_items items) (field_items items) equal.value at.0 ≡ Some has.found =
      ap (λ fields. value_of_field (kind_items items) fields equal.value at.0) fixed
      ∙ ap (option_and_then (λ (field : FieldItem). value_in (kind_items items) field.kind equal.value)) at.2
      ∙ ap (λ kind. value_in (kind_items items) kind equal.value) (is ∙ same)
      ∙ ap (option_and_then (λ (kind : KindItem). number_of kind.values equal.value))
      (value_named (kind_items items) equal.value of_value.0 has)
      ∙ has.value_is in (
        (at.0, has.found),
        ap (option_and_then
            (λ (k : ℕ). option_map (λ (x : ℕ). (k, x))
            (value_of_field (kind_items items) (field_items items) equal.value k))) number
            ∙ ap (option_map (λ (x : ℕ). (at.0, x))) value,
      ))

  pub pattern_comes : (before rest : List Item) (host : List ℕ) (pattern : List Equal) → items ≡ before ++ rest →
      field_items items ≡ field_items before →
      pattern_unknown before host pattern ≡ false → list_any (equal_mismatch before) pattern ≡ false →
      Comes (pattern_of (kind_items items) (field_items items) pattern)
  pattern_comes before rest host pattern whole fixed known meet =
      let parts = or_parts (not (is_among (host_items before) host)) (list_any (equal_unknown before) pattern) known in
      comes_mapped (fold with_equation any_pattern)
      (all_some (equation_of (kind_items items) (field_items items)) pattern)
      (some_come (equation_of (kind_items items) (field_items items)) pattern
      (each_weaker (λ equal. (equal_unknown before equal ≡ false) × (equal_mismatch before equal ≡ false))
      (λ equal. Comes (equation_of (kind_items items) (field_items items) equal)) pattern
      (λ equal both. equation_comes before rest equal whole fixed both.0 both.1)
      (each_both (λ equal. equal_unknown before equal ≡ false) (λ equal. equal_mismatch before equal ≡ false) pattern
      (each_fails (equal_unknown before) pattern parts.1) (each_fails (equal_mismatch before) pattern meet))))

  abbrev PatternComes : PatternItem → Type 0
  PatternComes item = Comes (pattern_of (kind_items items) (field_items items) item.pattern)

  pub sends_come : AllByRecursion PatternComes (sends_items items)
  sends_come =
      each_sends items PatternComes
      (λ before item after whole.
      pattern_comes before (Sends item.host item.pattern ∷ after) item.host item.pattern whole
      (fields_fixed items before (Sends item.host item.pattern) after keeps whole refl)
      (keeps.each UnknownName before (Sends item.host item.pattern) after whole)
      (keeps.each KindMismatch before (Sends item.host item.pattern) after whole))

  pub forbid_come : AllByRecursion PatternComes (forbid_items items)
  forbid_come =
      each_forbid items PatternComes
      (λ before item after whole.
      pattern_comes before (Forbid item.host item.pattern ∷ after) item.host item.pattern whole
      (fields_fixed items before (Forbid item.host item.pattern) after keeps whole refl)
      (keeps.each UnknownName before (Forbid item.host item.pattern) after whole)
      (keeps.each KindMismatch before (Forbid item.host item.pattern) after whole))

  -- what holds of each holds of those that are kept
  each_filtered : (P : PatternItem → Type 0) (test : PatternItem → Bool) (list : List PatternItem) →
      AllByRecursion P list → AllByRecursion P (filter test list)
  each_filtered P test [] each = tt
  each_filtered P test (item ∷ list) each =
      elim (test item) as (λ b. AllByRecursion P (cond b (item ∷ filter test list) (filter test list))) [
        | true ↦ (each.0, each_filtered P test list each.1)
        | false ↦ each_filtered P test list each.1
      ]

  patterns_come : (list : List PatternItem) (host : List ℕ) → AllByRecursion PatternComes list →
      Comes (patterns_of (kind_items items) (field_items items) list host)
  patterns_come list host each =
      some_come (λ item. pattern_of (kind_items items) (field_items items) item.pattern)
      (filter (λ item. same_name item.host host) list)
      (each_filtered PatternComes (λ item. same_name item.host host) list each)

  pub host_comes : (name : List ℕ) → Comes (host_from items name)
  host_comes name =
      comes_joined (λ sends forbids. record { name = name; sends = sends; forbids = forbids })
      (patterns_of (kind_items items) (field_items items) (sends_items items) name)
      (patterns_of (kind_items items) (field_items items) (forbid_items items) name)
      (patterns_come (sends_items items) name sends_come) (patterns_come (forbid_items items) name forbid_come)

  pub hosts_come : Comes (all_some (host_from items) (host_items items))
  hosts_come =
      some_come (host_from items) (host_items items)
      (each_always (λ name. Comes (host_from items name)) (host_items items) host_comes)

-- the numbers of the arguments of a tuple, each of which has the type of its place
pub values_come : (all : List KindItem) (kind_of : List ℕ → Option (List ℕ)) →
    ((value name : List ℕ) → kind_of value ≡ Some name → HasValue all value name) →
    (kinds args : List (List ℕ)) → length args ≡ length kinds → list_any (λ arg. is_none (kind_of arg)) args ≡ false →
    list_any (λ pair. differ (Some pair.0) (kind_of pair.1)) (zip kinds args) ≡ false →
    Comes (values_of all kinds args)
values_come all kind_of has [] [] counted known meet = ([], refl)
values_come all kind_of has [] (arg ∷ args) counted known meet = absurd (omega (arith, counted))
values_come all kind_of has (kind ∷ kinds) [] counted known meet = absurd (omega (arith, counted))
values_come all kind_of has (kind ∷ kinds) (arg ∷ args) counted known meet =
    let parts = or_parts (is_none (kind_of arg)) (list_any (λ arg. is_none (kind_of arg)) args) known in
    let meets =
    or_parts (differ (Some kind) (kind_of arg))
    (list_any (λ pair. differ (Some pair.0) (kind_of pair.1)) (zip kinds args)) meet in
    let of_value = not_none (kind_of arg) parts.0 in
    let same : kind ≡ of_value.0 = differ_not kind of_value.0 (sym (ap (differ (Some kind)) of_value.1) ∙ meets.0) in
    let value : HasValue all arg of_value.0 = has arg of_value.0 of_value.1 in
    let here : option_and_then (λ (found : KindItem). number_of found.values arg) (kind_named all kind)
    ≡ Some value.found =
    ap (λ kind. option_and_then (λ (found : KindItem). number_of found.values arg) (kind_named all kind)) same
    ∙ ap (option_and_then (λ (found : KindItem). number_of found.values arg)) (value_named all arg of_value.0 value)
    ∙ value.value_is in
    comes_joined (λ x xs. x ∷ xs)
    (option_and_then (λ (found : KindItem). number_of found.values arg) (kind_named all kind))
    (values_of all kinds args)
    (value.found, here) (values_come all kind_of has kinds args (omega (arith, counted)) parts.1 meets.1)

-- a class that is found before is found among all
pub class_front : (items before rest : List Item) (name : List ℕ) (class : Class) → items ≡ before ++ rest →
    class_named before name ≡ Some class →
    (k : ℕ) × (class_number_from items name ≡ Some k) × (slice_get (class_items items) k ≡ Some class)
    × (class_named items name ≡ Some class)
class_front items before rest name class whole found =
    option_and_then_some (slice_get (class_items before)) (class_number_from before name) class found
    (λ k number at.
    let split = classes_split items before rest whole in
    let names : class_names items ≡ class_names before ++ map (λ class. class.name) (class_items rest) =
    ap (map (λ class. class.name)) split ∙ map-append (λ class. class.name) (class_items before) (class_items rest) in
    let number_more : class_number_from items name ≡ Some k =
    ap (λ names. number_of names name) names
    ∙ number_front (class_names before) (map (λ class. class.name) (class_items rest)) name k number in
    let at_more : slice_get (class_items items) k ≡ Some class =
    ap (λ classes. slice_get classes k) split ∙ get_in_front (class_items before) (class_items rest) k class at in
    (k, number_more, at_more, ap (option_and_then (slice_get (class_items items))) number_more ∙ at_more))

module _ (items : List Item) (keeps : KeepsRules items) (built : All IsBuiltItem items) where
  -- how many values the types of the arguments of a relation have
  sizes_come : (kinds : List (List ℕ)) → AllByRecursion (λ kind. Comes (kind_number (kind_items items) kind)) kinds →
      Comes (all_some (values_named (kind_items items)) kinds)
  sizes_come kinds known =
      some_come (values_named (kind_items items)) kinds
      (each_weaker (λ kind. Comes (kind_number (kind_items items) kind))
      (λ kind. Comes (values_named (kind_items items) kind)) kinds
      (λ kind came.
      let found = kind_comes (kind_items items) kind came.0 came.1 in
      comes_mapped (λ (kind : KindItem). length kind.values) (kind_named (kind_items items) kind)
      (found.0, found.3)) known)

  -- a tuple of a box
  entry_comes : (before rest : List Item) (class : Class) (atom : Atom) → items ≡ before ++ rest →
      AllByRecursion
      (λ relation. AllByRecursion
      (λ kind. Comes (kind_number (kind_items items) kind)) relation.kinds) class.relations →
      atom_unknown before class atom ≡ false → arity_differs class.relations atom ≡ false →
      args_mismatch (kind_of_value before) class.relations atom ≡ false →
      Comes (entry_from items class atom)
  entry_comes before rest class atom whole kinds known arity meet =
      let parts =
      or_parts (is_none (relation_named class.relations atom.relation))
      (list_any (λ arg. is_none (kind_of_value before arg)) atom.args) known in
      let found = not_none (relation_named class.relations atom.relation) parts.0 in
      let relation = found.0 in
      let at = find_at
      (λ (relation : Relation). same_name atom.relation relation.name) class.relations relation found.1 in
      let counted : length atom.args ≡ length relation.kinds =
      eqb-true (length atom.args) (length relation.kinds)
      (not-false (nat_eq (length atom.args) (length relation.kinds))
      (sym (ap (passes (λ (relation : Relation). not (nat_eq (length atom.args) (length relation.kinds)))) found.1)
      ∙ arity)) in
      let meets : list_any (λ pair. differ (Some pair.0) (kind_of_value before pair.1)) (zip relation.kinds atom.args)
      ≡ false =
      sym (ap (passes
      (λ (relation : Relation). list_any (λ pair. differ (Some pair.0) (kind_of_value before pair.1))
      (zip relation.kinds atom.args))) found.1) ∙ meet in
      let values =
      values_come (kind_items items) (kind_of_value before)
      (λ value name has. value_found_at items keeps before rest value name whole has)
      relation.kinds atom.args counted parts.1 meets in
      let sizes = sizes_come relation.kinds
      (each_at (λ relation. AllByRecursion
      (λ kind. Comes
      (kind_number (kind_items items) kind)) relation.kinds) class.relations at.0 relation kinds at.2) in
      let tuple =
      comes_joined tuple_number (all_some (values_named (kind_items items)) relation.kinds)
      (values_of (kind_items items) relation.kinds atom.args) sizes values in
      let number : number_of (map (λ relation. relation.name) class.relations) atom.relation ≡ Some at.0 =
      position_map (same_name atom.relation) (λ (relation : Relation). relation.name) 0 class.relations ∙ at.1 in
      let entry =
      comes_mapped (λ (tuple : ℕ). record { relation = at.0; tuple = tuple })
      (tuple_of_values (kind_items items) relation.kinds atom.args) tuple in (
        entry.0,
        ap (option_and_then
            (λ (number : ℕ). option_and_then
            (λ (relation : Relation). option_map (λ (tuple : ℕ). record { relation = number; tuple = tuple })
            (tuple_of_values (kind_items items) relation.kinds atom.args))
            (slice_get class.relations number))) number
            ∙ ap (option_and_then
            (λ (relation : Relation). option_map (λ (tuple : ℕ). record { relation = at.0; tuple = tuple })
            (tuple_of_values (kind_items items) relation.kinds atom.args))) at.2
            ∙ entry.1,
      )

  -- the types of the arguments of each relation of each class
  class_kinds_come : AllByRecursion
      (λ class. AllByRecursion
      (λ relation. AllByRecursion
      (λ kind. Comes (kind_number (kind_items items) kind)) relation.kinds) class.relations)
      (class_items items)
  class_kinds_come =
      each_class items
      (λ class. AllByRecursion
      (λ relation. AllByRecursion
      (λ kind. Comes (kind_number (kind_items items) kind)) relation.kinds) class.relations)
      (argument_kinds_come items keeps built)

  pub box_comes : (before : List Item) (box : BoxItem) (after : List Item) →
      items ≡ before ++ Instance box.name box.class box.first ∷ after → Comes (box_from items box)
  box_comes before box after whole =
      let item = Instance box.name box.class box.first in
      let known =
      or_parts (is_none (class_named before box.class))
      (passes (λ found. list_any (atom_unknown before found) box.first) (class_named before box.class))
      (keeps.each UnknownName before item after whole) in
      let of_class = not_none (class_named before box.class) known.0 in
      let class = of_class.0 in
      let at = class_front items before (item ∷ after) box.class class whole of_class.1 in
      let unknown : list_any (atom_unknown before class) box.first ≡ false =
      sym (ap (passes (λ found. list_any (atom_unknown before found) box.first)) of_class.1) ∙ known.1 in
      let arity : list_any (arity_differs class.relations) box.first ≡ false =
      sym (ap (passes (λ (found : Class). list_any (arity_differs found.relations) box.first)) of_class.1)
      ∙ keeps.each Arity before item after whole in
      let meet : list_any (args_mismatch (kind_of_value before) class.relations) box.first ≡ false =
      sym (ap (passes
      (λ (found : Class). list_any (args_mismatch (kind_of_value before) found.relations) box.first)) of_class.1)
      ∙ keeps.each KindMismatch before item after whole in
      let kinds =
      each_at
      (λ class. AllByRecursion
      (λ relation. AllByRecursion
      (λ kind. Comes (kind_number (kind_items items) kind)) relation.kinds) class.relations)
      (class_items items) at.0 class class_kinds_come at.2 in
      let entries = some_come (entry_from items class) box.first
      (each_weaker
      (λ atom. (atom_unknown before class atom ≡ false) × (arity_differs class.relations atom ≡ false)
      × (args_mismatch (kind_of_value before) class.relations atom ≡ false))
      (λ atom. Comes (entry_from items class atom)) box.first
      (λ atom all. entry_comes before (item ∷ after) class atom whole kinds all.0 all.1 all.2)
      (each_three (λ atom. atom_unknown before class atom ≡ false) (λ atom. arity_differs class.relations atom ≡ false)
      (λ atom. args_mismatch (kind_of_value before) class.relations atom ≡ false) box.first
      (each_fails (atom_unknown before class) box.first unknown)
      (each_fails (arity_differs class.relations) box.first arity)
      (each_fails (args_mismatch (kind_of_value before) class.relations) box.first meet))) in
      let first = comes_mapped (fold with_entry []) (all_some (entry_from items class) box.first) entries in
      comes_joined (λ class first. record { name = box.name; class = class; first = first })
      (class_number_from items box.class) (first_from items box)
      (at.0, at.1) (
        first.0,
        ap (option_and_then
            (λ class. option_map (fold with_entry []) (all_some (entry_from items class) box.first))) at.3 ∙ first.1,
      )

  pub boxes_come : Comes (all_some (box_from items) (box_items items))
  boxes_come =
      some_come (box_from items) (box_items items) (each_box items (λ box. Comes (box_from items box)) box_comes)
