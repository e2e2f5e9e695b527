-- The boxes of the network of items that keep the rules.
use Rattle.std.proofs.Common.{
  ◌≡◌,
  ℕ,
  suc,
  ◌+◌,
  ◌*◌,
  ◌<◌,
  ◌≤◌,
  nat_lt,
  List,
  [],
  ◌∷◌,
  length,
  map,
  fold,
  Some,
  option_map,
  option_and_then,
  slice_get,
  sym,
  ap,
  subst,
  ◌∙◌,
  arith,
  mul-le-mul_right,
  suc-mul,
}
use Rattle.std.specs.declared.cmp.Ordering.TheVariants.{Less, Equal, Greater}
use Rattle.std.specs.Ordering.{match_ordering}
use Rattle.std.specs.Bool.{⊤}
use Rattle.std.specs.List.{All, AllByRecursion, AllZip}
use Rattle.std.specs.List.Sorted.{IsStrictlySortedBy}
use Rattle.std.proofs.lemmas.Bool.{or_parts}
use Rattle.std.proofs.lemmas.List.Elements.{All-from_recursion}
use Rattle.std.proofs.lemmas.Option.{none-some, same_Some, option_and_then_some, slice_get_within}
use Rattle.amdl_tree.specs.declared.guard.Atom.{Atom}
use Rattle.amdl_tree.specs.declared.class.Class.{Class}
use Rattle.amdl_tree.specs.declared.class.Relation.{Relation}
use Rattle.amdl_tree.specs.declared.tree.Item.{Item}
use Rattle.amdl_tree.specs.declared.tree.Item.TheVariants.{Instance}
use Rattle.amdl_tree.specs.Items.{KindItem, BoxItem, kind_items, box_items}
use Rattle.amdl_tree.specs.Word.{IsName}
use Rattle.amdl_tree.specs.WellBuilt.{IsBuiltItem}
use Rattle.box_contents.specs.declared.entry.Entry.{Entry}
use Rattle.box_contents.specs.Contents.{entry_cmp, with_entry}
use Rattle.box_contents.specs.Contents as contents
use Rattle.box_contents.specs.Laws.{WithKeepsRising}
use Rattle.box_handlers.specs.Tuple.{tuples_over, tuple_number}
use Rattle.net_plan.specs.declared.plan.Plan.{Plan}
use Rattle.net_plan.specs.declared.plan.BoxPlan.{BoxPlan}
use Rattle.net_plan.specs.declared.plan.ClassPlan.{ClassPlan}
use Rattle.net_plan.specs.Plan as plan
use Rattle.net_plan.specs.Sound.{IsEntry, IsBox, IsSmallBox}
use Rattle.tree_plan.specs.Names.{number_of, all_some, kind_named, values_named}
use Rattle.tree_plan.specs.Net.{relation_of, class_of, values_of, tuple_of_values}
use Rattle.tree_rules.specs.declared.rule.Rule.TheVariants.{TooMany}
use Rattle.tree_soundness.proofs.Parts.{entry_from, box_from}
use Rattle.tree_soundness.proofs.Prefixes.{KeepsRules}
use Rattle.tree_soundness.proofs.Names.{number_is}
use Rattle.tree_soundness.proofs.Lists.{
  joined_some,
  option_map_some,
  come_from,
  zip_each,
  zip_get,
  zip_length,
  each_always,
}
use Rattle.tree_soundness.proofs.Forms.{each_box, built_at}
use Rattle.tree_soundness.proofs.Counts.{within}
use Rattle.tree_soundness.proofs.Spelled.{HasParts, class_parts, box_parts, box_class}
use Rattle.tree_soundness.proofs.Classes.{arguments_are}

-- contents with an entry more
insert_each : (P : Entry → Type 0) (entries : List Entry) (entry : Entry) → AllByRecursion P entries → P entry →
    AllByRecursion P (with_entry entries entry)
insert_each P [] entry each here = (here, tt)
insert_each P (one ∷ entries) entry each here =
    elim (entry_cmp entry one) as
    (λ r. AllByRecursion P
    (match_ordering r (entry ∷ one ∷ entries) (one ∷ entries) (one ∷ with_entry entries entry))) [
      | Less ↦ (here, each)
      | Equal ↦ each
      | Greater ↦ (each.0, insert_each P entries entry each.1 here)
    ]

insert_length : (entries : List Entry) (entry : Entry) → length (with_entry entries entry) ≤ length entries + 1
insert_length [] entry = omega arith
insert_length (one ∷ entries) entry =
    elim (entry_cmp entry one) as
    (λ r. length
    (match_ordering r (entry ∷ one ∷ entries) (one ∷ entries) (one ∷ with_entry entries entry)) ≤ length
    (one ∷ entries) + 1) [
      | Less ↦ omega arith
      | Equal ↦ omega arith
      | Greater ↦ omega (arith, insert_length entries entry)
    ]

-- the first contents
first_each : (P : Entry → Type 0) (entries now : List Entry) → AllByRecursion P now → AllByRecursion P entries →
    AllByRecursion P (fold with_entry now entries)
first_each P [] now held each = held
first_each P (entry ∷ entries) now held each =
    first_each P entries (with_entry now entry) (insert_each P now entry held each.0) each.1

first_length : (entries now : List Entry) → length (fold with_entry now entries) ≤ length now + length entries
first_length [] now = omega arith
first_length (entry ∷ entries) now =
    omega (arith, first_length entries (with_entry now entry), insert_length now entry)

first_rises : WithKeepsRising → (entries now : List Entry) → contents.IsRising now →
    contents.IsRising (fold with_entry now entries)
first_rises rises [] now held = held
first_rises rises (entry ∷ entries) now held = first_rises rises entries (with_entry now entry) (rises now entry held)

rises_none : contents.IsRising []
unfolding IsStrictlySortedBy
rises_none = tt

-- the number of a tuple whose values are in range
tuple_below : (values sizes : List ℕ) → AllZip (λ value size. value < size) values sizes →
    tuple_number sizes values < tuples_over sizes
tuple_below [] [] zip = omega arith
tuple_below [] (size ∷ sizes) zip = absurd zip
tuple_below (value ∷ values) [] zip = absurd zip
tuple_below (value ∷ values) (size ∷ sizes) zip =
    let rest = tuple_below values sizes zip.1 in
    let over = tuples_over sizes in
    let more : suc value * over ≤ size * over = mul-le-mul_right over zip.0 in
    let e : suc value * over ≡ value * over + over = suc-mul value over in
    omega (arith, rest, more, e)

module _ (kinds : List KindItem) where
  values_below : (names args : List (List ℕ)) (values sizes : List ℕ) → values_of kinds names args ≡ Some values →
      all_some (values_named kinds) names ≡ Some sizes →
      AllZip (λ value size. value < size) values sizes
  values_below [] [] values sizes came counted =
      subst (λ sizes. AllZip (λ value size. value < size) values sizes) (same_Some [] sizes counted)
      (subst (λ values. AllZip (λ value size. value < size) values []) (same_Some [] values came) tt)
  values_below [] (arg ∷ args) values sizes came counted = absurd (none-some values came)
  values_below (name ∷ names) [] values sizes came counted = absurd (none-some values came)
  values_below (name ∷ names) (arg ∷ args) values sizes came counted =
      joined_some (λ x xs. x ∷ xs)
      (option_and_then (λ (kind : KindItem). number_of kind.values arg) (kind_named kinds name))
      (values_of kinds names args) values came
      (λ x xs here later both.
      joined_some (λ y ys. y ∷ ys) (values_named kinds name) (all_some (values_named kinds) names) sizes counted
      (λ size others sized more both_sizes.
      option_and_then_some (λ (kind : KindItem). number_of kind.values arg) (kind_named kinds name) x here
      (λ kind named number.
      let inside : x < length kind.values = slice_get_within kind.values x arg (number_is kind.values arg x number) in
      let e : length kind.values ≡ size =
      same_Some (length kind.values) size
      (sym (ap (option_map (λ (kind : KindItem). length kind.values)) named) ∙ sized) in
      let below : x < size = omega (arith, inside, e) in
      subst (λ sizes. AllZip (λ value size. value < size) values sizes) both_sizes
      (subst (λ values. AllZip (λ value size. value < size) values (size ∷ others)) both
      (below, values_below names args xs others later more)))))

module _ (items : List Item) (keeps : KeepsRules items) (built : All IsBuiltItem items) (spelled : Plan)
    (parts : HasParts items spelled) where
  -- an entry is a tuple of a relation of its class
  entry_is : (class : Class) (found : ClassPlan) (atom : Atom) (entry : Entry) → class_of items class ≡ Some found →
      entry_from items class atom ≡ Some entry → IsEntry spelled found entry
  entry_is class found atom entry of_class came =
      let of = class_parts items class found of_class in
      option_and_then_some
      (λ number. option_and_then
      (λ (relation : Relation). option_map (λ tuple. record { relation = number; tuple = tuple })
      (tuple_of_values (kind_items items) relation.kinds atom.args))
      (slice_get class.relations number))
      (number_of (map (λ relation. relation.name) class.relations) atom.relation) entry came
      (λ number numbered rest.
      option_and_then_some
      (λ (relation : Relation). option_map (λ tuple. record { relation = number; tuple = tuple })
      (tuple_of_values (kind_items items) relation.kinds atom.args))
      (slice_get class.relations number) entry rest
      (λ relation at mapped.
      option_map_some (λ tuple. record { relation = number; tuple = tuple })
      (tuple_of_values (kind_items items) relation.kinds atom.args) entry mapped
      (λ tuple tupled is.
      joined_some tuple_number (all_some (values_named (kind_items items)) relation.kinds)
      (values_of (kind_items items) relation.kinds atom.args) tuple tupled
      (λ sizes values sized valued tuple_is.
      let planned =
      zip_get
      (λ relation found. relation_of (kind_items items) relation
      ≡ Some found) class.relations found.relations number relation
      (come_from (relation_of (kind_items items)) class.relations found.relations of.relations) at in
      let same : sizes ≡ plan.arguments_of spelled planned.0 =
      same_Some sizes (plan.arguments_of spelled planned.0)
      (sym sized ∙ arguments_are items keeps built spelled parts relation planned.0 planned.2) in
      let below : tuple < plan.tuples_of spelled planned.0 =
      subst (λ n. n < plan.tuples_of spelled planned.0) tuple_is
      (subst (λ over. tuple_number sizes values < tuples_over over) same
      (tuple_below values sizes
      (values_below (kind_items items) relation.kinds atom.args values sizes valued sized))) in
      subst (IsEntry spelled found) is (record {
        relation = slice_get_within found.relations number planned.0 planned.1;
        tuple = λ one stands. subst (λ one. tuple < plan.tuples_of spelled one)
            (same_Some planned.0 one (sym planned.1 ∙ stands)) below;
      })))))

  boxes_zip : AllZip (λ box found. box_from items box ≡ Some found) (box_items items) spelled.boxes
  boxes_zip = come_from (box_from items) (box_items items) spelled.boxes parts.boxes

  box_is : WithKeepsRising → (box : BoxItem) (found : BoxPlan) → IsName box.name → box_from items box ≡ Some found →
      IsBox spelled found
  box_is rises box found named came =
      let of = box_parts items box found came in
      let at = box_class items spelled parts box found of in
      let entries =
      zip_each (λ atom entry. entry_from items of.of_class atom ≡ Some entry) (λ atom. ⊤)
      (IsEntry spelled at.found) box.first of.entries
      (λ atom entry any here. entry_is of.of_class at.found atom entry at.comes here)
      (come_from (entry_from items of.of_class) box.first of.entries of.entries_are)
      (each_always (λ atom. ⊤) box.first (λ atom. tt)) in
      record {
        named = subst IsName (sym of.name) named;
        class = slice_get_within spelled.classes found.class at.found at.stands;
        entries =
            subst (λ first. All (IsEntry spelled (plan.class_of spelled found)) first) (sym of.first_is)
            (subst (λ class. All (IsEntry spelled class) (fold with_entry [] of.entries)) (sym at.is)
            (All-from_recursion (IsEntry spelled at.found) (fold with_entry [] of.entries)
            (first_each (IsEntry spelled at.found) of.entries [] tt entries)));
        rising = subst contents.IsRising (sym of.first_is) (first_rises rises of.entries [] rises_none);
      }

  pub boxes_are : WithKeepsRising → All (IsBox spelled) spelled.boxes
  boxes_are rises =
      All-from_recursion (IsBox spelled) spelled.boxes
      (zip_each (λ box found. box_from items box ≡ Some found) (λ (box : BoxItem). IsName box.name) (IsBox spelled)
      (box_items items) spelled.boxes (box_is rises) boxes_zip
      (each_box items (λ box. IsName box.name)
      (λ before box after whole.
      (built_at IsBuiltItem items before (Instance box.name box.class box.first) after built whole).0)))

  pub boxes_small : All IsSmallBox spelled.boxes
  boxes_small =
      All-from_recursion IsSmallBox spelled.boxes
      (zip_each (λ box found. box_from items box ≡ Some found) (λ (box : BoxItem). length box.first ≤ 1024) IsSmallBox
      (box_items items) spelled.boxes
      (λ box found few came.
      let of = box_parts items box found came in
      let counted : length of.entries ≡ length box.first =
      zip_length (λ atom entry. entry_from items of.of_class atom ≡ Some entry) box.first of.entries
      (come_from (entry_from items of.of_class) box.first of.entries of.entries_are) in
      let e : length found.first ≡ length (fold with_entry [] of.entries) = ap length of.first_is in
      omega (arith, counted, e, few, first_length of.entries [])) boxes_zip
      (each_box items (λ box. length box.first ≤ 1024)
      (λ before box after whole.
      within 1024 (length box.first)
      (or_parts (nat_lt 256 (length (box_items before) + 1)) (nat_lt 1024 (length box.first))
      (keeps.each TooMany before (Instance box.name box.class box.first) after whole)).1)))
