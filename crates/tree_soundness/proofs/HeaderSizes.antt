-- The headers of the network of items that keep the rules.
use Rattle.std.proofs.Common.{
  ◌≡◌,
  ◌≢◌,
  ℕ,
  ◌+◌,
  ◌<◌,
  ◌≤◌,
  Bool,
  false,
  nat_lt,
  List,
  [],
  ◌∷◌,
  ◌++◌,
  length,
  get_or,
  map,
  Option,
  Some,
  option_map,
  slice_get,
  refl,
  sym,
  ap,
  subst,
  ◌∙◌,
  append-nil,
  arith,
}
use Rattle.std.specs.List.{All, AllByRecursion, AllZip}
use Rattle.std.proofs.lemmas.Bool.{or_parts}
use Rattle.std.proofs.lemmas.List.{length-map}
use Rattle.std.proofs.lemmas.List.Elements.{All-from_recursion, All-get_or, All-map}
use Rattle.std.proofs.lemmas.Option.{same_Some, slice_get_within, get_or_from_slice_get}
use Rattle.header_set.specs.Headers.{product, IsSize}
use Rattle.amdl_tree.specs.declared.tree.Item.{Item}
use Rattle.amdl_tree.specs.declared.tree.Item.TheVariants.{Kind, Field}
use Rattle.amdl_tree.specs.Items.{KindItem, FieldItem, kind_items, field_items}
use Rattle.amdl_tree.specs.Word.{IsName}
use Rattle.amdl_tree.specs.WellBuilt.{IsBuiltItem}
use Rattle.net_plan.specs.declared.plan.Plan.{Plan}
use Rattle.net_plan.specs.declared.plan.KindPlan.{KindPlan}
use Rattle.net_plan.specs.declared.plan.FieldPlan.{FieldPlan}
use Rattle.net_plan.specs.Plan as plan
use Rattle.net_plan.specs.Sound.{IsKind, IsField, HasHeaders}
use Rattle.tree_plan.specs.Names.{all_some, kind_number, values_named}
use Rattle.tree_plan.specs.Net.{kind_of, field_of}
use Rattle.tree_rules.specs.declared.rule.Rule.TheVariants.{TooMany, HeaderTooLarge}
use Rattle.tree_rules.specs.Rules.{passes, header_too_large, sizes_of}
use Rattle.tree_soundness.proofs.Prefixes.{KeepsRules, keeps_front, grows}
use Rattle.tree_soundness.proofs.Declared.{kinds_more, fields_more}
use Rattle.tree_soundness.proofs.Lists.{
  some_come,
  come_from,
  all_come,
  zip_each,
  zip_weaker,
  zip_length,
  each_weaker,
  map_get,
}
use Rattle.tree_soundness.proofs.Numbering.{values_named_front}
use Rattle.tree_soundness.proofs.Forms.{each_kind, each_field, built_at}
use Rattle.tree_soundness.proofs.Existence.{Comes, kind_comes, field_kinds_come}
use Rattle.tree_soundness.proofs.Counts.{within, fields_few}
use Rattle.tree_soundness.proofs.Spelled.{HasParts, field_parts}

-- what fails of something that is there
pub passes_not : {A : Type 0} (test : A → Bool) (o : Option A) (x : A) → passes test o ≡ false → o ≡ Some x →
    test x ≡ false
passes_not test o x kept is = sym (ap (passes test) is) ∙ kept

pub some_member : {A : Type 0} (list : List A) → list ≢ [] → 1 ≤ length list
some_member [] some = absurd (some refl)
some_member (x ∷ list) some = omega arith

pub zip_mapped : {A B C : Type 0} (R : A → B → Type 0) (f : A → Option C) (h : B → C) (xs : List A) (ys : List B) →
    ((x : A) (y : B) → R x y → f x ≡ Some (h y)) → AllZip R xs ys → AllZip (λ x z. f x ≡ Some z) xs (map h ys)
zip_mapped R f h [] [] step zip = tt
zip_mapped R f h [] (y ∷ ys) step zip = absurd zip
zip_mapped R f h (x ∷ xs) [] step zip = absurd zip
zip_mapped R f h (x ∷ xs) (y ∷ ys) step zip = (step x y zip.0, zip_mapped R f h xs ys step zip.1)

-- the sizes of the fields
pub sizes_come : (items : List Item) → KeepsRules items → Comes (sizes_of items)
sizes_come items keeps =
    some_come (λ field. values_named (kind_items items) field.kind) (field_items items)
    (each_weaker (λ (field : FieldItem). Comes (kind_number (kind_items items) field.kind))
    (λ field. Comes (values_named (kind_items items) field.kind)) (field_items items)
    (λ field came.
    let found = kind_comes (kind_items items) field.kind came.0 came.1 in
    (length found.0.values, ap (option_map (λ (kind : KindItem). length kind.values)) found.3))
    (field_kinds_come items keeps))

pub sizes_front : (before : List Item) (item : Item) (sizes : List ℕ) → field_items (item ∷ []) ≡ [] →
    sizes_of before ≡ Some sizes → sizes_of (before ++ item ∷ []) ≡ Some sizes
sizes_front before item sizes none came =
    let same : field_items (before ++ item ∷ []) ≡ field_items before =
    fields_more before item ∙ ap (λ more. field_items before ++ more) none ∙ append-nil (field_items before) in
    (λ i. all_some (λ field. values_named (kinds_more before item i) field.kind) (same i))
    ∙ all_come (λ field. values_named (kind_items before ++ kind_items (item ∷ [])) field.kind)
    (field_items before) sizes
    (zip_weaker (λ (field : FieldItem) size. values_named (kind_items before) field.kind ≡ Some size)
    (λ field size. values_named (kind_items before ++ kind_items (item ∷ [])) field.kind ≡ Some size)
    (field_items before) sizes
    (λ field size named. values_named_front (kind_items before) (kind_items (item ∷ [])) field.kind size named)
    (come_from (λ field. values_named (kind_items before) field.kind) (field_items before) sizes came))

-- there are few packets
abbrev HasFewPackets : List Item → Type 0
HasFewPackets items = (sizes : List ℕ) → sizes_of items ≡ Some sizes → product sizes ≤ 65536

same_sizes : (before : List Item) (item : Item) → KeepsRules before → field_items (item ∷ []) ≡ [] →
    HasFewPackets before → HasFewPackets (before ++ item ∷ [])
same_sizes before item keeps none few sizes came =
    let here = sizes_come before keeps in
    let same : here.0 ≡ sizes = same_Some here.0 sizes (sym (sizes_front before item here.0 none here.1) ∙ came) in
    subst (λ sizes. product sizes ≤ 65536) same (few here.0 here.1)

packets_step : (before : List Item) (item : Item) → KeepsRules before → header_too_large before item ≡ false →
    HasFewPackets before → HasFewPackets (before ++ item ∷ [])
packets_step before (Field name kind) keeps kept few =
    λ sizes came. within 65536 (product sizes)
    (passes_not (λ sizes. nat_lt 65536 (product sizes)) (sizes_of (before ++ Field name kind ∷ [])) sizes kept came)
packets_step before _ keeps kept few = same_sizes before _ keeps refl few

pub packets_few : (items : List Item) → KeepsRules items → HasFewPackets items
packets_few items keeps =
    grows HasFewPackets items
    (λ sizes came. let none : []
    ≡ sizes = same_Some [] sizes came in subst (λ sizes. product sizes ≤ 65536) none (omega arith))
    (λ before item after stands few. packets_step before item (keeps_front items before (item ∷ after) stands keeps)
    (keeps.each HeaderTooLarge before item after stands) few)

module _ (items : List Item) (keeps : KeepsRules items) (built : All IsBuiltItem items) (spelled : Plan)
    (parts : HasParts items spelled) where
  -- a type of the plan by its number
  pub kind_in_plan : (name : List ℕ) (k : ℕ) → kind_number (kind_items items) name ≡ Some k →
      (k < length spelled.kinds) × (values_named (kind_items items) name ≡ Some (plan.values_of spelled k))
  kind_in_plan name k number =
      let found = kind_comes (kind_items items) name k number in
      let at : slice_get spelled.kinds k ≡ Some (kind_of found.0) =
      ap (λ kinds. slice_get kinds k) parts.kinds ∙ map_get kind_of (kind_items items) k found.0 found.1 in
      let is : plan.kind_at spelled k ≡ kind_of found.0 =
      get_or_from_slice_get spelled.kinds k (kind_of found.0) (record { name = []; values = [] }) at in (
        slice_get_within spelled.kinds k (kind_of found.0) at,
        ap (option_map (λ (kind : KindItem). length kind.values)) found.3
            ∙ ap (λ (kind : KindPlan). Some (length kind.values)) (sym is),
      )

  pub sizes_are : sizes_of items ≡ Some (plan.sizes_of spelled)
  sizes_are =
      all_come (λ field. values_named (kind_items items) field.kind) (field_items items) (plan.sizes_of spelled)
      (zip_mapped (λ field found. field_of (kind_items items) field ≡ Some found)
      (λ field. values_named (kind_items items) field.kind) (plan.size_of spelled)
      (field_items items) spelled.fields
      (λ field found came. (kind_in_plan field.kind found.kind (field_parts items field found came).kind).1)
      (come_from (field_of (kind_items items)) (field_items items) spelled.fields parts.fields))

  kinds_are : All IsKind spelled.kinds
  kinds_are =
      subst (All IsKind) (sym parts.kinds)
      (All-map IsKind kind_of (kind_items items)
      (All-from_recursion (λ kind. IsKind (kind_of kind)) (kind_items items)
      (each_kind items (λ kind. IsKind (kind_of kind))
      (λ before kind after whole.
      let built_kind = built_at IsBuiltItem items before (Kind kind.name kind.values) after built whole in
      record {
        named = built_kind.0;
        values = built_kind.2;
        some = some_member kind.values built_kind.1;
        few = within 256 (length kind.values)
            (or_parts (nat_lt 32 (length (kind_items before) + 1)) (nat_lt 256 (length kind.values))
            (keeps.each TooMany before (Kind kind.name kind.values) after whole)).1;
      }))))

  names_of_fields_are : AllByRecursion (λ field. IsName field.name) (field_items items)
  names_of_fields_are =
      each_field items (λ field. IsName field.name)
      (λ before field after whole.
      (built_at IsBuiltItem items before (Field field.name field.kind) after built whole).0)

  fields_are : All (IsField spelled) spelled.fields
  fields_are =
      All-from_recursion (IsField spelled) spelled.fields
      (zip_each (λ field found. field_of (kind_items items) field ≡ Some found)
      (λ (field : FieldItem). IsName field.name) (IsField spelled) (field_items items) spelled.fields
      (λ field found name came.
      let of = field_parts items field found came in
      record { named = subst IsName (sym of.name) name; kind = (kind_in_plan field.kind found.kind of.kind).0 })
      (come_from (field_of (kind_items items)) (field_items items) spelled.fields parts.fields) names_of_fields_are)

  pub fields_counted : length spelled.fields ≡ length (field_items items)
  fields_counted =
      zip_length (λ field found. field_of (kind_items items) field ≡ Some found) (field_items items) spelled.fields
      (come_from (field_of (kind_items items)) (field_items items) spelled.fields parts.fields)

  pub has_headers : field_items items ≢ [] → HasHeaders spelled
  has_headers some = record {
    kinds = kinds_are;
    fields = fields_are;
    headers = record {
      counted =
          let n = length-map spelled.fields (plan.size_of spelled) in (
            omega (arith, n, fields_counted, some_member (field_items items) some),
            omega (arith, n, fields_counted, fields_few items keeps),
          );
      fit = λ k below.
          All-get_or IsSize (plan.sizes_of spelled) k 0 below
          (All-map IsSize (plan.size_of spelled) spelled.fields
          (λ j d inside.
          let field : FieldPlan = get_or spelled.fields j d in
          let kind : IsKind (plan.kind_at spelled field.kind) =
          All-get_or IsKind spelled.kinds field.kind (record { name = []; values = [] })
          (fields_are j d inside).kind kinds_are in
          (kind.some, kind.few)));
      few_packets = packets_few items keeps (plan.sizes_of spelled) sizes_are;
    };
  }
