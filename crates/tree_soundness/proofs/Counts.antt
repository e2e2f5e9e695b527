-- How many items of each form there are.
use Rattle.std.proofs.Common.{
  ◌≡◌,
  ℕ,
  ◌+◌,
  ◌≤◌,
  false,
  ◌||◌,
  nat_lt,
  List,
  [],
  ◌∷◌,
  ◌++◌,
  length,
  sym,
  subst,
  append-nil,
  arith,
  ltb-false,
}
use Rattle.std.specs.List.{list_any}
use Rattle.std.proofs.lemmas.Bool.{or_parts}
use Rattle.std.proofs.lemmas.List.{length_push}
use Rattle.std.proofs.lemmas.List.Elements.{filter_map-append}
use Rattle.amdl_tree.specs.declared.class.Class.{Class}
use Rattle.amdl_tree.specs.declared.tree.Item.{Item}
use Rattle.amdl_tree.specs.declared.tree.Item.TheVariants.{
  Kind,
  Field,
  Class as OfClass,
  Host,
  Instance,
  Sends,
  Forbid,
}
use Rattle.amdl_tree.specs.Items.{
  sends_item,
  forbid_item,
  kind_items,
  field_items,
  class_items,
  host_items,
  box_items,
  sends_items,
  forbid_items,
}
use Rattle.box_handlers.specs.Size.{statements_of_all, literals_of_all}
use Rattle.tree_rules.specs.declared.rule.Rule.TheVariants.{TooMany}
use Rattle.tree_rules.specs.Rules.{passes, bodies_of, class_too_many, too_many}
use Rattle.tree_soundness.proofs.Prefixes.{KeepsRules, grows}
use Rattle.tree_soundness.proofs.Declared.{kinds_more, fields_more, classes_more, hosts_more, boxes_more}

-- a count that isn't over its limit
pub within : (limit n : ℕ) → nat_lt limit n ≡ false → n ≤ limit
within limit n kept = ltb-false limit n kept

one_more : {A : Type 0} (limit : ℕ) (list : List A) (x : A) → nat_lt limit (length list + 1) ≡ false →
    length (list ++ x ∷ []) ≤ limit
one_more limit list x kept = omega (arith, length_push list x, within limit (length list + 1) kept)

none_more : {A : Type 0} (limit : ℕ) (list : List A) → length list ≤ limit → length (list ++ []) ≤ limit
none_more limit list few = subst (λ list. length list ≤ limit) (sym (append-nil list)) few

-- what isn't over its limit in a class
pub record IsSmall (before : List Item) (class : Class) : Type 0 where
  pub classes : nat_lt 64 (length (class_items before) + 1) ≡ false
  pub ports : nat_lt 32 (length class.ports) ≡ false
  pub relations : nat_lt 16 (length class.relations) ≡ false
  pub args : list_any (λ relation. nat_lt 4 (length relation.kinds)) class.relations ≡ false
  pub sizes : passes (λ bodies. nat_lt 1024 (statements_of_all bodies) || nat_lt 4096 (literals_of_all bodies))
      (bodies_of before class) ≡ false

pub is_small : (before : List Item) (class : Class) → class_too_many before class ≡ false → IsSmall before class
is_small before class kept =
    let classes = nat_lt 64 (length (class_items before) + 1) in
    let ports = nat_lt 32 (length class.ports) in
    let relations = nat_lt 16 (length class.relations) in
    let args = list_any (λ relation. nat_lt 4 (length relation.kinds)) class.relations in
    let sizes =
    passes (λ bodies. nat_lt 1024 (statements_of_all bodies) || nat_lt 4096 (literals_of_all bodies))
    (bodies_of before class) in
    let one = or_parts (((classes || ports) || relations) || args) sizes kept in
    let two = or_parts ((classes || ports) || relations) args one.0 in
    let three = or_parts (classes || ports) relations two.0 in
    let four = or_parts classes ports three.0 in
    record { classes = four.0; ports = four.1; relations = three.1; args = two.1; sizes = one.1 }

kinds_step : (before : List Item) (item : Item) → too_many before item ≡ false → length (kind_items before) ≤ 32 →
    length (kind_items before ++ kind_items (item ∷ [])) ≤ 32
kinds_step before (Kind name values) kept few =
    one_more 32 (kind_items before) (record { name = name; values = values })
    (or_parts (nat_lt 32 (length (kind_items before) + 1)) (nat_lt 256 (length values)) kept).0
kinds_step before _ kept few = none_more 32 (kind_items before) few

fields_step : (before : List Item) (item : Item) → too_many before item ≡ false → length (field_items before) ≤ 8 →
    length (field_items before ++ field_items (item ∷ [])) ≤ 8
fields_step before (Field name kind) kept few =
    one_more 8 (field_items before) (record { name = name; kind = kind }) kept
fields_step before _ kept few = none_more 8 (field_items before) few

classes_step : (before : List Item) (item : Item) → too_many before item ≡ false → length (class_items before) ≤ 64 →
    length (class_items before ++ class_items (item ∷ [])) ≤ 64
classes_step before (OfClass class) kept few =
    one_more 64 (class_items before) class (is_small before class kept).classes
classes_step before _ kept few = none_more 64 (class_items before) few

hosts_step : (before : List Item) (item : Item) → too_many before item ≡ false → length (host_items before) ≤ 256 →
    length (host_items before ++ host_items (item ∷ [])) ≤ 256
hosts_step before (Host name) kept few = one_more 256 (host_items before) name kept
hosts_step before _ kept few = none_more 256 (host_items before) few

boxes_step : (before : List Item) (item : Item) → too_many before item ≡ false → length (box_items before) ≤ 256 →
    length (box_items before ++ box_items (item ∷ [])) ≤ 256
boxes_step before (Instance name class first) kept few =
    one_more 256 (box_items before) (record { name = name; class = class; first = first })
    (or_parts (nat_lt 256 (length (box_items before) + 1)) (nat_lt 1024 (length first)) kept).0
boxes_step before _ kept few = none_more 256 (box_items before) few

sends_step : (before : List Item) (item : Item) → too_many before item ≡ false → length (sends_items before) ≤ 1024 →
    length (sends_items before ++ sends_items (item ∷ [])) ≤ 1024
sends_step before (Sends host pattern) kept few =
    one_more 1024 (sends_items before) (record { host = host; pattern = pattern }) kept
sends_step before _ kept few = none_more 1024 (sends_items before) few

forbid_step : (before : List Item) (item : Item) → too_many before item ≡ false → length (forbid_items before) ≤ 1024 →
    length (forbid_items before ++ forbid_items (item ∷ [])) ≤ 1024
forbid_step before (Forbid host pattern) kept few =
    one_more 1024 (forbid_items before) (record { host = host; pattern = pattern }) kept
forbid_step before _ kept few = none_more 1024 (forbid_items before) few

module _ (items : List Item) (keeps : KeepsRules items) where
  counted : {A : Type 0} (view : List Item → List A) (limit : ℕ) → length (view []) ≤ limit →
      ((before : List Item) (item : Item) → view (before ++ item ∷ []) ≡ view before ++ view (item ∷ [])) →
      ((before : List Item) (item : Item) → too_many before item ≡ false → length (view before) ≤ limit →
      length (view before ++ view (item ∷ [])) ≤ limit) →
      length (view items) ≤ limit
  counted view limit none more step =
      grows (λ items. length (view items) ≤ limit) items none
      (λ before item after stands few. subst (λ list. length list ≤ limit) (sym (more before item))
      (step before item (keeps.each TooMany before item after stands) few))

  pub kinds_few : length (kind_items items) ≤ 32
  kinds_few = counted kind_items 32 (omega arith) kinds_more kinds_step

  pub fields_few : length (field_items items) ≤ 8
  fields_few = counted field_items 8 (omega arith) fields_more fields_step

  pub classes_few : length (class_items items) ≤ 64
  classes_few = counted class_items 64 (omega arith) classes_more classes_step

  pub hosts_few : length (host_items items) ≤ 256
  hosts_few = counted host_items 256 (omega arith) hosts_more hosts_step

  pub boxes_few : length (box_items items) ≤ 256
  boxes_few = counted box_items 256 (omega arith) boxes_more boxes_step

  pub sends_few : length (sends_items items) ≤ 1024
  sends_few =
      counted sends_items 1024 (omega arith)
      (λ before item. filter_map-append sends_item before (item ∷ [])) sends_step

  pub forbid_few : length (forbid_items items) ≤ 1024
  forbid_few =
      counted forbid_items 1024 (omega arith)
      (λ before item. filter_map-append forbid_item before (item ∷ [])) forbid_step
