-- The items of one form, each with the items before it.
use Rattle.std.proofs.Common.{
  ◌≡◌,
  ℕ,
  true,
  false,
  List,
  [],
  ◌∷◌,
  ◌++◌,
  Option,
  Some,
  None,
  refl,
  sym,
  ap,
  subst,
  ◌∙◌,
  append_assoc,
  append-nil,
}
use Rattle.std.specs.List.{All, list_any, filter_map, cons_option, AllByRecursion}
use Rattle.std.proofs.lemmas.Bool.{both_ways, or_left, or_right}
use Rattle.std.proofs.lemmas.List.Elements.{filter_map-append, All-head, All-tail}
use Rattle.std.proofs.lemmas.List.Folds.{list_any-append}
use Rattle.std.proofs.lemmas.Option.{none-some, same_Some}
use Rattle.amdl_tree.specs.declared.class.Class.{Class}
use Rattle.amdl_tree.specs.declared.tree.Item.{Item}
use Rattle.amdl_tree.specs.declared.tree.Item.TheVariants.{
  Kind,
  Field,
  Class as OfClass,
  Host,
  Instance,
  Link,
  Sends,
  Forbid,
}
use Rattle.amdl_tree.specs.Items.{
  KindItem,
  FieldItem,
  BoxItem,
  LinkItem,
  PatternItem,
  kind_item,
  field_item,
  class_item,
  host_item,
  box_item,
  link_item,
  sends_item,
  forbid_item,
  kind_items,
  field_items,
  class_items,
  host_items,
  box_items,
  link_items,
  sends_items,
  forbid_items,
}
use Rattle.tree_rules.specs.declared.rule.Rule.TheVariants.{FieldLate}
use Rattle.tree_rules.specs.Rules.{follows_fields}
use Rattle.tree_soundness.proofs.Prefixes.{KeepsRules}

-- what holds of each item of a form, with those before it
module _ {A : Type 0} (form : Item → Option A) (P : A → Type 0) (items : List Item)
    (known : (before : List Item) (item : Item) (after : List Item) (x : A) → items ≡ before ++ item ∷ after →
    form item ≡ Some x → P x) where
  each_behind : (before rest : List Item) → items ≡ before ++ rest → AllByRecursion P (filter_map form rest)
  each_behind before [] whole = tt
  each_behind before (item ∷ rest) whole =
      let others = each_behind (before ++ item ∷ []) rest (whole ∙ sym (append_assoc before (item ∷ []) rest)) in
      elim (form item) as (λ o. form item ≡ o → AllByRecursion P (cons_option o (filter_map form rest))) [
        | Some x ↦ λ is. (known before item rest x whole is, others)
        | None ↦ λ is. others
      ] refl

  pub each_of : AllByRecursion P (filter_map form items)
  each_of = each_behind [] items refl

kind_form : (item : Item) (kind : KindItem) → kind_item item ≡ Some kind → item ≡ Kind kind.name kind.values
kind_form (Kind name values) kind is =
    ap (λ (k : KindItem). Kind k.name k.values) (same_Some (record { name = name; values = values }) kind is)
kind_form _ kind is = absurd (none-some kind is)

field_form : (item : Item) (field : FieldItem) → field_item item ≡ Some field → item ≡ Field field.name field.kind
field_form (Field name kind) field is =
    ap (λ (f : FieldItem). Field f.name f.kind) (same_Some (record { name = name; kind = kind }) field is)
field_form _ field is = absurd (none-some field is)

class_form : (item : Item) (class : Class) → class_item item ≡ Some class → item ≡ OfClass class
class_form (OfClass other) class is = ap OfClass (same_Some other class is)
class_form _ class is = absurd (none-some class is)

host_form : (item : Item) (name : List ℕ) → host_item item ≡ Some name → item ≡ Host name
host_form (Host other) name is = ap Host (same_Some other name is)
host_form _ name is = absurd (none-some name is)

box_form : (item : Item) (box : BoxItem) → box_item item ≡ Some box → item ≡ Instance box.name box.class box.first
box_form (Instance name class first) box is =
    ap (λ (b : BoxItem). Instance b.name b.class b.first)
    (same_Some (record { name = name; class = class; first = first }) box is)
box_form _ box is = absurd (none-some box is)

link_form : (item : Item) (link : LinkItem) → link_item item ≡ Some link → item ≡ Link link.one link.two
link_form (Link one two) link is =
    ap (λ (l : LinkItem). Link l.one l.two) (same_Some (record { one = one; two = two }) link is)
link_form _ link is = absurd (none-some link is)

sends_form : (item : Item) (sends : PatternItem) → sends_item item ≡ Some sends → item ≡ Sends sends.host sends.pattern
sends_form (Sends host pattern) sends is =
    ap (λ (s : PatternItem). Sends s.host s.pattern) (same_Some (record { host = host; pattern = pattern }) sends is)
sends_form _ sends is = absurd (none-some sends is)

forbid_form : (item : Item) (forbid : PatternItem) → forbid_item item ≡ Some forbid →
    item ≡ Forbid forbid.host forbid.pattern
forbid_form (Forbid host pattern) forbid is =
    ap (λ (s : PatternItem). Forbid s.host s.pattern) (same_Some (record { host = host; pattern = pattern }) forbid is)
forbid_form _ forbid is = absurd (none-some forbid is)

-- an item at its place is what its form says
at_form : (items before after : List Item) (one two : Item) → items ≡ before ++ one ∷ after → one ≡ two →
    items ≡ before ++ two ∷ after
at_form items before after one two whole is = whole ∙ ap (λ item. before ++ item ∷ after) is

module _ (items : List Item) where
  pub each_kind : (P : KindItem → Type 0) →
      ((before : List Item) (kind : KindItem) (after : List Item) →
      items ≡ before ++ Kind kind.name kind.values ∷ after → P kind) → AllByRecursion P (kind_items items)
  each_kind P known =
      each_of kind_item P items
      (λ before item after kind whole is. known before kind after
      (at_form items before after item (Kind kind.name kind.values) whole (kind_form item kind is)))

  pub each_field : (P : FieldItem → Type 0) →
      ((before : List Item) (field : FieldItem) (after : List Item) →
      items ≡ before ++ Field field.name field.kind ∷ after → P field) → AllByRecursion P (field_items items)
  each_field P known =
      each_of field_item P items
      (λ before item after field whole is. known before field after
      (at_form items before after item (Field field.name field.kind) whole (field_form item field is)))

  pub each_class : (P : Class → Type 0) →
      ((before : List Item) (class : Class) (after : List Item) → items ≡ before ++ OfClass class ∷ after → P class) →
      AllByRecursion P (class_items items)
  each_class P known =
      each_of class_item P items
      (λ before item after class whole is. known before class after
      (at_form items before after item (OfClass class) whole (class_form item class is)))

  pub each_host : (P : List ℕ → Type 0) →
      ((before : List Item) (name : List ℕ) (after : List Item) → items ≡ before ++ Host name ∷ after → P name) →
      AllByRecursion P (host_items items)
  each_host P known =
      each_of host_item P items
      (λ before item after name whole is. known before name after
      (at_form items before after item (Host name) whole (host_form item name is)))

  pub each_box : (P : BoxItem → Type 0) →
      ((before : List Item) (box : BoxItem) (after : List Item) →
      items ≡ before ++ Instance box.name box.class box.first ∷ after → P box) → AllByRecursion P (box_items items)
  each_box P known =
      each_of box_item P items
      (λ before item after box whole is. known before box after
      (at_form items before after item (Instance box.name box.class box.first) whole (box_form item box is)))

  pub each_link : (P : LinkItem → Type 0) →
      ((before : List Item) (link : LinkItem) (after : List Item) → items ≡ before ++ Link link.one link.two ∷ after →
      P link) → AllByRecursion P (link_items items)
  each_link P known =
      each_of link_item P items
      (λ before item after link whole is. known before link after
      (at_form items before after item (Link link.one link.two) whole (link_form item link is)))

  pub each_sends : (P : PatternItem → Type 0) →
      ((before : List Item) (sends : PatternItem) (after : List Item) →
      items ≡ before ++ Sends sends.host sends.pattern ∷ after → P sends) → AllByRecursion P (sends_items items)
  each_sends P known =
      each_of sends_item P items
      (λ before item after sends whole is. known before sends after
      (at_form items before after item (Sends sends.host sends.pattern) whole (sends_form item sends is)))

  pub each_forbid : (P : PatternItem → Type 0) →
      ((before : List Item) (forbid : PatternItem) (after : List Item) →
      items ≡ before ++ Forbid forbid.host forbid.pattern ∷ after → P forbid) →
      AllByRecursion P (forbid_items items)
  each_forbid P known =
      each_of forbid_item P items
      (λ before item after forbid whole is. known before forbid after
      (at_form items before after item (Forbid forbid.host forbid.pattern) whole (forbid_form item forbid is)))

-- the items of a form in front, and behind
pub kinds_split : (items front back : List Item) → items ≡ front ++ back →
    kind_items items ≡ kind_items front ++ kind_items back
kinds_split items front back whole = ap kind_items whole ∙ filter_map-append kind_item front back

pub fields_split : (items front back : List Item) → items ≡ front ++ back →
    field_items items ≡ field_items front ++ field_items back
fields_split items front back whole = ap field_items whole ∙ filter_map-append field_item front back

pub classes_split : (items front back : List Item) → items ≡ front ++ back →
    class_items items ≡ class_items front ++ class_items back
classes_split items front back whole = ap class_items whole ∙ filter_map-append class_item front back

pub hosts_split : (items front back : List Item) → items ≡ front ++ back →
    host_items items ≡ host_items front ++ host_items back
hosts_split items front back whole = ap host_items whole ∙ filter_map-append host_item front back

pub boxes_split : (items front back : List Item) → items ≡ front ++ back →
    box_items items ≡ box_items front ++ box_items back
boxes_split items front back whole = ap box_items whole ∙ filter_map-append box_item front back

-- behind an item that is neither a type nor a field there is no field
follows_more : (before : List Item) (item : Item) → list_any follows_fields before ≡ true →
    list_any follows_fields (before ++ item ∷ []) ≡ true
follows_more before item some =
    list_any-append follows_fields before (item ∷ [])
    ∙ or_left (list_any follows_fields before) (list_any follows_fields (item ∷ [])) some

no_field : (items : List Item) → KeepsRules items → (before rest : List Item) → items ≡ before ++ rest →
    list_any follows_fields before ≡ true → field_items rest ≡ []
no_field items keeps before [] whole some = refl
no_field items keeps before (item ∷ rest) whole some =
    let others =
    no_field items keeps (before ++ item ∷ []) rest (whole ∙ sym (append_assoc before (item ∷ []) rest))
    (follows_more before item some) in
    elim (field_item item) as (λ o. field_item item ≡ o → cons_option o (field_items rest) ≡ []) [
      | Some field ↦ λ is.
          absurd (both_ways (list_any follows_fields before)
          (keeps.each FieldLate before (Field field.name field.kind) rest
          (at_form items before rest item (Field field.name field.kind) whole (field_form item field is))) some)
      | None ↦ λ is. others
    ] refl

pub fields_fixed : (items before : List Item) (item : Item) (after : List Item) → KeepsRules items →
    items ≡ before ++ item ∷ after → follows_fields item ≡ true →
    field_items items ≡ field_items before
fields_fixed items before item after keeps whole follows =
    let some : list_any follows_fields (before ++ item ∷ []) ≡ true =
    list_any-append follows_fields before (item ∷ [])
    ∙ or_right (list_any follows_fields before) (list_any follows_fields (item ∷ []))
    (or_left (follows_fields item) false follows) in
    let parted : items ≡ (before ++ item ∷ []) ++ after = whole ∙ sym (append_assoc before (item ∷ []) after) in
    fields_split items (before ++ item ∷ []) after parted
    ∙ ap (λ more. field_items (before ++ item ∷ []) ++ more)
    (no_field items keeps (before ++ item ∷ []) after parted some)
    ∙ append-nil (field_items (before ++ item ∷ []))
    ∙ fields_split (before ++ item ∷ []) before (item ∷ []) refl
    ∙ ap (λ more. field_items before ++ more) (none_here item follows)
    ∙ append-nil (field_items before)
  where
    none_here : (item : Item) → follows_fields item ≡ true → field_items (item ∷ []) ≡ []
    none_here (Field name kind) follows = absurd (both_ways false refl follows)
    none_here _ follows = refl

-- what is well built at its place
pub built_at : (P : Item → Type 0) (items before : List Item) (item : Item) (after : List Item) → All P items →
    items ≡ before ++ item ∷ after → P item
built_at P items before item after all whole = at_place before (subst (All P) whole all)
  where
    at_place : (before : List Item) → All P (before ++ item ∷ after) → P item
    at_place [] all = All-head P item after all
    at_place (one ∷ before) all = at_place before (All-tail P one (before ++ item ∷ after) all)
