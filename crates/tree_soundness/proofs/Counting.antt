-- The counts by which cells are told.
use Rattle.std.proofs.Common.{◌≡◌, ℕ, ◌+◌, ◌*◌, ◌≤◌, true, false, nat_lt, List, [], ◌∷◌, ◌++◌, length, sum_by, Option}
use Rattle.std.proofs.Common.{Some, None, is_none, option_map, option_and_then, slice_get, refl, sym, ap, subst, ◌∙◌}
use Rattle.std.proofs.Common.{append-nil, append_assoc, zero, suc, length-append, arith}
use Rattle.std.specs.List.{All, AllByRecursion, list_any}
use Rattle.std.proofs.Math.Nat.{mul_assoc}
use Rattle.std.proofs.lemmas.Bool.{or_parts, both_ways}
use Rattle.std.proofs.lemmas.Iterator.Adapters.{position_from-zero}
use Rattle.std.proofs.lemmas.List.Sums.{sum_by-append}
use Rattle.std.proofs.lemmas.Option.{same_Some, option_and_then_some}
use Rattle.header_set.specs.Headers.{product}
use Rattle.amdl_tree.specs.declared.class.Class.{Class}
use Rattle.amdl_tree.specs.declared.guard.Atom.{Atom}
use Rattle.amdl_tree.specs.declared.tree.Item.{Item}
use Rattle.amdl_tree.specs.declared.tree.Item.TheVariants.{Kind, Field, Class as OfClass, Host, Instance}
use Rattle.amdl_tree.specs.Items.{KindItem, BoxItem, kind_items, field_items, class_items, host_items, box_items}
use Rattle.amdl_tree.specs.WellBuilt.{IsBuiltItem, IsBuiltClass}
use Rattle.box_handlers.specs.Queries.{queries_of}
use Rattle.net_plan.specs.declared.plan.ClassPlan.{ClassPlan}
use Rattle.tree_plan.specs.Names.{same_name, joined, all_some, kind_number, values_named}
use Rattle.tree_plan.specs.Handlers.{handlers_of}
use Rattle.tree_plan.specs.Net.{field_names, relation_of, known_of, class_of, class_by, class_among, class_named}
use Rattle.tree_plan.specs.Net.{class_number}
use Rattle.tree_rules.specs.Spaces.{class_names}
use Rattle.tree_rules.specs.Rules.{passes, follows_fields, field_late, sizes_of, box_cells, cells_of_box, cells_of}
use Rattle.tree_rules.specs.Rules.{atom_unknown, too_many_cells, too_many_queries}
use Rattle.tree_rules.specs.declared.rule.Rule.TheVariants.{TooManyQueries}
use Rattle.tree_rules.specs.Checked.{KeepsEach}
use Rattle.tree_soundness.specs.Counting.{
  cells_of_class,
  cells_of_nodes,
  AreCounts,
  AddsNothing,
  CellsAreCounted,
  CellsAreTold,
  KeptIsCounted,
}
use Rattle.tree_soundness.proofs.Prefixes.{KeepsRules}
use Rattle.tree_soundness.proofs.Declared.{kinds_more, fields_more, classes_more, hosts_more, boxes_more}
use Rattle.tree_soundness.proofs.Lists.{
  joined_some,
  option_map_some,
  come_from,
  all_come,
  zip_weaker,
  each_at,
  each_weaker,
}
use Rattle.tree_soundness.proofs.Forms.{each_class, built_at}
use Rattle.tree_soundness.proofs.Existence.{Comes, not_none, kind_known, kind_comes, class_comes}
use Rattle.tree_soundness.proofs.Numbering.{each_same}
use Rattle.tree_soundness.proofs.HeaderSizes.{sizes_front, passes_not}
use Rattle.tree_soundness.proofs.Counts.{within}
use Rattle.tree_soundness.proofs.CellCounts.{class_more, box_more, no_nodes}

-- all of a list, and one more
all_push : {A B : Type 0} (f : A → Option B) (xs : List A) (ys : List B) (x : A) (y : B) → all_some f xs ≡ Some ys →
    f x ≡ Some y → all_some f (xs ++ x ∷ []) ≡ Some (ys ++ y ∷ [])
all_push f [] ys x y came here =
    (λ i. joined (λ y ys. y ∷ ys) (here i) (Some [])) ∙ ap (λ t. Some (t ++ y ∷ [])) (same_Some [] ys came)
all_push f (z ∷ xs) ys x y came here =
    joined_some (λ y ys. y ∷ ys) (f z) (all_some f xs) ys came
    (λ first rest one two is.
    (λ i. joined (λ y ys. y ∷ ys) (one i) (all_push f xs rest x y two here i)) ∙ ap (λ t. Some (t ++ y ∷ [])) is)

product_push : (sizes : List ℕ) (size : ℕ) → product (sizes ++ size ∷ []) ≡ product sizes * size
product_push [] size = omega arith
product_push (one ∷ sizes) size =
    ap (λ n. one * n) (product_push sizes size) ∙ sym (mul_assoc one (product sizes) size)

sum_push : (counts : List ℕ) (count : ℕ) →
    sum_by (λ cells. cells) (counts ++ count ∷ []) ≡ sum_by (λ cells. cells) counts + count
sum_push counts count = sum_by-append (λ cells. cells) counts (count ∷ []) ∙ ap (λ n. sum_by (λ cells. cells) counts + n) (omega arith)

mapped_then : {A B C : Type 0} (g : B → C) (f : A → Option B) (o : Option A) →
    option_and_then (λ a. option_map g (f a)) o ≡ option_map g (option_and_then f o)
mapped_then g f None = refl
mapped_then g f (Some a) = refl

-- the items of each form with an item more that is of another form
module _ (before : List Item) (item : Item) where
  abbrev more : List Item
  more = before ++ item ∷ []

  same_classes : class_items (item ∷ []) ≡ [] → class_items more ≡ class_items before
  same_classes none =
      classes_more before item ∙ ap (λ list. class_items before ++ list) none ∙ append-nil (class_items before)

  same_kinds : kind_items (item ∷ []) ≡ [] → kind_items more ≡ kind_items before
  same_kinds none = kinds_more before item ∙ ap (λ list. kind_items before ++ list) none ∙ append-nil (kind_items before)

  same_fields : field_items (item ∷ []) ≡ [] → field_items more ≡ field_items before
  same_fields none =
      fields_more before item ∙ ap (λ list. field_items before ++ list) none ∙ append-nil (field_items before)

  same_hosts : host_items (item ∷ []) ≡ [] → host_items more ≡ host_items before
  same_hosts none = hosts_more before item ∙ ap (λ list. host_items before ++ list) none ∙ append-nil (host_items before)

  same_boxes : box_items (item ∷ []) ≡ [] → box_items more ≡ box_items before
  same_boxes none = boxes_more before item ∙ ap (λ list. box_items before ++ list) none ∙ append-nil (box_items before)

  -- the packets stay
  packets_stay : field_items (item ∷ []) ≡ [] → (packets : ℕ) → option_map product (sizes_of before) ≡ Some packets →
      option_map product (sizes_of more) ≡ Some packets
  packets_stay no_field packets came =
      option_map_some product (sizes_of before) packets came
      (λ sizes sized is. ap (option_map product) (sizes_front before item sizes no_field sized) ∙ ap Some is)

  -- the cells of the classes before stay
  class_cells_stay : field_items (item ∷ []) ≡ [] → All IsBuiltItem more → (class : Class) (count : ℕ) →
      IsBuiltClass class → cells_of_class before class ≡ Some count → cells_of_class more class ≡ Some count
  class_cells_stay no_field built class count fits came =
      option_map_some box_cells (class_of before class) count came
      (λ found classed is.
      ap (option_map box_cells) (class_more before item no_field class found fits classed) ∙ ap Some is)

  classes_built : All IsBuiltItem more → AllByRecursion IsBuiltClass (class_items before)
  classes_built built =
      each_class before IsBuiltClass
      (λ front class back whole.
      built_at IsBuiltItem more front (OfClass class) (back ++ item ∷ []) built
      (ap (λ t. t ++ item ∷ []) whole ∙ append_assoc front (OfClass class ∷ back) (item ∷ [])))

  cells_stay : field_items (item ∷ []) ≡ [] → All IsBuiltItem more → (cells : List ℕ) →
      all_some (cells_of_class before) (class_items before) ≡ Some cells →
      all_some (cells_of_class more) (class_items before) ≡ Some cells
  cells_stay no_field built cells came =
      each_same (cells_of_class before) (cells_of_class more) (class_items before) cells
      (each_weaker IsBuiltClass
      (λ class. (count : ℕ) → cells_of_class before class ≡ Some count → cells_of_class more class ≡ Some count)
      (class_items before) (λ class fits count. class_cells_stay no_field built class count fits)
      (classes_built built)) came

  -- and so do those of the nodes
  nodes_stay : field_items (item ∷ []) ≡ [] → host_items (item ∷ []) ≡ [] → box_items (item ∷ []) ≡ [] →
      All IsBuiltItem more → (nodes : ℕ) → cells_of_nodes before ≡ Some nodes → cells_of_nodes more ≡ Some nodes
  nodes_stay no_field no_host no_box built nodes came =
      option_map_some (λ boxes. length (host_items before) + sum_by (λ cells. cells) boxes)
      (all_some (cells_of_box before) (box_items before)) nodes came
      (λ counts boxed is.
      let boxed_more : all_some (cells_of_box more) (box_items more) ≡ Some counts =
      ap (all_some (cells_of_box more)) (same_boxes no_box)
      ∙ all_come (cells_of_box more) (box_items before) counts
      (zip_weaker (λ box count. cells_of_box before box ≡ Some count) (λ box count. cells_of_box more box ≡ Some count)
      (box_items before) counts (box_more before item no_field built)
      (come_from (cells_of_box before) (box_items before) counts boxed)) in
      (λ i. option_map (λ boxes. length (same_hosts no_host i) + sum_by (λ cells. cells) boxes) (boxed_more i))
      ∙ ap Some is)

  -- with no type, field or class more, each box has the cells that it had
  same_cells : kind_items (item ∷ []) ≡ [] → field_items (item ∷ []) ≡ [] → class_items (item ∷ []) ≡ [] →
      cells_of_box more ≡ cells_of_box before
  same_cells no_kind no_field no_class =
      λ i box. option_map box_cells
      (option_and_then (class_by (same_kinds no_kind i) (field_names (same_fields no_field i)))
      (class_among (same_classes no_class i) box.class))

  class_cells_same : kind_items (item ∷ []) ≡ [] → field_items (item ∷ []) ≡ [] → class_items (item ∷ []) ≡ [] →
      all_some (cells_of_class more) (class_items more) ≡ all_some (cells_of_class before) (class_items before)
  class_cells_same no_kind no_field no_class =
      λ i. all_some
      (λ class. option_map box_cells (class_by (same_kinds no_kind i) (field_names (same_fields no_field i)) class))
      (same_classes no_class i)

-- a class by the types and the fields of the items
class_same : (before : List Item) (item : Item) → kind_items (item ∷ []) ≡ [] → field_items (item ∷ []) ≡ [] →
    (class : Class) → class_of (before ++ item ∷ []) class ≡ class_of before class
class_same before item no_kind no_field class =
    λ i. class_by (same_kinds before item no_kind i) (field_names (same_fields before item no_field i)) class

stays : (before : List Item) (item : Item) (packets nodes : ℕ) (cells : List ℕ) → AddsNothing item →
    All IsBuiltItem (before ++ item ∷ []) → AreCounts before packets nodes cells →
    AreCounts (before ++ item ∷ []) packets nodes cells
stays before item packets nodes cells none built counts = record {
  packets_are = packets_stay before item none.no_field packets counts.packets_are;
  nodes_are = nodes_stay before item none.no_field none.no_host none.no_box built nodes counts.nodes_are;
  cells_are =
      ap (all_some (cells_of_class (before ++ item ∷ []))) (same_classes before item none.no_class)
      ∙ cells_stay before item none.no_field built cells counts.cells_are;
}

-- before a field there is no class
no_classes : (before : List Item) → list_any follows_fields before ≡ false → class_items before ≡ []
no_classes [] early = refl
no_classes (Kind name values ∷ before) early = no_classes before early
no_classes (Field name kind ∷ before) early = no_classes before early
no_classes (_ ∷ before) early = absurd (both_ways true early refl)

with_field : (before : List Item) (name kind : List ℕ) (packets nodes size : ℕ) (cells : List ℕ) →
    field_late before (Field name kind) ≡ false → values_named (kind_items before) kind ≡ Some size →
    AreCounts before packets nodes cells → AreCounts (before ++ Field name kind ∷ []) (packets * size) nodes cells
with_field before name kind packets nodes size cells early sized counts =
    let item = Field name kind in
    let none = no_nodes before early in
    let hosts : host_items (before ++ item ∷ []) ≡ [] = same_hosts before item refl ∙ none.0 in
    let boxes : box_items (before ++ item ∷ []) ≡ [] = same_boxes before item refl ∙ none.1 in
    let classes : class_items (before ++ item ∷ []) ≡ [] = same_classes before item refl ∙ no_classes before early in
    let nodes_more : cells_of_nodes (before ++ item ∷ []) ≡ Some 0 =
    λ i. option_map (λ boxes. length (hosts i) + sum_by (λ cells. cells) boxes)
    (all_some (cells_of_box (before ++ item ∷ [])) (boxes i)) in
    let nodes_before : cells_of_nodes before ≡ Some 0 =
    λ i. option_map (λ boxes. length (none.0 i) + sum_by (λ cells. cells) boxes)
    (all_some (cells_of_box before) (none.1 i)) in
    record {
      packets_are =
          option_map_some product (sizes_of before) packets counts.packets_are
          (λ sizes came is.
          let pushed : sizes_of (before ++ item ∷ []) ≡ Some (sizes ++ size ∷ []) =
          (λ i. all_some (λ field. values_named (same_kinds before item refl i) field.kind) (fields_more before item i))
          ∙ all_push (λ field. values_named (kind_items before) field.kind) (field_items before) sizes
          (record { name = name; kind = kind }) size came sized in
          ap (option_map product) pushed ∙ ap Some (product_push sizes size ∙ ap (λ n. n * size) is));
      nodes_are = nodes_more ∙ sym nodes_before ∙ counts.nodes_are;
      cells_are =
          (λ i. all_some (cells_of_class (before ++ item ∷ [])) (classes i))
          ∙ sym (λ i. all_some (cells_of_class before) (no_classes before early i)) ∙ counts.cells_are;
    }

with_class : (before : List Item) (class : Class) (packets nodes count : ℕ) (cells : List ℕ) →
    All IsBuiltItem (before ++ OfClass class ∷ []) → cells_of_class before class ≡ Some count →
    AreCounts before packets nodes cells →
    AreCounts (before ++ OfClass class ∷ []) packets nodes (cells ++ count ∷ [])
with_class before class packets nodes count cells built counted counts =
    let item = OfClass class in
    record {
      packets_are = packets_stay before item refl packets counts.packets_are;
      nodes_are = nodes_stay before item refl refl refl built nodes counts.nodes_are;
      cells_are =
          ap (all_some (cells_of_class (before ++ item ∷ []))) (classes_more before item)
          ∙ all_push (cells_of_class (before ++ item ∷ [])) (class_items before) cells class count
          (cells_stay before item refl built cells counts.cells_are)
          (ap (option_map box_cells) (class_same before item refl refl class) ∙ counted);
    }

with_host : (before : List Item) (name : List ℕ) (packets nodes : ℕ) (cells : List ℕ) →
    AreCounts before packets nodes cells → AreCounts (before ++ Host name ∷ []) packets (nodes + 1) cells
with_host before name packets nodes cells counts =
    let item = Host name in
    record {
      packets_are = packets_stay before item refl packets counts.packets_are;
      nodes_are =
          (λ i. option_map (λ boxes. length (hosts_more before item i) + sum_by (λ cells. cells) boxes)
          (all_some (same_cells before item refl refl refl i) (same_boxes before item refl i)))
          ∙ option_map_some (λ boxes. length (host_items before) + sum_by (λ cells. cells) boxes)
          (all_some (cells_of_box before) (box_items before)) nodes counts.nodes_are
          (λ boxes boxed is.
          let e : length (host_items before ++ name ∷ []) + sum_by (λ cells. cells) boxes ≡ nodes + 1 =
          omega (arith, length-append (host_items before) (name ∷ []), is) in
          ap (option_map (λ boxes. length (host_items before ++ name ∷ []) + sum_by (λ cells. cells) boxes)) boxed
          ∙ ap Some e);
      cells_are = class_cells_same before item refl refl refl ∙ counts.cells_are;
    }

with_box : (before : List Item) (name class : List ℕ) (first : List Atom) (packets nodes count : ℕ) (cells : List ℕ) →
    option_and_then (cells_of_class before) (class_named before class) ≡ Some count →
    AreCounts before packets nodes cells →
    AreCounts (before ++ Instance name class first ∷ []) packets (nodes + count) cells
with_box before name class first packets nodes count cells counted counts =
    let item = Instance name class first in
    let box : BoxItem = record { name = name; class = class; first = first } in
    let here : cells_of_box before box ≡ Some count =
    sym (mapped_then box_cells (class_of before) (class_named before class)) ∙ counted in
    record {
      packets_are = packets_stay before item refl packets counts.packets_are;
      nodes_are =
          (λ i. option_map (λ boxes. length (same_hosts before item refl i) + sum_by (λ cells. cells) boxes)
          (all_some (same_cells before item refl refl refl i) (boxes_more before item i)))
          ∙ option_map_some (λ boxes. length (host_items before) + sum_by (λ cells. cells) boxes)
          (all_some (cells_of_box before) (box_items before)) nodes counts.nodes_are
          (λ boxes boxed is.
          let pushed = all_push (cells_of_box before) (box_items before) boxes box count boxed here in
          let e : length (host_items before) + sum_by (λ cells. cells) (boxes ++ count ∷ []) ≡ nodes + count =
          omega (arith, sum_push boxes count, is) in
          ap (option_map (λ boxes. length (host_items before) + sum_by (λ cells. cells) boxes)) pushed ∙ ap Some e);
      cells_are = class_cells_same before item refl refl refl ∙ counts.cells_are;
    }

pub cells_counted : CellsAreCounted
cells_counted = record {
  begun = record { packets_are = refl; nodes_are = refl; cells_are = refl };
  stay = stays;
  field = with_field;
  class = with_class;
  host = with_host;
  box = with_box;
}

-- the cells by the counts
told : (items : List Item) (packets nodes : ℕ) (cells : List ℕ) → AreCounts items packets nodes cells →
    cells_of items ≡ Some (packets * nodes)
told items packets nodes cells counts =
    option_map_some product (sizes_of items) packets counts.packets_are
    (λ sizes sized one.
    option_map_some (λ boxes. length (host_items items) + sum_by (λ cells. cells) boxes)
    (all_some (cells_of_box items) (box_items items)) nodes counts.nodes_are
    (λ boxes boxed two.
    (λ i. joined (λ sizes boxes. product sizes * (length (host_items items) + sum_by (λ cells. cells) boxes))
    (sized i) (boxed i)) ∙ (λ i. Some (one i * two i))))

-- each of a list by its place
at_place : {A B : Type 0} (f : A → Option B) (xs : List A) (ys : List B) (k : ℕ) → all_some f xs ≡ Some ys →
    option_and_then f (slice_get xs k) ≡ slice_get ys k
at_place f [] ys k came = ap (λ ys. slice_get ys k) (same_Some [] ys came)
at_place f (x ∷ xs) ys zero came =
    joined_some (λ y ys. y ∷ ys) (f x) (all_some f xs) ys came
    (λ y rest one two is. one ∙ ap (λ ys. slice_get ys 0) is)
at_place f (x ∷ xs) ys (suc k) came =
    joined_some (λ y ys. y ∷ ys) (f x) (all_some f xs) ys came
    (λ y rest one two is. at_place f xs rest k two ∙ ap (λ ys. slice_get ys (suc k)) is)

by_number : {A B : Type 0} (f : A → Option B) (xs : List A) (ys : List B) (o : Option ℕ) → all_some f xs ≡ Some ys →
    option_and_then f (option_and_then (slice_get xs) o) ≡ option_and_then (slice_get ys) o
by_number f xs ys None came = refl
by_number f xs ys (Some k) came = at_place f xs ys k came

joined_none : {A B C : Type 0} (f : A → B → C) (a : Option A) → joined f a None ≡ None
joined_none f None = refl
joined_none f (Some a) = refl

none_push : {A B : Type 0} (f : A → Option B) (xs : List A) (x : A) → f x ≡ None → all_some f (xs ++ x ∷ []) ≡ None
none_push f [] x here = ap (λ o. joined (λ y ys. y ∷ ys) o (Some [])) here
none_push f (z ∷ xs) x here =
    ap (joined (λ y ys. y ∷ ys) (f z)) (none_push f xs x here) ∙ joined_none (λ y ys. y ∷ ys) (f z)

without_class : (before : List Item) (name class : List ℕ) (first : List Atom) →
    option_and_then (cells_of_class before) (class_named before class) ≡ None →
    too_many_cells before (Instance name class first) ≡ false
without_class before name class first none =
    let item = Instance name class first in
    let box : BoxItem = record { name = name; class = class; first = first } in
    let here : cells_of_box before box ≡ None =
    sym (mapped_then box_cells (class_of before) (class_named before class)) ∙ none in
    let boxes : all_some (cells_of_box (before ++ item ∷ [])) (box_items (before ++ item ∷ [])) ≡ None =
    (λ i. all_some (same_cells before item refl refl refl i) (boxes_more before item i))
    ∙ none_push (cells_of_box before) (box_items before) box here in
    let counted = λ (sizes boxes : List ℕ).
    product sizes * (length (host_items (before ++ item ∷ [])) + sum_by (λ cells. cells) boxes) in
    ap (λ o. passes (nat_lt 4194304) (joined counted (sizes_of (before ++ item ∷ [])) o)) boxes
    ∙ ap (passes (nat_lt 4194304)) (joined_none counted (sizes_of (before ++ item ∷ [])))

pub cells_told : CellsAreTold
cells_told = record {
  named = λ items packets nodes cells name counts.
      by_number (cells_of_class items) (class_items items) cells (class_number (class_items items) name)
      counts.cells_are
      ∙ ap (option_and_then (slice_get cells)) (sym (position_from-zero (same_name name) (class_names items)));
  host = λ before name packets nodes cells counts.
      ap (passes (nat_lt 4194304))
      (told (before ++ Host name ∷ []) packets (nodes + 1) cells (with_host before name packets nodes cells counts));
  box = λ before name class first packets nodes count cells counted counts.
      ap (passes (nat_lt 4194304))
      (told (before ++ Instance name class first ∷ []) packets (nodes + count) cells
      (with_box before name class first packets nodes count cells counted counts));
  classless = without_class;
}

-- what items that keep the rules declare
rules_kept : (items : List Item) → KeepsEach items → KeepsRules items
rules_kept items keeps = record { each = λ rule before item after whole. keeps before item after whole rule }

queries_few : (before : List Item) (class : Class) (plan : ClassPlan) →
    too_many_queries before (OfClass class) ≡ false → class_of before class ≡ Some plan → length plan.queries ≤ 12
queries_few before class plan kept came =
    joined_some (λ relations handlers. record {
      ports = class.ports;
      relations = relations;
      handlers = handlers;
      queries = queries_of handlers;
    }) (all_some (relation_of (kind_items before)) class.relations)
    (handlers_of (known_of before class) class.handlers) plan came
    (λ relations handlers one two is.
    let few : length (queries_of handlers) ≤ 12 =
    within 12 (length (queries_of handlers))
    (passes_not (λ handlers. nat_lt 12 (length (queries_of handlers)))
    (handlers_of (known_of before class) class.handlers) handlers kept two) in
    subst (λ (plan : ClassPlan). length plan.queries ≤ 12) is few)

pub kept_counted : KeptIsCounted
kept_counted = record {
  field = λ before name kind known.
      let number = subst (λ kinds. Comes (kind_number kinds kind)) (append-nil (kind_items before))
      (kind_known (kind_items before) [] kind known) in
      let found = kind_comes (kind_items before) kind number.0 number.1 in
      (length found.0.values, ap (option_map (λ (kind : KindItem). length kind.values)) found.3);
  class = λ before class keeps built.
      let items = before ++ OfClass class ∷ [] in
      let came = class_comes items (rules_kept items keeps) built before class [] refl in
      let here : class_of before class ≡ Some came.0 =
      sym (class_same before (OfClass class) refl refl class) ∙ came.1 in
      (came.0, here, queries_few before class came.0 (keeps before (OfClass class) [] refl TooManyQueries) here);
  box = λ before name class first known keeps built.
      let named = not_none (class_named before class)
      (or_parts (is_none (class_named before class))
      (passes (λ found. list_any (atom_unknown before found) first) (class_named before class)) known).0 in
      option_and_then_some (slice_get (class_items before)) (class_number (class_items before) class) named.0 named.1
      (λ k number at.
      let classed = each_at (λ class. Comes (class_of before class)) (class_items before) k named.0
      (each_class before (λ class. Comes (class_of before class)) (class_comes before (rules_kept before keeps) built))
      at in (
        box_cells classed.0,
        ap (option_and_then (cells_of_class before)) named.1 ∙ ap (option_map box_cells) classed.1,
      ));
}
