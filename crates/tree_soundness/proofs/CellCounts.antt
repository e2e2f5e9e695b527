-- How many cells the network of items that keep the rules has.
use Rattle.std.proofs.Common.{
  ◌≡◌,
  ℕ,
  zero,
  suc,
  ◌+◌,
  ◌*◌,
  ◌≤◌,
  true,
  false,
  nat_lt,
  List,
  [],
  ◌∷◌,
  ◌++◌,
  length,
  map,
  sum_by,
  Some,
  option_map,
  option_and_then,
  refl,
  sym,
  ap,
  subst,
  ◌∙◌,
  append-nil,
  append_assoc,
  length-append,
  mul-zero,
  arith,
}
use Rattle.std.specs.List.{All, list_any, range_with_len}
use Rattle.std.proofs.lemmas.Bool.{both_ways}
use Rattle.std.proofs.lemmas.List.{length-map}
use Rattle.std.proofs.lemmas.List.Elements.{All-from_recursion, recursion_from_All, All-nil}
use Rattle.std.proofs.lemmas.List.Sums.{sum_by-cons}
use Rattle.std.proofs.lemmas.Option.{same_Some, option_and_then_some}
use Rattle.header_set.specs.Headers.{product}
use Rattle.amdl_tree.specs.declared.class.Class.{Class}
use Rattle.amdl_tree.specs.declared.class.Handler.{Handler}
use Rattle.amdl_tree.specs.declared.class.Relation.{Relation}
use Rattle.amdl_tree.specs.declared.tree.Item.{Item}
use Rattle.amdl_tree.specs.declared.tree.Item.TheVariants.{Kind, Field, Class as OfClass, Host, Instance}
use Rattle.amdl_tree.specs.declared.tree.Tree.{Tree}
use Rattle.amdl_tree.specs.Items.{BoxItem, kind_items, field_items, class_items, host_items, box_items}
use Rattle.amdl_tree.specs.WellBuilt.{IsBuiltItem, IsBuiltClass, StmtFits, HandlerFits}
use Rattle.box_handlers.specs.declared.act.Act.{Act}
use Rattle.box_handlers.specs.Queries.{queries_of}
use Rattle.net_plan.specs.declared.plan.Plan.{Plan}
use Rattle.net_plan.specs.declared.plan.BoxPlan.{BoxPlan}
use Rattle.net_plan.specs.declared.plan.ClassPlan.{ClassPlan}
use Rattle.net_plan.specs.declared.plan.RelationPlan.{RelationPlan}
use Rattle.net_plan.specs.declared.fact.Place.TheVariants.{Host as HostPlace, Port}
use Rattle.net_plan.specs.Plan as plan
use Rattle.net_plan.specs.Ends.{box_places, port_places, ends_of}
use Rattle.net_plan.specs.Cells as cells
use Rattle.tree_plan.specs.Names.{joined, all_some, kind_number}
use Rattle.tree_plan.specs.Handlers.{acts_of, body_for, handlers_of}
use Rattle.tree_plan.specs.Net.{field_names, relation_of, known_of, class_of, class_named}
use Rattle.tree_rules.specs.declared.rule.Rule.TheVariants.{FieldLate, TooManyCells}
use Rattle.tree_rules.specs.Rules.{
  follows_fields,
  field_late,
  sizes_of,
  box_cells,
  cells_of_box,
  cells_of,
  too_many_cells,
}
use Rattle.tree_soundness.proofs.Parts.{box_from}
use Rattle.tree_soundness.proofs.Prefixes.{KeepsRules, keeps_front, grows}
use Rattle.tree_soundness.proofs.Declared.{kinds_more, fields_more, hosts_more, boxes_more}
use Rattle.tree_soundness.proofs.Lists.{
  joined_some,
  option_map_some,
  come_from,
  all_come,
  zip_weaker,
  each_at,
  each_weaker,
}
use Rattle.tree_soundness.proofs.Numbering.{kind_number_front, with_kinds, acts_front}
use Rattle.tree_soundness.proofs.Forms.{each_class, built_at}
use Rattle.tree_soundness.proofs.Existence.{Comes, body_comes, fields_come, classes_come}
use Rattle.tree_soundness.proofs.Nodes.{hosts_come, boxes_come, class_front}
use Rattle.tree_soundness.proofs.Counts.{within}
use Rattle.tree_soundness.proofs.HeaderSizes.{passes_not, zip_mapped, sizes_front, sizes_are}
use Rattle.tree_soundness.proofs.Spelled.{HasParts, box_parts, box_class, nodes, nodes_parts}
use Rattle.tree_soundness.proofs.Linking.{hosts_counted}
use Rattle.tree_soundness.proofs.Fitting.{each_left}
use Rattle.tree_soundness.proofs.Sums.{sum_map}

pub all_front : {A : Type 0} (P : A → Type 0) (xs ys : List A) → All P (xs ++ ys) → All P xs
all_front P xs ys all = All-from_recursion P xs (each_left P xs ys (recursion_from_All P (xs ++ ys) all))

-- the cells that the rule counts are those of the plan
range_length : (start count : ℕ) → length (range_with_len start count) ≡ count
range_length start zero = refl
range_length start (suc count) = ap suc (range_length (start + 1) count)

ports_counted : (spelled : Plan) (number : ℕ) (boxes : List BoxPlan) →
    length (port_places spelled number boxes) ≡ sum_by (plan.ports_of spelled) boxes
ports_counted spelled number [] = refl
ports_counted spelled number (box ∷ boxes) =
    let count = plan.ports_of spelled box in
    let here : length (box_places spelled number box) ≡ count =
    length-map (range_with_len 0 count) (Port number) ∙ range_length 0 count in
    omega (
      arith,
      length-append (box_places spelled number box) (port_places spelled (number + 1) boxes),
      here,
      ports_counted spelled (number + 1) boxes,
      sum_by-cons (plan.ports_of spelled) box boxes,
    )

ends_counted : (spelled : Plan) → ends_of spelled ≡ length spelled.hosts + sum_by (plan.ports_of spelled) spelled.boxes
ends_counted spelled =
    let count = length spelled.hosts in
    let here : length (map HostPlace (range_with_len 0 count)) ≡ count =
    length-map (range_with_len 0 count) HostPlace ∙ range_length 0 count in
    omega (
      arith,
      length-append (map HostPlace (range_with_len 0 count)) (port_places spelled 0 spelled.boxes),
      here,
      ports_counted spelled 0 spelled.boxes,
    )

boxes_counted : (spelled : Plan) (boxes : List BoxPlan) →
    sum_by (λ box. box_cells (plan.class_of spelled box)) boxes
    ≡ sum_by (plan.ports_of spelled) boxes + sum_by (λ box. plan.masks_of spelled box + 1) boxes
boxes_counted spelled [] = refl
boxes_counted spelled (box ∷ boxes) =
    omega (
      arith,
      boxes_counted spelled boxes,
      sum_by-cons (λ box. box_cells (plan.class_of spelled box)) box boxes,
      sum_by-cons (plan.ports_of spelled) box boxes,
      sum_by-cons (λ box. plan.masks_of spelled box + 1) box boxes,
    )

module _ (items : List Item) (keeps : KeepsRules items) (built : All IsBuiltItem items) (spelled : Plan)
    (parts : HasParts items spelled) where
  box_counted : (box : BoxItem) (found : BoxPlan) → box_from items box ≡ Some found →
      cells_of_box items box ≡ Some (box_cells (plan.class_of spelled found))
  box_counted box found came =
      let of = box_parts items box found came in
      let at = box_class items spelled parts box found of in
      ap (λ o. option_map box_cells (option_and_then (class_of items) o)) of.named
      ∙ ap (option_map box_cells) at.comes
      ∙ ap (λ class. Some (box_cells class)) (sym at.is)

  pub cells_are : cells_of items ≡ Some (cells.cells_of spelled)
  cells_are =
      let cells_of_boxes = map (λ box. box_cells (plan.class_of spelled box)) spelled.boxes in
      let boxes : all_some (cells_of_box items) (box_items items) ≡ Some cells_of_boxes =
      all_come (cells_of_box items) (box_items items) cells_of_boxes
      (zip_mapped (λ box found. box_from items box ≡ Some found) (cells_of_box items)
      (λ box. box_cells (plan.class_of spelled box)) (box_items items) spelled.boxes box_counted
      (come_from (box_from items) (box_items items) spelled.boxes parts.boxes)) in
      let e : length (host_items items) + sum_by (λ cells. cells) cells_of_boxes
      ≡ ends_of spelled + sum_by (λ box. plan.masks_of spelled box + 1) spelled.boxes =
      omega (
        arith,
        hosts_counted items spelled parts,
        sum_map (λ cells. cells) (λ box. box_cells (plan.class_of spelled box)) spelled.boxes,
        boxes_counted spelled spelled.boxes,
        ends_counted spelled,
      ) in
      (λ i. joined (λ sizes boxes. product sizes * (length (host_items items) + sum_by (λ cells. cells) boxes))
      (sizes_are items keeps built spelled parts i) (boxes i))
      ∙ ap (λ n. Some (product (plan.sizes_of spelled) * n)) e

-- there are cells of items that keep the rules
pub cells_come : (items : List Item) → KeepsRules items → All IsBuiltItem items → Comes (cells_of items)
cells_come items keeps built =
    let tree : Tree = record { name = []; items = items } in
    let fields = fields_come items keeps in
    let classes = classes_come items keeps built in
    let hosts = hosts_come items keeps in
    let boxes = boxes_come items keeps built in
    let spelled : Plan = nodes tree fields.0 classes.0 hosts.0 boxes.0 fields.1 classes.1 hosts.1 boxes.1 in
    let parts : HasParts items spelled =
    nodes_parts tree fields.0 classes.0 hosts.0 boxes.0 fields.1 classes.1 hosts.1 boxes.1 in
    (cells.cells_of spelled, cells_are items keeps built spelled parts)

-- a class is the same with an item more that is no field
module _ (before : List Item) (item : Item) (no_field : field_items (item ∷ []) ≡ []) where
  abbrev more : List Item
  more = before ++ item ∷ []

  same_fields : field_items more ≡ field_items before
  same_fields =
      fields_more before item ∙ ap (λ list. field_items before ++ list) no_field ∙ append-nil (field_items before)

  known_more : (class : Class) → known_of more class ≡ with_kinds (known_of before class) (kind_items (item ∷ []))
  known_more class = λ i. record {
    kinds = kinds_more before item i;
    fields = field_names (same_fields i);
    relations = map (λ relation. relation.name) class.relations;
    ports = class.ports;
  }

  numbers_more : (names : List (List ℕ)) (numbers : List ℕ) →
      all_some (kind_number (kind_items before)) names ≡ Some numbers →
      all_some (kind_number (kind_items more)) names ≡ Some numbers
  numbers_more names numbers came =
      all_come (kind_number (kind_items more)) names numbers
      (zip_weaker (λ name k. kind_number (kind_items before) name ≡ Some k)
      (λ name k. kind_number (kind_items more) name ≡ Some k) names numbers
      (λ name k number.
      ap (λ kinds. kind_number kinds name) (kinds_more before item)
      ∙ kind_number_front (kind_items before) (kind_items (item ∷ [])) name k number)
      (come_from (kind_number (kind_items before)) names numbers came))

  relation_more : (relation : Relation) (found : RelationPlan) →
      relation_of (kind_items before) relation ≡ Some found →
      relation_of (kind_items more) relation ≡ Some found
  relation_more relation found came =
      option_map_some (λ numbers. record { name = relation.name; kinds = numbers })
      (all_some (kind_number (kind_items before)) relation.kinds) found came
      (λ numbers here is. ap (option_map (λ numbers. record { name = relation.name; kinds = numbers }))
      (numbers_more relation.kinds numbers here) ∙ ap Some is)

  acts_more : (class : Class) → (fits : IsBuiltClass class) → (port : List ℕ) (acts : List Act) →
      acts_of (known_of before class) (body_for class.handlers port) ≡ Some acts →
      acts_of (known_of more class) (body_for class.handlers port) ≡ Some acts
  acts_more class fits port acts came =
      let body = body_for class.handlers port in
      let good : All (StmtFits fits.0) body =
      body_comes (All (StmtFits fits.0)) class.handlers port (All-nil (StmtFits fits.0))
      (each_weaker (HandlerFits fits.0) (λ (handler : Handler). All (StmtFits fits.0) handler.body) class.handlers
      (λ handler one. one.1)
      (recursion_from_All (HandlerFits fits.0) class.handlers fits.1.handlers)) in
      ap (λ known. acts_of known body) (known_more class)
      ∙ acts_front (known_of before class) (kind_items (item ∷ [])) fits.0 body acts good came

  pub class_more : (class : Class) (found : ClassPlan) → IsBuiltClass class → class_of before class ≡ Some found →
      class_of more class ≡ Some found
  class_more class found fits came =
      joined_some (λ relations handlers. record {
        ports = class.ports;
        relations = relations;
        handlers = handlers;
        queries = queries_of handlers;
      }) (all_some (relation_of (kind_items before)) class.relations)
      (handlers_of (known_of before class) class.handlers) found came
      (λ relations handlers one two is.
      let relations_more : all_some (relation_of (kind_items more)) class.relations ≡ Some relations =
      all_come (relation_of (kind_items more)) class.relations relations
      (zip_weaker (λ relation found. relation_of (kind_items before) relation ≡ Some found)
      (λ relation found. relation_of (kind_items more) relation ≡ Some found) class.relations relations
      relation_more (come_from (relation_of (kind_items before)) class.relations relations one)) in
      let handlers_more : handlers_of (known_of more class) class.handlers ≡ Some handlers =
      all_come (λ port. acts_of (known_of more class) (body_for class.handlers port)) class.ports handlers
      (zip_weaker (λ port acts. acts_of (known_of before class) (body_for class.handlers port) ≡ Some acts)
      (λ port acts. acts_of (known_of more class) (body_for class.handlers port) ≡ Some acts)
      class.ports handlers (acts_more class fits)
      (come_from
      (λ port. acts_of (known_of before class) (body_for class.handlers port)) class.ports handlers two)) in
      (λ i. joined (λ (relations : List RelationPlan) (handlers : List (List Act)). record {
        ports = class.ports;
        relations = relations;
        handlers = handlers;
        queries = queries_of handlers;
      }) (relations_more i) (handlers_more i))
      ∙ ap Some is)

  pub box_more : All IsBuiltItem more → (box : BoxItem) (count : ℕ) → cells_of_box before box ≡ Some count →
      cells_of_box more box ≡ Some count
  box_more built box count came =
      option_map_some box_cells (option_and_then (class_of before) (class_named before box.class)) count came
      (λ found of_class counted.
      option_and_then_some (class_of before) (class_named before box.class) found of_class
      (λ class named classed.
      let front = class_front more before (item ∷ []) box.class class refl named in
      let fits : IsBuiltClass class =
      each_at IsBuiltClass (class_items more) front.0 class
      (each_class more IsBuiltClass
      (λ before class after whole. built_at IsBuiltItem more before (OfClass class) after built whole)) front.2 in
      ap (λ o. option_map box_cells (option_and_then (class_of more) o)) front.3
      ∙ ap (option_map box_cells) (class_more class found fits classed)
      ∙ ap Some counted))

  -- and so are the cells, with an item more that is neither a field nor a host nor a box
  pub cells_more : All IsBuiltItem more → host_items (item ∷ []) ≡ [] → box_items (item ∷ []) ≡ [] → (count : ℕ) →
      cells_of before ≡ Some count → cells_of more ≡ Some count
  cells_more built no_host no_box count came =
      joined_some (λ sizes boxes. product sizes * (length (host_items before) + sum_by (λ cells. cells) boxes))
      (sizes_of before) (all_some (cells_of_box before) (box_items before)) count came
      (λ sizes boxes sized boxed is.
      let hosts : host_items more ≡ host_items before =
      hosts_more before item ∙ ap (λ list. host_items before ++ list) no_host ∙ append-nil (host_items before) in
      let same_boxes : box_items more ≡ box_items before =
      boxes_more before item ∙ ap (λ list. box_items before ++ list) no_box ∙ append-nil (box_items before) in
      let boxed_more : all_some (cells_of_box more) (box_items more) ≡ Some boxes =
      ap (all_some (cells_of_box more)) same_boxes
      ∙ all_come (cells_of_box more) (box_items before) boxes
      (zip_weaker (λ box count. cells_of_box before box ≡ Some count) (λ box count. cells_of_box more box ≡ Some count)
      (box_items before) boxes (box_more built)
      (come_from (cells_of_box before) (box_items before) boxes boxed)) in
      (λ i. joined (λ sizes boxes. product sizes * (length (hosts i) + sum_by (λ cells. cells) boxes))
      (sizes_front before item sizes no_field sized i) (boxed_more i))
      ∙ ap Some is)

-- there are few cells
abbrev HasFewCells : List Item → Type 0
HasFewCells items = (count : ℕ) → cells_of items ≡ Some count → count ≤ 4194304

-- before a field there is neither a host nor a box
pub no_nodes : (before : List Item) → list_any follows_fields before ≡ false →
    (host_items before ≡ []) × (box_items before ≡ [])
no_nodes [] early = (refl, refl)
no_nodes (Kind name values ∷ before) early = no_nodes before early
no_nodes (Field name kind ∷ before) early = no_nodes before early
no_nodes (_ ∷ before) early = absurd (both_ways true early refl)

none_few : (items : List Item) → host_items items ≡ [] → box_items items ≡ [] → HasFewCells items
none_few items no_host no_box count came =
    joined_some (λ sizes boxes. product sizes * (length (host_items items) + sum_by (λ cells. cells) boxes))
    (sizes_of items) (all_some (cells_of_box items) (box_items items)) count came
    (λ sizes boxes sized boxed is.
    let empty : [] ≡ boxes = same_Some [] boxes (ap (all_some (cells_of_box items)) (sym no_box) ∙ boxed) in
    let e : length (host_items items) + sum_by (λ cells. cells) boxes ≡ 0 =
    (λ i. length (no_host i) + sum_by (λ cells. cells) (sym empty i)) in
    let zero_cells : product sizes * (length (host_items items) + sum_by (λ cells. cells) boxes) ≡ 0 =
    ap (λ n. product sizes * n) e ∙ mul-zero (product sizes) in
    omega (arith, zero_cells, is))

field_few : (before : List Item) (name kind : List ℕ) → list_any follows_fields before ≡ false →
    HasFewCells (before ++ Field name kind ∷ [])
field_few before name kind early =
    let nodes = no_nodes before early in
    none_few (before ++ Field name kind ∷ [])
    (hosts_more before (Field name kind) ∙ append-nil (host_items before) ∙ nodes.0)
    (boxes_more before (Field name kind) ∙ append-nil (box_items before) ∙ nodes.1)

same_few : (before : List Item) (item : Item) → KeepsRules before → All IsBuiltItem (before ++ item ∷ []) →
    field_items (item ∷ []) ≡ [] → host_items (item ∷ []) ≡ [] → box_items (item ∷ []) ≡ [] →
    HasFewCells before → HasFewCells (before ++ item ∷ [])
same_few before item keeps built no_field no_host no_box few count came =
    let here = cells_come before keeps (all_front IsBuiltItem before (item ∷ []) built) in
    let same : here.0 ≡ count =
    same_Some here.0 count (sym (cells_more before item no_field built no_host no_box here.0 here.1) ∙ came) in
    omega (arith, same, few here.0 here.1)

cells_step : (before : List Item) (item : Item) → KeepsRules before → All IsBuiltItem (before ++ item ∷ []) →
    field_late before item ≡ false → too_many_cells before item ≡ false →
    HasFewCells before → HasFewCells (before ++ item ∷ [])
cells_step before (Field name kind) keeps built early kept few = field_few before name kind early
cells_step before (Host name) keeps built early kept few =
    λ count came. within 4194304 count
    (passes_not (nat_lt 4194304) (cells_of (before ++ Host name ∷ [])) count kept came)
cells_step before (Instance name class first) keeps built early kept few =
    λ count came. within 4194304 count
    (passes_not (nat_lt 4194304) (cells_of (before ++ Instance name class first ∷ [])) count kept came)
cells_step before _ keeps built early kept few = same_few before _ keeps built refl refl refl few

pub cells_few : (items : List Item) → KeepsRules items → All IsBuiltItem items → HasFewCells items
cells_few items keeps built =
    grows HasFewCells items (none_few [] refl refl)
    (λ before item after stands few.
    let front : All IsBuiltItem (before ++ item ∷ []) =
    all_front IsBuiltItem (before ++ item ∷ []) after
    (subst (All IsBuiltItem) (stands ∙ sym (append_assoc before (item ∷ []) after)) built) in
    cells_step before item (keeps_front items before (item ∷ after) stands keeps) front
    (keeps.each FieldLate before item after stands) (keeps.each TooManyCells before item after stands) few)
