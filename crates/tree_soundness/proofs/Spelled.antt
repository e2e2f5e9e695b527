-- The parts of a plan that items spell.
use Rattle.std.proofs.Common.{
  ◌≡◌,
  ℕ,
  ◌+◌,
  List,
  [],
  ◌∷◌,
  ◌++◌,
  length,
  map,
  fold,
  Option,
  Some,
  option_map,
  option_and_then,
  slice_get,
  slice_index_or,
  refl,
  sym,
  ap,
  subst,
  ◌∙◌,
}
use Rattle.std.specs.List.{range_with_len}
use Rattle.std.proofs.lemmas.Option.{option_and_then_some, get_or_from_slice_get}
use Rattle.amdl_tree.specs.declared.class.Class.{Class}
use Rattle.amdl_tree.specs.declared.class.Relation.{Relation}
use Rattle.amdl_tree.specs.declared.tree.Item.{Item}
use Rattle.amdl_tree.specs.declared.tree.Tree.{Tree}
use Rattle.amdl_tree.specs.Items.{
  FieldItem,
  BoxItem,
  kind_items,
  field_items,
  class_items,
  host_items,
  box_items,
  link_items,
  sends_items,
  forbid_items,
}
use Rattle.box_contents.specs.declared.entry.Entry.{Entry}
use Rattle.box_contents.specs.Contents.{with_entry}
use Rattle.box_handlers.specs.Queries.{queries_of}
use Rattle.net_plan.specs.declared.plan.Plan.{Plan}
use Rattle.net_plan.specs.declared.plan.FieldPlan.{FieldPlan}
use Rattle.net_plan.specs.declared.plan.ClassPlan.{ClassPlan}
use Rattle.net_plan.specs.declared.plan.RelationPlan.{RelationPlan}
use Rattle.net_plan.specs.declared.plan.HostPlan.{HostPlan}
use Rattle.net_plan.specs.declared.plan.BoxPlan.{BoxPlan}
use Rattle.net_plan.specs.Plan as plan
use Rattle.net_plan.specs.declared.plan.LinkPlan.{LinkPlan}
use Rattle.net_plan.specs.declared.fact.Place.TheVariants.{Port}
use Rattle.net_plan.specs.Ends.{host_places, port_places, places_of}
use Rattle.tree_plan.specs.Names.{joined, all_some, kind_number}
use Rattle.tree_plan.specs.Handlers.{handlers_of}
use Rattle.tree_plan.specs.Net.{
  kind_of,
  field_of,
  relation_of,
  known_of,
  class_of,
  patterns_of,
  class_named,
  unlinked,
  nodes_plan,
  classes_of,
  net,
}
use Rattle.tree_soundness.proofs.Parts.{host_from, class_number_from, entry_from, first_from, box_from, link_from}
use Rattle.tree_soundness.proofs.Lists.{joined_some, option_map_some, come_from, zip_get}

-- the parts of the plan but for its links
pub record HasParts (items : List Item) (plan : Plan) : Type 0 where
  pub kinds : plan.kinds ≡ map kind_of (kind_items items)
  pub fields : all_some (field_of (kind_items items)) (field_items items) ≡ Some plan.fields
  pub classes : all_some (class_of items) (class_items items) ≡ Some plan.classes
  pub hosts : all_some (host_from items) (host_items items) ≡ Some plan.hosts
  pub boxes : all_some (box_from items) (box_items items) ≡ Some plan.boxes

-- and its links
pub record IsSpelled (tree : Tree) (plan : Plan) : Type 0 where
  pub name : plan.name ≡ tree.name
  pub parts : HasParts tree.items plan
  pub links : all_some (link_from tree.items (places_of plan)) (link_items tree.items) ≡ Some plan.links

-- the parts of a class
pub record IsClassOf (items : List Item) (class : Class) (found : ClassPlan) : Type 0 where
  pub ports : found.ports ≡ class.ports
  pub relations : all_some (relation_of (kind_items items)) class.relations ≡ Some found.relations
  pub handlers : handlers_of (known_of items class) class.handlers ≡ Some found.handlers
  pub queries : found.queries ≡ queries_of found.handlers

pub class_parts : (items : List Item) (class : Class) (found : ClassPlan) → class_of items class ≡ Some found →
    IsClassOf items class found
class_parts items class found came =
    joined_some (λ relations handlers. record {
      ports = class.ports;
      relations = relations;
      handlers = handlers;
      queries = queries_of handlers;
    }) (all_some (relation_of (kind_items items)) class.relations)
    (handlers_of (known_of items class) class.handlers) found came
    (λ relations handlers one two is. subst (IsClassOf items class) is
    (record { ports = refl; relations = one; handlers = two; queries = refl }))

-- a relation has the name and the types that it is declared with
pub record IsRelationOf (items : List Item) (relation : Relation) (found : RelationPlan) : Type 0 where
  pub name : found.name ≡ relation.name
  pub kinds : all_some (kind_number (kind_items items)) relation.kinds ≡ Some found.kinds

pub relation_parts : (items : List Item) (relation : Relation) (found : RelationPlan) →
    relation_of (kind_items items) relation ≡ Some found → IsRelationOf items relation found
relation_parts items relation found came =
    option_map_some (λ numbers. record { name = relation.name; kinds = numbers })
    (all_some (kind_number (kind_items items)) relation.kinds) found came
    (λ numbers one is. subst (IsRelationOf items relation) is (record { name = refl; kinds = one }))

pub record IsFieldOf (items : List Item) (field : FieldItem) (found : FieldPlan) : Type 0 where
  pub name : found.name ≡ field.name
  pub kind : kind_number (kind_items items) field.kind ≡ Some found.kind

pub field_parts : (items : List Item) (field : FieldItem) (found : FieldPlan) →
    field_of (kind_items items) field ≡ Some found → IsFieldOf items field found
field_parts items field found came =
    option_map_some (λ kind. record { name = field.name; kind = kind })
    (kind_number (kind_items items) field.kind) found came
    (λ kind one is. subst (IsFieldOf items field) is (record { name = refl; kind = one }))

pub record IsHostOf (items : List Item) (name : List ℕ) (found : HostPlan) : Type 0 where
  pub name_is : found.name ≡ name
  pub sends_are : patterns_of (kind_items items) (field_items items) (sends_items items) name ≡ Some found.sends
  pub forbids_are : patterns_of (kind_items items) (field_items items) (forbid_items items) name ≡ Some found.forbids

pub host_parts : (items : List Item) (name : List ℕ) (found : HostPlan) → host_from items name ≡ Some found →
    IsHostOf items name found
host_parts items name found came =
    joined_some (λ sends forbids. record { name = name; sends = sends; forbids = forbids })
    (patterns_of (kind_items items) (field_items items) (sends_items items) name)
    (patterns_of (kind_items items) (field_items items) (forbid_items items) name) found came
    (λ sends forbids one two is. subst (IsHostOf items name) is
    (record { name_is = refl; sends_are = one; forbids_are = two }))

pub record IsBoxOf (items : List Item) (box : BoxItem) (found : BoxPlan) : Type 0 where
  pub name : found.name ≡ box.name
  pub number : class_number_from items box.class ≡ Some found.class
  pub of_class : Class
  pub at : slice_get (class_items items) found.class ≡ Some of_class
  pub named : class_named items box.class ≡ Some of_class
  pub entries : List Entry
  pub entries_are : all_some (entry_from items of_class) box.first ≡ Some entries
  pub first_is : found.first ≡ fold with_entry [] entries

pub box_parts : (items : List Item) (box : BoxItem) (found : BoxPlan) → box_from items box ≡ Some found →
    IsBoxOf items box found
box_parts items box found came =
    joined_some (λ class first. record { name = box.name; class = class; first = first })
    (class_number_from items box.class)
    (first_from items box) found came
    (λ class first one two is.
    option_and_then_some (λ class. option_map (fold with_entry []) (all_some (entry_from items class) box.first))
    (class_named items box.class) first two
    (λ of_class named mapped.
    option_map_some (fold with_entry []) (all_some (entry_from items of_class) box.first) first mapped
    (λ entries entries_are first_is.
    subst (IsBoxOf items box) is (record {
      name = refl;
      number = one;
      of_class = of_class;
      at = sym (ap (option_and_then (slice_get (class_items items))) one) ∙ named;
      named = named;
      entries = entries;
      entries_are = entries_are;
      first_is = sym first_is;
    }))))

module _ (items : List Item) (spelled : Plan) (parts : HasParts items spelled) where
  -- the class of a box in the plan
  pub record IsClassAt (class : Class) (number : ℕ) : Type 0 where
    pub found : ClassPlan
    pub stands : slice_get spelled.classes number ≡ Some found
    pub comes : class_of items class ≡ Some found
    pub is : plan.class_at spelled number ≡ found

  pub class_at : (class : Class) (number : ℕ) → slice_get (class_items items) number ≡ Some class →
      IsClassAt class number
  class_at class number at =
      let found =
      zip_get (λ class found. class_of items class ≡ Some found) (class_items items) spelled.classes number class
      (come_from (class_of items) (class_items items) spelled.classes parts.classes) at in
      record {
        found = found.0;
        stands = found.1;
        comes = found.2;
        is = get_or_from_slice_get spelled.classes number found.0
            (record { ports = []; relations = []; handlers = []; queries = [] }) found.1;
      }

  pub box_class : (box : BoxItem) (found : BoxPlan) (of : IsBoxOf items box found) → IsClassAt of.of_class found.class
  box_class box found of = class_at of.of_class found.class of.at

-- the places of ports are settled by the classes
same_ports : (one two : Plan) → one.classes ≡ two.classes → (number : ℕ) (boxes : List BoxPlan) →
    port_places one number boxes ≡ port_places two number boxes
same_ports one two classes number [] = refl
same_ports one two classes number (box ∷ boxes) =
    λ i. map (Port number)
    (range_with_len 0
    (length
    (slice_index_or (classes i) box.class
    (record { ports = []; relations = []; handlers = []; queries = [] })).ports))
    ++ same_ports one two classes (number + 1) boxes i

-- the network of a tree whose parts all come to something
module _ (tree : Tree) (fields : List FieldPlan) (classes : List ClassPlan) (hosts : List HostPlan)
    (boxes : List BoxPlan)
    (fields_are : all_some (field_of (kind_items tree.items)) (field_items tree.items) ≡ Some fields)
    (classes_are : all_some (class_of tree.items) (class_items tree.items) ≡ Some classes)
    (hosts_are : all_some (host_from tree.items) (host_items tree.items) ≡ Some hosts)
    (boxes_are : all_some (box_from tree.items) (box_items tree.items) ≡ Some boxes) where
  abbrev pub nodes : Plan
  nodes = unlinked tree (fields, classes) (hosts, boxes)

  pub nodes_parts : HasParts tree.items nodes
  nodes_parts =
      record { kinds = refl; fields = fields_are; classes = classes_are; hosts = hosts_are; boxes = boxes_are }

  nodes_come : nodes_plan tree (classes_of tree.items) ≡ Some nodes
  nodes_come = λ i.
      joined (unlinked tree) (joined (λ fields classes. (fields, classes)) (fields_are i) (classes_are i))
      (joined (λ hosts boxes. (hosts, boxes)) (hosts_are i) (boxes_are i))

  abbrev pub linked : List LinkPlan → Plan
  linked links = record nodes { links = links }

  abbrev with_links : Plan → Option Plan
  with_links plan =
      option_map (λ links. record plan { links = links })
      (all_some (link_from tree.items (places_of plan)) (link_items tree.items))

  pub net_made : (links : List LinkPlan) →
      all_some (link_from tree.items (places_of nodes)) (link_items tree.items) ≡ Some links →
      net tree ≡ Some (linked links)
  net_made links links_are =
      ap (option_and_then with_links) nodes_come ∙ ap (option_map (λ links. record nodes { links = links })) links_are

  places_same : (links : List LinkPlan) → places_of nodes ≡ places_of (linked links)
  places_same links = ap (λ places. host_places nodes ++ places) (same_ports nodes (linked links) refl 0 boxes)

  pub spelled_made : (links : List LinkPlan) →
      all_some (link_from tree.items (places_of nodes)) (link_items tree.items) ≡ Some links →
      IsSpelled tree (linked links)
  spelled_made links links_are = record {
    name = refl;
    parts = record { kinds = refl; fields = fields_are; classes = classes_are; hosts = hosts_are; boxes = boxes_are };
    links = subst (λ places. all_some (link_from tree.items places) (link_items tree.items) ≡ Some links)
        (places_same links) links_are;
  }
