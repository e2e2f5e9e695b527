-- The network that the items of a text spell: a plan, or nothing where a name stands for nothing.
use Rattle.std.specs.Prelude.{ℕ, ◌&&◌, Bool, false, List, [], ◌∷◌, Option, Some, None, nat_eq, map, fold}
use Rattle.std.specs.Prelude.{slice_get, slice_set}
use Rattle.std.specs.List.{filter, position_from}
use Rattle.std.specs.Option.{option_map, option_and_then}
use Rattle.header_set.specs.Pattern.{any_pattern}
use Rattle.amdl_tree.specs.declared.guard.Atom.{Atom}
use Rattle.amdl_tree.specs.declared.class.Class.{Class}
use Rattle.amdl_tree.specs.declared.class.Relation.{Relation}
use Rattle.amdl_tree.specs.declared.tree.Tree.{Tree}
use Rattle.amdl_tree.specs.declared.tree.Item.{Item}
use Rattle.amdl_tree.specs.declared.tree.Equal.{Equal}
use Rattle.amdl_tree.specs.declared.tree.End.{End}
use Rattle.amdl_tree.specs.declared.tree.End.TheVariants.{Host as AtHost, Port as AtPort}
use Rattle.amdl_tree.specs.Items.{KindItem, FieldItem, BoxItem, LinkItem, PatternItem, kind_items, field_items}
use Rattle.amdl_tree.specs.Items.{class_items, host_items, box_items, link_items, sends_items, forbid_items}
use Rattle.box_contents.specs.declared.entry.Entry.{Entry}
use Rattle.box_contents.specs.Contents.{with_entry}
use Rattle.box_handlers.specs.declared.act.Act.{Act}
use Rattle.box_handlers.specs.Queries.{queries_of}
use Rattle.box_handlers.specs.Tuple.{tuple_number}
use Rattle.net_plan.specs.declared.plan.Plan.{Plan}
use Rattle.net_plan.specs.declared.plan.KindPlan.{KindPlan}
use Rattle.net_plan.specs.declared.plan.FieldPlan.{FieldPlan}
use Rattle.net_plan.specs.declared.plan.ClassPlan.{ClassPlan}
use Rattle.net_plan.specs.declared.plan.RelationPlan.{RelationPlan}
use Rattle.net_plan.specs.declared.plan.HostPlan.{HostPlan}
use Rattle.net_plan.specs.declared.plan.BoxPlan.{BoxPlan}
use Rattle.net_plan.specs.declared.plan.LinkPlan.{LinkPlan}
use Rattle.net_plan.specs.declared.fact.Place.{Place}
use Rattle.net_plan.specs.declared.fact.Place.TheVariants.{Host, Port}
use Rattle.net_plan.specs.Ends.{places_of}
use Rattle.tree_plan.specs.Names.{same_name, number_of, joined, all_some, kind_number, values_named, value_in}
use Rattle.tree_plan.specs.Handlers.{Known, handlers_of}

-- types in their order, each with its values
abbrev pub kind_of : KindItem → KindPlan
kind_of kind = record { name = kind.name; values = kind.values }

-- a field with the number of its type
abbrev pub field_of : List KindItem → FieldItem → Option FieldPlan
field_of kinds field = option_map (λ kind. record { name = field.name; kind = kind }) (kind_number kinds field.kind)

abbrev pub field_names : List FieldItem → List (List ℕ)
field_names fields = map (λ field. field.name) fields

-- the number of a value among those of the type that the field of this number is declared with
abbrev pub value_of_field : List KindItem → List FieldItem → List ℕ → ℕ → Option ℕ
value_of_field kinds fields value k = option_and_then (λ field. value_in kinds field.kind value) (slice_get fields k)

-- an equation of a pattern: the number of its field, and the number of its value among those of the field's type
abbrev pub equation_of : List KindItem → List FieldItem → Equal → Option (ℕ × ℕ)
equation_of kinds fields equal =
    option_and_then (λ k. option_map (λ x. (k, x)) (value_of_field kinds fields equal.value k))
    (number_of (field_names fields) equal.field)

-- all fields free, but for those of the equations
abbrev pub with_equation : List (Option ℕ) → ℕ × ℕ → List (Option ℕ)
with_equation pattern equation = slice_set pattern equation.0 (Some equation.1)

abbrev pub pattern_of : List KindItem → List FieldItem → List Equal → Option (List (Option ℕ))
pattern_of kinds fields equals =
    option_map (fold with_equation any_pattern) (all_some (equation_of kinds fields) equals)

-- the patterns that the items of one form give a host, in their order
abbrev pub patterns_of : List KindItem → List FieldItem → List PatternItem → List ℕ → Option (List (List (Option ℕ)))
patterns_of kinds fields items host =
    all_some (λ item. pattern_of kinds fields item.pattern) (filter (λ item. same_name item.host host) items)

-- a host with what it sends and what it must not get
abbrev pub host_of : List KindItem → List FieldItem → List PatternItem → List PatternItem → List ℕ → Option HostPlan
host_of kinds fields sends forbids name =
    joined (λ sent forbidden. record { name = name; sends = sent; forbids = forbidden })
    (patterns_of kinds fields sends name) (patterns_of kinds fields forbids name)

-- a relation with the numbers of its argument types
abbrev pub relation_of : List KindItem → Relation → Option RelationPlan
relation_of kinds relation =
    option_map (λ numbers. record { name = relation.name; kinds = numbers })
    (all_some (kind_number kinds) relation.kinds)

abbrev pub relation_names : Class → List (List ℕ)
relation_names class = map (λ relation. relation.name) class.relations

-- what the handlers of a class may name, with the names of the fields
abbrev pub known_among : List KindItem → List (List ℕ) → Class → Known
known_among kinds fields class = record {
  kinds = kinds;
  fields = fields;
  relations = relation_names class;
  ports = class.ports;
}

abbrev pub known_of : List Item → Class → Known
known_of items class = known_among (kind_items items) (field_names (field_items items)) class

-- a class with these handlers, its ports and relations in their order, and the queries of the handlers
abbrev pub class_with : List KindItem → Class → Option (List (List Act)) → Option ClassPlan
class_with kinds class numbered =
    joined (λ relations handlers. record {
      ports = class.ports;
      relations = relations;
      handlers = handlers;
      queries = queries_of handlers;
    })
    (all_some (relation_of kinds) class.relations) numbered

abbrev pub class_by : List KindItem → List (List ℕ) → Class → Option ClassPlan
class_by kinds fields class = class_with kinds class (handlers_of (known_among kinds fields class) class.handlers)

abbrev pub class_of : List Item → Class → Option ClassPlan
class_of items class = class_by (kind_items items) (field_names (field_items items)) class

abbrev pub classes_of : List Item → Option (List ClassPlan)
classes_of items = all_some (class_of items) (class_items items)

-- the class of a name
abbrev pub class_number : List Class → List ℕ → Option ℕ
class_number classes name = number_of (map (λ class. class.name) classes) name

abbrev pub class_among : List Class → List ℕ → Option Class
class_among classes name = option_and_then (slice_get classes) (class_number classes name)

abbrev pub class_named : List Item → List ℕ → Option Class
class_named items name = class_among (class_items items) name

-- the numbers of values, each among those of the type beside it
abbrev pub values_of : List KindItem → List (List ℕ) → List (List ℕ) → Option (List ℕ)
values_of kinds [] [] = Some []
values_of kinds (kind ∷ others) (value ∷ values) =
    joined (λ x xs. x ∷ xs) (value_in kinds kind value) (values_of kinds others values)
values_of kinds _ _ = None

-- a tuple of a relation with these argument types
abbrev pub tuple_of_values : List KindItem → List (List ℕ) → List (List ℕ) → Option ℕ
tuple_of_values kinds arguments values =
    joined tuple_number (all_some (values_named kinds) arguments) (values_of kinds arguments values)

-- a tuple of the relation of a number
abbrev pub entry_with : List KindItem → Class → List (List ℕ) → ℕ → Option Entry
entry_with kinds class values number =
    option_and_then
    (λ relation. option_map (λ tuple. record { relation = number; tuple = tuple })
    (tuple_of_values kinds relation.kinds values))
    (slice_get class.relations number)

-- a tuple that a box of the class starts with
abbrev pub entry_of : List KindItem → Class → Atom → Option Entry
entry_of kinds class atom =
    option_and_then (entry_with kinds class atom.args) (number_of (relation_names class) atom.relation)

-- the first contents of a box: the tuples of its `with` list, rising and without repeats
abbrev pub contents_of : List KindItem → List Atom → Class → Option (List Entry)
contents_of kinds first class = option_map (fold with_entry []) (all_some (entry_of kinds class) first)

abbrev pub first_of : List KindItem → List Class → BoxItem → Option (List Entry)
first_of kinds classes box = option_and_then (contents_of kinds box.first) (class_among classes box.class)

abbrev pub box_of : List KindItem → List Class → BoxItem → Option BoxPlan
box_of kinds classes box =
    joined (λ class first. record { name = box.name; class = class; first = first })
    (class_number classes box.class) (first_of kinds classes box)

-- where an end is: at a host, or at a box and one of its ports
abbrev pub port_of : List Class → List ℕ → BoxItem → Option ℕ
port_of classes port box = option_and_then (λ class. number_of class.ports port) (class_among classes box.class)

abbrev pub box_number : List BoxItem → List ℕ → Option ℕ
box_number boxes name = number_of (map (λ box. box.name) boxes) name

abbrev pub port_place : List Class → List BoxItem → List ℕ → ℕ → Option Place
port_place classes boxes port number =
    option_map (Port number) (option_and_then (port_of classes port) (slice_get boxes number))

abbrev pub place_among : List Class → List (List ℕ) → List BoxItem → End → Option Place
place_among classes hosts boxes (AtHost host) = option_map Host (number_of hosts host)
place_among classes hosts boxes (AtPort box port) =
    option_and_then (port_place classes boxes port) (box_number boxes box)

abbrev pub place_of : List Item → End → Option Place
place_of items end = place_among (class_items items) (host_items items) (box_items items) end

-- two places are one
abbrev pub same_place : Place → Place → Bool
same_place (Host one) (Host two) = nat_eq one two
same_place (Port one port) (Port two other) = nat_eq one two && nat_eq port other
same_place _ _ = false

-- the number of a place among the places of the ends
abbrev pub end_at : List Place → Place → Option ℕ
end_at places place = position_from (same_place place) 0 places

-- the number of an end among the ends of the plan, given where each end is
abbrev pub end_by : (End → Option Place) → List Place → End → Option ℕ
end_by placed places end = option_and_then (end_at places) (placed end)

abbrev pub link_by : (End → Option Place) → List Place → LinkItem → Option LinkPlan
link_by placed places link =
    joined (λ one two. record { one = one; two = two }) (end_by placed places link.one) (end_by placed places link.two)

abbrev pub links_of : List Item → List Place → Option (List LinkPlan)
links_of items places = all_some (link_by (place_of items) places) (link_items items)

abbrev pub hosts_of : List Item → Option (List HostPlan)
hosts_of items =
    all_some (host_of (kind_items items) (field_items items) (sends_items items) (forbid_items items))
    (host_items items)

abbrev pub boxes_of : List Item → Option (List BoxPlan)
boxes_of items = all_some (box_of (kind_items items) (class_items items)) (box_items items)

abbrev pub fields_of : List Item → Option (List FieldPlan)
fields_of items = all_some (field_of (kind_items items)) (field_items items)

-- the plan but for its links, given its fields and classes, its hosts and boxes
abbrev pub unlinked : Tree → List FieldPlan × List ClassPlan → List HostPlan × List BoxPlan → Plan
unlinked tree seen nodes = record {
  name = tree.name;
  kinds = map kind_of (kind_items tree.items);
  fields = seen.0;
  classes = seen.1;
  hosts = nodes.0;
  boxes = nodes.1;
  links = [];
}

abbrev pub nodes_plan : Tree → Option (List ClassPlan) → Option Plan
nodes_plan tree numbered =
    joined (unlinked tree) (joined (λ fields classes. (fields, classes)) (fields_of tree.items) numbered)
    (joined (λ hosts boxes. (hosts, boxes)) (hosts_of tree.items) (boxes_of tree.items))

-- the plan with the links between its ends
abbrev pub net_with : Tree → Option (List ClassPlan) → Option Plan
net_with tree numbered =
    option_and_then
    (λ plan. option_map (λ links. record plan { links = links }) (links_of tree.items (places_of plan)))
    (nodes_plan tree numbered)

abbrev pub net : Tree → Option Plan
net tree = net_with tree (classes_of tree.items)
