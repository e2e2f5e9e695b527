-- What the code reads of the items, as what it stands for.
use Rattle.std.specs.Prelude.{◌≡◌, List, map, Option}
use Rattle.std.specs.Borrow.{Bor}
use Rattle.amdl_tree.specs.Items.{KindItem, FieldItem, BoxItem, LinkItem, PatternItem}
use Rattle.amdl_tree.specs.Items.{class_items, host_items, box_items}
use Rattle.amdl_tree.specs.declared.tree.Item.{Item}
use Rattle.amdl_tree.specs.declared.tree.End.{End}
use Rattle.amdl_tree.specs.declared.class.Class.{Class}
use Rattle.net_plan.specs.declared.fact.Place.{Place}
use Rattle.tree_plan.specs.Net.{place_among}
use Rattle.tree_network.specs.declared.nodes.Nodes.{Nodes}
use Rattle.tree_network.specs.declared.items.KindItem.{KindItem as ReadKind}
use Rattle.tree_network.specs.declared.items.FieldItem.{FieldItem as ReadField}
use Rattle.tree_network.specs.declared.items.BoxItem.{BoxItem as ReadBox}
use Rattle.tree_network.specs.declared.items.LinkItem.{LinkItem as ReadLink}
use Rattle.tree_network.specs.declared.items.PatternItem.{PatternItem as ReadPattern}

-- what the code reads of an item, as a text declares it
abbrev pub read_kind : ReadKind → KindItem
read_kind kind = record { name = kind.name; values = kind.values.now }

abbrev pub field_back : ReadField → FieldItem
field_back field = record { name = field.name; kind = field.kind }

abbrev pub field_lent : Bor ReadField → FieldItem
field_lent field = field_back field.now

abbrev pub fields_back : List ReadField → List FieldItem
fields_back fields = map field_back fields

abbrev pub class_back : Bor Class → Class
class_back class = class.now

abbrev pub classes_back : List (Bor Class) → List Class
classes_back classes = map class_back classes

abbrev pub box_back : ReadBox → BoxItem
box_back box = record { name = box.name; class = box.class; first = box.first.now }

abbrev pub boxes_back : List ReadBox → List BoxItem
boxes_back boxes = map box_back boxes

abbrev pub link_back : ReadLink → LinkItem
link_back link = record { one = link.one; two = link.two }

abbrev pub links_back : List ReadLink → List LinkItem
links_back links = map link_back links

abbrev pub pattern_back : ReadPattern → PatternItem
pattern_back pattern = record { host = pattern.host; pattern = pattern.pattern.now }

abbrev pub patterns_back : List ReadPattern → List PatternItem
patterns_back patterns = map pattern_back patterns

-- where an end is, by the tables of the nodes
abbrev pub placed_by : Nodes → End → Option Place
placed_by nodes end = place_among (classes_back nodes.classes.now) nodes.hosts.now (boxes_back nodes.boxes.now) end

-- the tables are those of the nodes of the items
pub record AreNodesOf (items : List Item) (nodes : Nodes) : Type 0 where
  pub classes : classes_back nodes.classes.now ≡ class_items items
  pub hosts : nodes.hosts.now ≡ host_items items
  pub boxes : boxes_back nodes.boxes.now ≡ box_items items
