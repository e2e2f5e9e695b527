-- What each part of a text comes to, by its items.
use Rattle.std.proofs.Common.{ℕ, List, Option}
use Rattle.amdl_tree.specs.declared.guard.Atom.{Atom}
use Rattle.amdl_tree.specs.declared.class.Class.{Class}
use Rattle.amdl_tree.specs.declared.tree.End.{End}
use Rattle.amdl_tree.specs.declared.tree.Item.{Item}
use Rattle.amdl_tree.specs.Items.{
  BoxItem,
  LinkItem,
  kind_items,
  field_items,
  class_items,
  box_items,
  sends_items,
  forbid_items,
}
use Rattle.box_contents.specs.declared.entry.Entry.{Entry}
use Rattle.net_plan.specs.declared.plan.HostPlan.{HostPlan}
use Rattle.net_plan.specs.declared.plan.BoxPlan.{BoxPlan}
use Rattle.net_plan.specs.declared.plan.LinkPlan.{LinkPlan}
use Rattle.net_plan.specs.declared.fact.Place.{Place}
use Rattle.tree_plan.specs.Net.{
  host_of,
  class_number,
  entry_of,
  first_of,
  box_of,
  port_of,
  box_number,
  place_of,
  end_by,
  link_by,
}

abbrev pub host_from : List Item → List ℕ → Option HostPlan
host_from items = host_of (kind_items items) (field_items items) (sends_items items) (forbid_items items)

abbrev pub class_number_from : List Item → List ℕ → Option ℕ
class_number_from items = class_number (class_items items)

abbrev pub entry_from : List Item → Class → Atom → Option Entry
entry_from items = entry_of (kind_items items)

abbrev pub first_from : List Item → BoxItem → Option (List Entry)
first_from items = first_of (kind_items items) (class_items items)

abbrev pub box_from : List Item → BoxItem → Option BoxPlan
box_from items = box_of (kind_items items) (class_items items)

abbrev pub port_from : List Item → List ℕ → BoxItem → Option ℕ
port_from items = port_of (class_items items)

abbrev pub box_number_from : List Item → List ℕ → Option ℕ
box_number_from items = box_number (box_items items)

abbrev pub end_from : List Item → List Place → End → Option ℕ
end_from items = end_by (place_of items)

abbrev pub link_from : List Item → List Place → LinkItem → Option LinkPlan
link_from items = link_by (place_of items)
