-- The items of a tree by their form: each view shows the parts of an item of its form, and no other item.
use Rattle.std.specs.Prelude.{ℕ, List, Option, Some, None}
use Rattle.std.specs.List.{filter_map}
use Rattle.amdl_tree.specs.declared.guard.Atom.{Atom}
use Rattle.amdl_tree.specs.declared.class.Class.{Class}
use Rattle.amdl_tree.specs.declared.tree.End.{End}
use Rattle.amdl_tree.specs.declared.tree.Equal.{Equal}
use Rattle.amdl_tree.specs.declared.tree.Item.{Item}
use Rattle.amdl_tree.specs.declared.tree.Item.TheVariants.{Kind, Field, Class as OfClass, Host, Instance, Link, Sends}
use Rattle.amdl_tree.specs.declared.tree.Item.TheVariants.{Forbid}

-- a type with its values
pub record KindItem : Type 0 where
  pub name : List ℕ
  pub values : List (List ℕ)

-- a field with its type
pub record FieldItem : Type 0 where
  pub name : List ℕ
  pub kind : List ℕ

-- a box with its class and its first tuples
pub record BoxItem : Type 0 where
  pub name : List ℕ
  pub class : List ℕ
  pub first : List Atom

-- a link with its two ends
pub record LinkItem : Type 0 where
  pub one : End
  pub two : End

-- what a host sends, or must not get
pub record PatternItem : Type 0 where
  pub host : List ℕ
  pub pattern : List Equal

abbrev pub kind_item : Item → Option KindItem
kind_item (Kind name values) = Some (record { name = name; values = values })
kind_item _ = None

abbrev pub field_item : Item → Option FieldItem
field_item (Field name kind) = Some (record { name = name; kind = kind })
field_item _ = None

abbrev pub class_item : Item → Option Class
class_item (OfClass class) = Some class
class_item _ = None

abbrev pub host_item : Item → Option (List ℕ)
host_item (Host name) = Some name
host_item _ = None

abbrev pub box_item : Item → Option BoxItem
box_item (Instance name class first) = Some (record { name = name; class = class; first = first })
box_item _ = None

abbrev pub link_item : Item → Option LinkItem
link_item (Link one two) = Some (record { one = one; two = two })
link_item _ = None

abbrev pub sends_item : Item → Option PatternItem
sends_item (Sends host pattern) = Some (record { host = host; pattern = pattern })
sends_item _ = None

abbrev pub forbid_item : Item → Option PatternItem
forbid_item (Forbid host pattern) = Some (record { host = host; pattern = pattern })
forbid_item _ = None

-- the items of one form, in their order
abbrev pub kind_items : List Item → List KindItem
kind_items items = filter_map kind_item items

abbrev pub field_items : List Item → List FieldItem
field_items items = filter_map field_item items

abbrev pub class_items : List Item → List Class
class_items items = filter_map class_item items

abbrev pub host_items : List Item → List (List ℕ)
host_items items = filter_map host_item items

abbrev pub box_items : List Item → List BoxItem
box_items items = filter_map box_item items

abbrev pub link_items : List Item → List LinkItem
link_items items = filter_map link_item items

abbrev pub sends_items : List Item → List PatternItem
sends_items items = filter_map sends_item items

abbrev pub forbid_items : List Item → List PatternItem
forbid_items items = filter_map forbid_item items
