-- The network of well-formed items is there, and it is sound.
use Rattle.std.proofs.Common.{◌≡◌, List, length, Some, ap, ◌∙◌, arith}
use Rattle.std.specs.List.{All}
use Rattle.std.proofs.lemmas.List.{length-map}
use Rattle.std.proofs.lemmas.List.Elements.{All-from_recursion}
use Rattle.amdl_tree.specs.declared.class.Class.{Class}
use Rattle.amdl_tree.specs.declared.tree.Item.{Item}
use Rattle.amdl_tree.specs.declared.tree.Item.TheVariants.{Class as OfClass}
use Rattle.amdl_tree.specs.declared.tree.Tree.{Tree}
use Rattle.amdl_tree.specs.Items.{kind_items, class_items, box_items}
use Rattle.amdl_tree.specs.WellBuilt.{IsWellBuilt}
use Rattle.box_contents.specs.Laws.{WithKeepsRising}
use Rattle.net_plan.specs.declared.plan.Plan.{Plan}
use Rattle.net_plan.specs.declared.plan.ClassPlan.{ClassPlan}
use Rattle.net_plan.specs.Cells as cells
use Rattle.net_plan.specs.Sound.{IsClass, IsSmallClass, IsHandled, HasLimits, IsSound}
use Rattle.tree_plan.specs.Net.{kind_of, class_of, net}
use Rattle.tree_rules.specs.Checked.{IsWellFormed}
use Rattle.tree_soundness.specs.Laws.{WellFormedIsSound}
use Rattle.tree_soundness.proofs.Parts.{box_from}
use Rattle.tree_soundness.proofs.Prefixes.{KeepsRules, keeps_rules}
use Rattle.tree_soundness.proofs.Lists.{come_from, zip_each, zip_length}
use Rattle.tree_soundness.proofs.Existence.{fields_come, classes_come}
use Rattle.tree_soundness.proofs.Nodes.{hosts_come, boxes_come}
use Rattle.tree_soundness.proofs.Linking.{hosts_counted, links_come}
use Rattle.tree_soundness.proofs.Spelled.{HasParts, IsSpelled, nodes, nodes_parts, linked, net_made, spelled_made}
use Rattle.tree_soundness.proofs.Counts.{kinds_few, classes_few, hosts_few, boxes_few}
use Rattle.tree_soundness.proofs.HeaderSizes.{has_headers}
use Rattle.tree_soundness.proofs.NamesApart.{has_names_apart}
use Rattle.tree_soundness.proofs.Classes.{Stands, classes_stand, class_is, small_class}
use Rattle.tree_soundness.proofs.HandlerSizes.{class_handled}
use Rattle.tree_soundness.proofs.Boxes.{boxes_are, boxes_small}
use Rattle.tree_soundness.proofs.Wiring.{
  hosts_are,
  links_are_in_range,
  linked_apart,
  sends_within,
  forbids_within,
}
use Rattle.tree_soundness.proofs.CellCounts.{cells_are, cells_few}

module _ (rises : WithKeepsRising) (tree : Tree) (built : IsWellBuilt tree) (formed : IsWellFormed tree.items) where
  abbrev items : List Item
  items = tree.items

  keeps : KeepsRules items
  keeps = keeps_rules items formed

  module _ (spelled : Plan) (is : IsSpelled tree spelled) where
    abbrev parts : HasParts items spelled
    parts = is.parts

    -- what holds of each class of the text holds of each of the plan
    each_class_of : (P : ClassPlan → Type 0) →
        ((class : Class) → Stands items (OfClass class) → (found : ClassPlan) → class_of items class ≡ Some found →
        P found) → All P spelled.classes
    each_class_of P known =
        All-from_recursion P spelled.classes
        (zip_each (λ class found. class_of items class ≡ Some found) (λ class. Stands items (OfClass class)) P
        (class_items items) spelled.classes
        (λ class found at came. known class at found came)
        (come_from (class_of items) (class_items items) spelled.classes parts.classes) (classes_stand items))

    limits : HasLimits spelled
    limits = record {
      kinds =
          let counted : length spelled.kinds ≡ length (kind_items items) =
          ap length parts.kinds ∙ length-map (kind_items items) kind_of in
          omega (arith, counted, kinds_few items keeps);
      classes =
          let counted =
          zip_length (λ class found. class_of items class ≡ Some found) (class_items items) spelled.classes
          (come_from (class_of items) (class_items items) spelled.classes parts.classes) in
          omega (arith, counted, classes_few items keeps);
      class = each_class_of (IsSmallClass spelled) (small_class items keeps built.items spelled parts);
      hosts = omega (arith, hosts_counted items spelled parts, hosts_few items keeps);
      boxes =
          let counted =
          zip_length (λ box found. box_from items box ≡ Some found) (box_items items) spelled.boxes
          (come_from (box_from items) (box_items items) spelled.boxes parts.boxes) in
          omega (arith, counted, boxes_few items keeps);
      box = boxes_small items keeps built.items spelled parts;
      sends = sends_within items keeps built.items spelled parts;
      forbids = forbids_within items keeps built.items spelled parts;
      cells = cells_few items keeps built.items (cells.cells_of spelled)
          (cells_are items keeps built.items spelled parts);
    }

    pub spelled_is_sound : IsSound spelled
    spelled_is_sound = record {
      headers = has_headers items keeps built.items spelled parts formed.some_field;
      names = has_names_apart tree spelled is keeps built.named;
      classes = record {
        classes = each_class_of (IsClass spelled) (class_is items keeps built.items spelled parts);
        boxes = boxes_are items keeps built.items spelled parts rises;
      };
      wiring = record {
        hosts = hosts_are items keeps built.items spelled parts;
        links = links_are_in_range items spelled is.links;
        ends_apart = linked_apart items spelled is.links keeps;
      };
      limits = limits;
      handlers = each_class_of (IsHandled spelled) (class_handled items keeps built.items spelled parts);
    }

  pub net_is_sound : (plan : Plan) × (net tree ≡ Some plan) × IsSound plan
  net_is_sound =
      let fields = fields_come items keeps in
      let classes = classes_come items keeps built.items in
      let hosts = hosts_come items keeps in
      let boxes = boxes_come items keeps built.items in
      let plan : Plan = nodes tree fields.0 classes.0 hosts.0 boxes.0 fields.1 classes.1 hosts.1 boxes.1 in
      let parts : HasParts items plan =
      nodes_parts tree fields.0 classes.0 hosts.0 boxes.0 fields.1 classes.1 hosts.1 boxes.1 in
      let links = links_come items plan parts keeps in
      let whole : Plan = linked tree fields.0 classes.0 hosts.0 boxes.0 fields.1 classes.1 hosts.1 boxes.1 links.0 in
      let is : IsSpelled tree whole =
      spelled_made tree fields.0 classes.0 hosts.0 boxes.0 fields.1 classes.1 hosts.1 boxes.1 links.0 links.1 in (
        whole,
        net_made tree fields.0 classes.0 hosts.0 boxes.0 fields.1 classes.1 hosts.1 boxes.1 links.0 links.1,
        spelled_is_sound whole is,
      )

pub all_sound : WithKeepsRising → WellFormedIsSound
all_sound rises = λ tree built formed. net_is_sound rises tree built formed
