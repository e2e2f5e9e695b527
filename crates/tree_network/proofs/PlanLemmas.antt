-- The plan of the tables of the code is that of the items.
use Rattle.std.proofs.Common.{◌≡◌, List, [], ◌∷◌, map, Option, Some, None, refl, sym, ap, ◌∙◌}
use Rattle.amdl_tree.specs.declared.tree.Tree.{Tree}
use Rattle.amdl_tree.specs.declared.tree.Item.{Item}
use Rattle.amdl_tree.specs.Items.{kind_items, field_items, link_items, sends_items, forbid_items}
use Rattle.net_plan.specs.declared.plan.Plan.{Plan}
use Rattle.net_plan.specs.declared.plan.KindPlan.{KindPlan}
use Rattle.net_plan.specs.declared.plan.FieldPlan.{FieldPlan}
use Rattle.net_plan.specs.declared.plan.ClassPlan.{ClassPlan}
use Rattle.net_plan.specs.declared.plan.HostPlan.{HostPlan}
use Rattle.net_plan.specs.declared.plan.BoxPlan.{BoxPlan}
use Rattle.net_plan.specs.declared.plan.LinkPlan.{LinkPlan}
use Rattle.net_plan.specs.declared.fact.Place.{Place}
use Rattle.tree_plan.specs.Names.{joined, all_some}
use Rattle.tree_plan.specs.Net.{kind_of, field_of, field_names, class_by, classes_of, host_of, box_of, place_among}
use Rattle.tree_plan.specs.Net.{link_by, links_of, nodes_plan}
use Rattle.tree_plan.specs.Tables.{kinds_back}
use Rattle.tree_network.specs.Reads.{fields_back, classes_back, boxes_back, links_back, placed_by, AreNodesOf}
use Rattle.tree_network.specs.declared.items.FieldItem.{FieldItem as ReadField}
use Rattle.tree_network.specs.declared.items.LinkItem.{LinkItem as ReadLink}
use Rattle.tree_network.specs.declared.nodes.Nodes.{Nodes}

pub links_by : (items : List Item) (nodes : Nodes) (places : List Place) (read : List ReadLink)
    (found : Option (List LinkPlan)) → AreNodesOf items nodes →
    links_back read ≡ link_items items → found ≡ all_some (link_by (placed_by nodes) places) (links_back read) →
    found ≡ links_of items places
links_by items nodes places read found are seen comes =
    comes
    ∙ (λ k. all_some (link_by (place_among (are.classes k) (are.hosts k) (are.boxes k)) places) (seen k))

-- types as plans have them
kinds_again : (kinds : List KindPlan) → map kind_of (kinds_back kinds) ≡ kinds
kinds_again [] = refl
kinds_again (kind ∷ kinds) = ap (λ others. kind ∷ others) (kinds_again kinds)

module _ (tree : Tree) (kinds : List KindPlan) (fields : List ReadField) (nodes : Nodes) where
  abbrev pub seen_by : Option (List FieldPlan × List ClassPlan)
  seen_by =
      joined (λ fields classes. (fields, classes)) (all_some (field_of (kinds_back kinds)) (fields_back fields))
      (all_some (class_by (kinds_back kinds) (field_names (fields_back fields))) (classes_back nodes.classes.now))

  abbrev pub placed_nodes : Option (List HostPlan × List BoxPlan)
  placed_nodes =
      joined (λ hosts boxes. (hosts, boxes))
      (all_some (host_of (kinds_back kinds) (fields_back fields) (sends_items tree.items) (forbid_items tree.items))
      nodes.hosts.now)
      (all_some (box_of (kinds_back kinds) (classes_back nodes.classes.now)) (boxes_back nodes.boxes.now))

  abbrev pub plan_with : List FieldPlan × List ClassPlan → List HostPlan × List BoxPlan → Plan
  plan_with seen placed = record {
    name = tree.name;
    kinds = kinds;
    fields = seen.0;
    classes = seen.1;
    hosts = placed.0;
    boxes = placed.1;
    links = [];
  }

  plan_same : kinds_back kinds ≡ kind_items tree.items → fields_back fields ≡ field_items tree.items →
      AreNodesOf tree.items nodes →
      joined plan_with seen_by placed_nodes ≡ nodes_plan tree (classes_of tree.items)
  plan_same same_kinds same_fields are =
      (λ k. joined (λ seen placed. record (plan_with seen placed) { kinds = sym (kinds_again kinds) k })
      seen_by placed_nodes)
      ∙ (λ k. joined (λ seen placed. record (plan_with seen placed) { kinds = map kind_of (same_kinds k) })
      (joined (λ fields classes. (fields, classes)) (all_some (field_of (same_kinds k)) (same_fields k))
      (all_some (class_by (same_kinds k) (field_names (same_fields k))) (are.classes k)))
      (joined (λ hosts boxes. (hosts, boxes))
      (all_some (host_of (same_kinds k) (same_fields k) (sends_items tree.items) (forbid_items tree.items))
      (are.hosts k))
      (all_some (box_of (same_kinds k) (are.classes k)) (are.boxes k))))

  pub seen_lost : kinds_back kinds ≡ kind_items tree.items → fields_back fields ≡ field_items tree.items →
      AreNodesOf tree.items nodes →
      None ≡ seen_by → None ≡ nodes_plan tree (classes_of tree.items)
  seen_lost same_kinds same_fields are lost =
      ap (λ seen. joined plan_with seen placed_nodes) lost ∙ plan_same same_kinds same_fields are

  pub nodes_lost : (seen : List FieldPlan × List ClassPlan) → kinds_back kinds ≡ kind_items tree.items →
      fields_back fields ≡ field_items tree.items → AreNodesOf tree.items nodes →
      Some seen ≡ seen_by → None ≡ placed_nodes → None ≡ nodes_plan tree (classes_of tree.items)
  nodes_lost seen same_kinds same_fields are came lost =
      (λ k. joined plan_with (came k) (lost k)) ∙ plan_same same_kinds same_fields are

  pub plan_made : (seen : List FieldPlan × List ClassPlan) (placed : List HostPlan × List BoxPlan) →
      kinds_back kinds ≡ kind_items tree.items → fields_back fields ≡ field_items tree.items →
      AreNodesOf tree.items nodes →
      Some seen ≡ seen_by → Some placed ≡ placed_nodes →
      Some (plan_with seen placed) ≡ nodes_plan tree (classes_of tree.items)
  plan_made seen placed same_kinds same_fields are came set =
      (λ k. joined plan_with (came k) (set k)) ∙ plan_same same_kinds same_fields are
