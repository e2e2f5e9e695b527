-- The counts by which the cells of a text are told while its items are gone through in their order.
use Rattle.std.specs.Prelude.{◌≡◌, ℕ, ◌+◌, ◌*◌, ◌≤◌, false, nat_lt, List, [], ◌∷◌, ◌++◌, Option, Some, None, length}
use Rattle.std.specs.Prelude.{sum_by}
use Rattle.std.specs.Prelude.{slice_get}
use Rattle.std.specs.List.{All, position}
use Rattle.std.specs.Option.{option_map, option_and_then}
use Rattle.header_set.specs.Headers.{product}
use Rattle.amdl_tree.specs.declared.class.Class.{Class}
use Rattle.amdl_tree.specs.declared.guard.Atom.{Atom}
use Rattle.amdl_tree.specs.declared.tree.Item.{Item}
use Rattle.amdl_tree.specs.declared.tree.Item.TheVariants.{Field, Class as OfClass, Host, Instance}
use Rattle.amdl_tree.specs.Items.{kind_items, field_items, class_items, host_items, box_items}
use Rattle.amdl_tree.specs.WellBuilt.{IsBuiltItem}
use Rattle.net_plan.specs.declared.plan.ClassPlan.{ClassPlan}
use Rattle.tree_plan.specs.Names.{same_name, all_some, values_named}
use Rattle.tree_plan.specs.Net.{class_of, class_named}
use Rattle.tree_rules.specs.Spaces.{class_names}
use Rattle.tree_rules.specs.Rules.{sizes_of, box_cells, cells_of_box, name_unknown, field_late, too_many_cells}
use Rattle.tree_rules.specs.Checked.{KeepsEach}

-- how many cells a box of the class has for each packet
abbrev pub cells_of_class : List Item → Class → Option ℕ
cells_of_class items class = option_map box_cells (class_of items class)

-- the hosts, and the cells that all boxes have for each packet
abbrev pub cells_of_nodes : List Item → Option ℕ
cells_of_nodes items =
    option_map (λ boxes. length (host_items items) + sum_by (λ cells. cells) boxes)
    (all_some (cells_of_box items) (box_items items))

-- the packets, the cells of all nodes for each packet, and those of a box of each class
pub record AreCounts (items : List Item) (packets nodes : ℕ) (cells : List ℕ) : Type 0 where
  pub packets_are : option_map product (sizes_of items) ≡ Some packets
  pub nodes_are : cells_of_nodes items ≡ Some nodes
  pub cells_are : all_some (cells_of_class items) (class_items items) ≡ Some cells

-- the item declares neither a field nor a class nor a node
pub record AddsNothing (item : Item) : Type 0 where
  pub no_field : field_items (item ∷ []) ≡ []
  pub no_class : class_items (item ∷ []) ≡ []
  pub no_host : host_items (item ∷ []) ≡ []
  pub no_box : box_items (item ∷ []) ≡ []

-- how the counts go on with an item more
pub record CellsAreCounted : Type 0 where
  pub begun : AreCounts [] 1 0 []
  pub stay : (before : List Item) (item : Item) (packets nodes : ℕ) (cells : List ℕ) → AddsNothing item →
      All IsBuiltItem (before ++ item ∷ []) → AreCounts before packets nodes cells →
      AreCounts (before ++ item ∷ []) packets nodes cells
  pub field : (before : List Item) (name kind : List ℕ) (packets nodes size : ℕ) (cells : List ℕ) →
      field_late before (Field name kind) ≡ false → values_named (kind_items before) kind ≡ Some size →
      AreCounts before packets nodes cells → AreCounts (before ++ Field name kind ∷ []) (packets * size) nodes cells
  pub class : (before : List Item) (class : Class) (packets nodes count : ℕ) (cells : List ℕ) →
      All IsBuiltItem (before ++ OfClass class ∷ []) → cells_of_class before class ≡ Some count →
      AreCounts before packets nodes cells →
      AreCounts (before ++ OfClass class ∷ []) packets nodes (cells ++ count ∷ [])
  pub host : (before : List Item) (name : List ℕ) (packets nodes : ℕ) (cells : List ℕ) →
      AreCounts before packets nodes cells → AreCounts (before ++ Host name ∷ []) packets (nodes + 1) cells
  pub box : (before : List Item) (name class : List ℕ) (first : List Atom) (packets nodes count : ℕ)
      (cells : List ℕ) → option_and_then (cells_of_class before) (class_named before class) ≡ Some count →
      AreCounts before packets nodes cells →
      AreCounts (before ++ Instance name class first ∷ []) packets (nodes + count) cells

-- what is looked up among them, and what is told from them
pub record CellsAreTold : Type 0 where
  -- the cells of a box of the class of a name
  pub named : (items : List Item) (packets nodes : ℕ) (cells : List ℕ) (name : List ℕ) →
      AreCounts items packets nodes cells →
      option_and_then (cells_of_class items) (class_named items name)
      ≡ option_and_then (slice_get cells) (position (same_name name) (class_names items))
  pub host : (before : List Item) (name : List ℕ) (packets nodes : ℕ) (cells : List ℕ) →
      AreCounts before packets nodes cells →
      too_many_cells before (Host name) ≡ nat_lt 4194304 (packets * (nodes + 1))
  pub box : (before : List Item) (name class : List ℕ) (first : List Atom) (packets nodes count : ℕ)
      (cells : List ℕ) → option_and_then (cells_of_class before) (class_named before class) ≡ Some count →
      AreCounts before packets nodes cells →
      too_many_cells before (Instance name class first) ≡ nat_lt 4194304 (packets * (nodes + count))
  pub classless : (before : List Item) (name class : List ℕ) (first : List Atom) →
      option_and_then (cells_of_class before) (class_named before class) ≡ None →
      too_many_cells before (Instance name class first) ≡ false

-- the class has a plan, with few queries
abbrev pub HasPlan : List Item → Class → Type 0
HasPlan items class = (plan : ClassPlan) × (class_of items class ≡ Some plan) × (length plan.queries ≤ 12)

-- what items that keep the rules declare comes to something
pub record KeptIsCounted : Type 0 where
  pub field : (before : List Item) (name kind : List ℕ) → name_unknown before (Field name kind) ≡ false →
      (size : ℕ) × (values_named (kind_items before) kind ≡ Some size)
  pub class : (before : List Item) (class : Class) → KeepsEach (before ++ OfClass class ∷ []) →
      All IsBuiltItem (before ++ OfClass class ∷ []) → HasPlan before class
  pub box : (before : List Item) (name class : List ℕ) (first : List Atom) →
      name_unknown before (Instance name class first) ≡ false → KeepsEach before → All IsBuiltItem before →
      (count : ℕ) × (option_and_then (cells_of_class before) (class_named before class) ≡ Some count)
