-- The name spaces of a text: types; values and fields; classes; hosts and boxes. Ports and relations have a space in
-- each class.
pub use Rattle.name_tables.specs.Names.{is_among, repeats}
use Rattle.std.specs.Prelude.{ℕ, List, ◌++◌, map, flat_map}
use Rattle.amdl_tree.specs.declared.tree.Item.{Item}
use Rattle.amdl_tree.specs.Items.{kind_items, field_items, class_items, host_items, box_items}

-- the names that items declare in each space
abbrev pub kind_names : List Item → List (List ℕ)
kind_names items = map (λ kind. kind.name) (kind_items items)

abbrev pub term_names : List Item → List (List ℕ)
term_names items = flat_map (λ kind. kind.values) (kind_items items) ++ map (λ field. field.name) (field_items items)

abbrev pub class_names : List Item → List (List ℕ)
class_names items = map (λ class. class.name) (class_items items)

abbrev pub node_names : List Item → List (List ℕ)
node_names items = host_items items ++ map (λ box. box.name) (box_items items)
