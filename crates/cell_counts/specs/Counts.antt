-- What the counts of the code stand for.
use Rattle.std.specs.Prelude.{◌≡◌, List}
use Rattle.amdl_tree.specs.declared.tree.Item.{Item}
use Rattle.tree_rules.specs.Spaces.{class_names}
use Rattle.tree_soundness.specs.Counting.{AreCounts}
use Rattle.cell_counts.specs.declared.counted.Counted.{Counted}

-- they are the counts of these items
pub record IsCountOf (items : List Item) (counted : Counted) : Type 0 where
  pub classes : counted.classes ≡ class_names items
  pub counts : AreCounts items counted.packets counted.nodes counted.cells
