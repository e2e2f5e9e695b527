-- What is known of items that were gone through.
use Rattle.std.specs.Prelude.{List}
use Rattle.amdl_tree.specs.declared.tree.Item.{Item}
use Rattle.declared_names.specs.Declares.{Declares}
use Rattle.cell_counts.specs.Counts.{IsCountOf}
use Rattle.amdl_check.specs.declared.seen.Seen.{Seen}

-- what they declare, and the counts of them
pub record HasSeen (items : List Item) (seen : Seen) : Type 0 where
  pub declares : Declares items seen.declared
  pub counts : IsCountOf items seen.counted
