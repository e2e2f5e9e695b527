-- A class with what is made of it and of the items before it.
use Rattle.std.specs.Prelude.{◌≡◌}
use Rattle.tree_plan.specs.Net.{known_of}
use Rattle.tree_plan.specs.Tables.{known_by}
use Rattle.tree_rules.specs.Rules.{bodies_of}
use Rattle.declared_names.specs.Declares.{Declares}
use Rattle.class_rules.specs.declared.read.ReadClass.{ReadClass}

-- the tables and the blocks are those of the class and of the items before it
pub record IsRead (read : ReadClass) : Type 0 where
  pub declares : Declares read.before.now read.declared.now
  pub known : known_by read.tables.now ≡ known_of read.before.now read.class.now
  pub bodies : read.bodies.now ≡ bodies_of read.before.now read.class.now
