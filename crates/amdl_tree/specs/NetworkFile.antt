-- Network files: the texts that spell a tree.
use Rattle.std.specs.Prelude.{ℕ, List}
use Rattle.amdl_tree.specs.Lexical.{StandsFor}
use Rattle.amdl_tree.specs.Spelling.{spell}
use Rattle.amdl_tree.specs.WellBuilt.{IsShaped}
use Rattle.amdl_tree.specs.declared.tree.Tree.{Tree}

-- the text is the network file of a shaped tree: what it stands for is the spelling of the tree
pub record IsFileOf (text : List ℕ) (tree : Tree) : Type 0 where
  pub shaped : IsShaped tree
  pub stands : StandsFor text (spell tree)

-- the text is the network file of some tree
abbrev pub IsNetworkFile : List ℕ → Type 0
IsNetworkFile text = (tree : Tree) × IsFileOf text tree
