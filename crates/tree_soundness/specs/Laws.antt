-- The law that a well-formed text spells one network, and that it is sound.
use Rattle.std.specs.Prelude.{◌≡◌, Some}
use Rattle.amdl_tree.specs.declared.tree.Tree.{Tree}
use Rattle.amdl_tree.specs.WellBuilt.{IsWellBuilt}
use Rattle.net_plan.specs.declared.plan.Plan.{Plan}
use Rattle.net_plan.specs.Sound.{IsSound}
use Rattle.tree_plan.specs.Net.{net}
use Rattle.tree_rules.specs.Checked.{IsWellFormed}

-- a tree as it is read, whose items are well formed, has a network, and the network is sound
abbrev pub WellFormedIsSound : Type 0
WellFormedIsSound =
    (tree : Tree) → IsWellBuilt tree → IsWellFormed tree.items → (plan : Plan) × (net tree ≡ Some plan) × IsSound plan
