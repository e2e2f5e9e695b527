-- What checking a tree comes to.
use Rattle.std.specs.Prelude.{◌≡◌, ◌⊎◌, Some, Result, Ok, Err, ⊤}
use Rattle.amdl_tree.specs.declared.tree.Tree.{Tree}
use Rattle.net_plan.specs.declared.plan.Plan.{Plan}
use Rattle.net_plan.specs.Sound.{IsSound}
use Rattle.tree_plan.specs.Net.{net}
use Rattle.tree_rules.specs.Checked.{IsWellFormed, IsRefusedAt}
use Rattle.amdl_check.specs.declared.refusal.CheckRefusal.{CheckRefusal}
use Rattle.amdl_check.specs.declared.refusal.CheckRefusal.TheVariants.{At, NoMemory}

-- the items are well formed and spell the plan, which is sound
pub record IsNetworkOf (tree : Tree) (plan : Plan) : Type 0 where
  pub formed : IsWellFormed tree.items
  pub spelled : net tree ≡ Some plan
  pub sound : IsSound plan

-- what a tree comes to; want of memory is tied to no cause
abbrev pub IsChecked : Tree → Result Plan CheckRefusal → Type 0
IsChecked tree (Ok plan) = IsNetworkOf tree plan
IsChecked tree (Err (At item rule)) = IsRefusedAt tree.items item rule
IsChecked tree (Err NoMemory) = ⊤

-- it is this answer, or memory was wanting
abbrev pub IsOrNoMemory : Result Plan CheckRefusal → Result Plan CheckRefusal → Type 0
IsOrNoMemory result answer = (result ≡ answer) ⊎ (result ≡ Err NoMemory)
