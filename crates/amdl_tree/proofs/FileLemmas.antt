-- Network files and their trees.
use Rattle.std.proofs.Common.{◌≡◌, ℕ, List, [], ◌++◌, ap}
use Rattle.amdl_tree.specs.Layout.{layout_of_tree}
use Rattle.amdl_tree.specs.NetworkFile.{IsFileOf}
use Rattle.amdl_tree.specs.Spelling.{spell}
use Rattle.amdl_tree.specs.WellBuilt.{IsWellBuilt, IsShaped}
use Rattle.amdl_tree.specs.declared.tree.Tree.{Tree}
use Rattle.amdl_tree.proofs.DepthLaws.{tree_shaped}
use Rattle.amdl_tree.proofs.PieceLemmas.{stands_once}
use Rattle.amdl_tree.proofs.StandLemmas.{tree_stands}
use Rattle.amdl_tree.proofs.TreeOnce.{tree_once}

shaped_is_built : (tree : Tree) → IsShaped tree → IsWellBuilt tree
shaped_is_built tree shaped = ((tree_shaped tree).0 shaped).0

pub one_tree : (text : List ℕ) (t u : Tree) → IsFileOf text t → IsFileOf text u → t ≡ u
one_tree text t u one two =
    let same : spell t ≡ spell u = stands_once text (spell t) (spell u) one.stands two.stands in
    (tree_once.once t u [] [] (shaped_is_built t one.shaped) (shaped_is_built u two.shaped) tt tt
    (ap (λ tokens. tokens ++ []) same)).0

pub layout_file : (tree : Tree) → IsShaped tree → IsFileOf (layout_of_tree tree) tree
layout_file tree shaped = record { shaped = shaped; stands = tree_stands tree (shaped_is_built tree shaped) }
