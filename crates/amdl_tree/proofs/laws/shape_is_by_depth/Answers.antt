use Rattle.amdl_tree.proofs.DepthLaws.{item_fits, tree_shaped}
use Rattle.amdl_tree.proofs.laws.shape_is_by_depth.Goals as goal

pub returns-clause-item : goal.returns-clause-item
returns-clause-item c = item_fits

pub returns-clause-tree : goal.returns-clause-tree
returns-clause-tree c = tree_shaped
