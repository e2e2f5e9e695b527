use Rattle.std.proofs.Common.{[], ◌++◌, ap}
use Rattle.amdl_tree.proofs.TreeOnce.{tree_once}
use Rattle.amdl_tree.proofs.laws.spelling_is_one_to_one.Goals as goal

pub returns : goal.returns
returns c t u p q e = (tree_once.once t u [] [] p q tt tt (ap (λ tokens. tokens ++ []) e)).0
