use Rattle.amdl_tree.proofs.FileLemmas.{one_tree}
use Rattle.amdl_tree.proofs.laws.file_is_of_one_tree.Goals as goal

pub returns : goal.returns
returns c = one_tree
