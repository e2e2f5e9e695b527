use Rattle.amdl_tree.proofs.FileLemmas.{layout_file}
use Rattle.amdl_tree.proofs.laws.layout_is_file.Goals as goal

pub returns : goal.returns
returns c = layout_file
