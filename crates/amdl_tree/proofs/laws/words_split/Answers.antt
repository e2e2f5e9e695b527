use Rattle.amdl_tree.proofs.WordLemmas.{words_split}
use Rattle.amdl_tree.proofs.laws.words_split.Goals as goal

pub returns : goal.returns
returns c = words_split
