use Rattle.amdl_tree.proofs.ReservedWords.{reserved_alike}
use Rattle.amdl_tree.proofs.laws.reserved_words_differ.Goals as goal

pub returns : goal.returns
returns c = reserved_alike
