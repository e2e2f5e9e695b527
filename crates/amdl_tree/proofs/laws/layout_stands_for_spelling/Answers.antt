use Rattle.amdl_tree.proofs.StandLemmas.{tree_stands}
use Rattle.amdl_tree.proofs.laws.layout_stands_for_spelling.Goals as goal

pub returns : goal.returns
returns c = tree_stands
