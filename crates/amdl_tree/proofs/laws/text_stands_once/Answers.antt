use Rattle.amdl_tree.proofs.PieceLemmas.{stands_once}
use Rattle.amdl_tree.proofs.laws.text_stands_once.Goals as goal

pub returns : goal.returns
returns c = stands_once
