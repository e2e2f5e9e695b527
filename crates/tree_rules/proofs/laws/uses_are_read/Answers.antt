use Rattle.tree_rules.proofs.UseLemmas as lemmas
use Rattle.tree_rules.proofs.laws.uses_are_read.Goals as goal

pub returns : goal.returns
returns c = lemmas.uses_are_read
