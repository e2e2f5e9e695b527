use Rattle.net_examples.proofs.OvertakenLemmas as lemmas
use Rattle.net_examples.proofs.overtaken_by_hand.Goals as goal

pub returns : goal.returns
returns c = lemmas.overtaken_by_hand c.bodies_are_read.ensures c.formulas_are_read.ensures
