use Rattle.net_examples.proofs.ForgetfulLemmas as lemmas
use Rattle.net_examples.proofs.reverted_run_by_hand.Goals as goal

pub returns : goal.returns
returns c = lemmas.reverted_run c.bodies_are_read.ensures c.formulas_are_read.ensures
