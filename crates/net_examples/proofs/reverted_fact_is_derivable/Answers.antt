use Rattle.net_examples.proofs.ForgetfulDerived as lemmas
use Rattle.net_examples.proofs.reverted_fact_is_derivable.Goals as goal

pub returns : goal.returns
returns c = lemmas.reverted_fact c.bodies_are_read.ensures c.formulas_are_read.ensures
