use Rattle.net_examples.proofs.ForgetfulLemmas as lemmas
use Rattle.net_examples.proofs.forgetful_is_unsafe.Goals as goal

pub returns : goal.returns
returns c = lemmas.forgetful_is_unsafe c.bodies_are_read.ensures c.formulas_are_read.ensures
