use Rattle.net_examples.proofs.ForgetfulSafe as lemmas
use Rattle.net_examples.proofs.safe_without_reverts.Goals as goal

pub returns : goal.returns
returns c = lemmas.safe_without_reverts c.bodies_are_read.ensures c.formulas_are_read.ensures
