use Rattle.net_examples.proofs.OvertakenSafe as lemmas
use Rattle.net_examples.proofs.safe_in_order.Goals as goal

pub returns : goal.returns
returns c = lemmas.safe_in_order c.bodies_are_read.ensures c.formulas_are_read.ensures
