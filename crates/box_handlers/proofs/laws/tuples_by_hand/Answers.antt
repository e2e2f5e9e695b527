use Rattle.box_handlers.proofs.ExampleLemmas.{tuples_known}
use Rattle.box_handlers.proofs.laws.tuples_by_hand.Goals as goal

pub returns : goal.returns
returns c = tuples_known
