use Rattle.box_handlers.proofs.BodyLemmas.{bodies_read}
use Rattle.box_handlers.proofs.laws.bodies_are_read.Goals as goal

pub returns : goal.returns
returns c = bodies_read
