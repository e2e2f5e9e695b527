use Rattle.box_handlers.proofs.BodyLemmas.{formulas_read}
use Rattle.box_handlers.proofs.laws.formulas_are_read.Goals as goal

pub returns : goal.returns
returns c = formulas_read
