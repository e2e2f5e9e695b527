use Rattle.box_handlers.proofs.FillLemmas.{filled_same}
use Rattle.box_handlers.proofs.laws.filled_has_same_tuple.Goals as goal

pub returns : goal.returns
returns c = filled_same
