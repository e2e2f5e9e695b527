use Rattle.box_handlers.proofs.FillLemmas.{same_is_equal}
use Rattle.box_handlers.proofs.laws.same_query_is_equal.Goals as goal

pub returns : goal.returns
returns c = same_is_equal
