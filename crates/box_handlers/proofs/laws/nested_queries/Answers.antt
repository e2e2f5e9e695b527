use Rattle.box_handlers.proofs.ExampleLemmas.{queries_by_hand}
use Rattle.box_handlers.proofs.laws.nested_queries.Goals as goal

pub returns : goal.returns
returns c = queries_by_hand
