use Rattle.box_handlers.proofs.ExampleLemmas.{sizes_by_hand}
use Rattle.box_handlers.proofs.laws.nested_sizes.Goals as goal

pub returns : goal.returns
returns c = sizes_by_hand
