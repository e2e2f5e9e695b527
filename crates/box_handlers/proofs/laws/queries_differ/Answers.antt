use Rattle.box_handlers.proofs.AskedLemmas.{differ}
use Rattle.box_handlers.proofs.laws.queries_differ.Goals as goal

pub returns : goal.returns
returns c = differ
