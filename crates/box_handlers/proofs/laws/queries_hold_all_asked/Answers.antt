use Rattle.box_handlers.proofs.AskedLemmas.{hold_all}
use Rattle.box_handlers.proofs.laws.queries_hold_all_asked.Goals as goal

pub returns : goal.returns
returns c = hold_all
