use Rattle.box_handlers.proofs.AskedLemmas.{name_no_pick}
use Rattle.box_handlers.proofs.laws.queries_name_no_pick.Goals as goal

pub returns : goal.returns
returns c = name_no_pick
