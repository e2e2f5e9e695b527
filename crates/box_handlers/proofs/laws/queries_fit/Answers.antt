use Rattle.box_handlers.proofs.FitLemmas.{all_fit}
use Rattle.box_handlers.proofs.laws.queries_fit.Goals as goal

pub returns : goal.returns
returns c = all_fit
