use Rattle.schedule.proofs.BadLemmas.{bad_is_told}
use Rattle.schedule.proofs.laws.bad_is_told.Goals as goal

pub returns : goal.returns
returns c = bad_is_told
