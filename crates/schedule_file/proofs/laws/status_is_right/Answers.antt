use Rattle.schedule_file.proofs.StatusLemmas.{status_right}
use Rattle.schedule_file.proofs.laws.status_is_right.Goals as goal

pub returns : goal.returns
returns c = status_right c.bad_is_told.ensures
