use Rattle.schedule.proofs.ReadLemmas.{one_reading}
use Rattle.schedule.proofs.laws.one_reading.Goals as goal

pub returns : goal.returns
returns c = one_reading c.one_answer.ensures.one
