use Rattle.schedule_file.proofs.ReadLemmas.{readings_once}
use Rattle.schedule_file.proofs.laws.one_reading.Goals as goal

pub returns : goal.returns
returns c = readings_once c.one_answer.ensures.one c.one_reading.ensures
