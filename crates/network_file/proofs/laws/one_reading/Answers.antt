use Rattle.network_file.proofs.ReadingLemmas.{readings_once}
use Rattle.network_file.proofs.laws.one_reading.Goals as goal

pub returns : goal.returns
returns c = readings_once c.one_answer.ensures.one c.one_answer-2.ensures.one
