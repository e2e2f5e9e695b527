use Rattle.schedule_file.proofs.TellLemmas.{told_once}
use Rattle.schedule_file.proofs.laws.one_telling.Goals as goal

pub returns : goal.returns
returns c = told_once c.step_is_determined.ensures c.one_replay.ensures c.one_reading.ensures
