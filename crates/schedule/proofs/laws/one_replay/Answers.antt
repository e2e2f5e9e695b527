use Rattle.schedule.proofs.RunLemmas.{one_replay}
use Rattle.schedule.proofs.laws.one_replay.Goals as goal

pub returns : goal.returns
returns c = one_replay c.step_is_determined.ensures
