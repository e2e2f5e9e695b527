use Rattle.net_runs.proofs.StepLemmas as lemmas
use Rattle.net_runs.proofs.laws.step_is_determined.Goals as goal

pub returns : goal.returns
returns c = lemmas.step_is_determined c.execution_is_determined.ensures
