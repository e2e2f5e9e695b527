use Rattle.net_runs.proofs.StepLemmas as lemmas
use Rattle.net_runs.proofs.laws.ordered_run_is_run.Goals as goal

pub returns : goal.returns
returns c = lemmas.ordered_run_is_run
