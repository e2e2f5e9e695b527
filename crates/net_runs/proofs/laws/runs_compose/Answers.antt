use Rattle.net_runs.proofs.StepLemmas as lemmas
use Rattle.net_runs.proofs.laws.runs_compose.Goals as goal

pub returns : goal.returns
returns c = lemmas.runs_compose
