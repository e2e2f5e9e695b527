use Rattle.net_runs.proofs.CoverLemmas as lemmas
use Rattle.net_runs.proofs.laws.safe_network_runs_safely.Goals as goal

pub returns : goal.returns
returns c = lemmas.safe_network_runs_safely
