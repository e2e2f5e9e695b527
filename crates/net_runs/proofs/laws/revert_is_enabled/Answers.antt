use Rattle.net_runs.proofs.EnabledLemmas as lemmas
use Rattle.net_runs.proofs.laws.revert_is_enabled.Goals as goal

pub returns : goal.returns
returns c = lemmas.revert_is_enabled
