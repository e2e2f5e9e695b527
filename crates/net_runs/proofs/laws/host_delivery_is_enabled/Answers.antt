use Rattle.net_runs.proofs.EnabledLemmas as lemmas
use Rattle.net_runs.proofs.laws.host_delivery_is_enabled.Goals as goal

pub returns : goal.returns
returns c = lemmas.host_delivery_is_enabled
