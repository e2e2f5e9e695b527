use Rattle.net_runs.proofs.EnabledLemmas as lemmas
use Rattle.net_runs.proofs.laws.box_delivery_is_enabled.Goals as goal

pub returns : goal.returns
returns c = lemmas.box_delivery_is_enabled c.outcome_is_in_range.ensures
