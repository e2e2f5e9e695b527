use Rattle.net_runs.proofs.WorldLemmas as lemmas
use Rattle.net_runs.proofs.laws.step_keeps_world.Goals as goal

pub returns : goal.returns
returns c = lemmas.step_keeps_world c.outcome_is_in_range.ensures
