use Rattle.net_runs.proofs.WorldLemmas as lemmas
use Rattle.net_runs.proofs.laws.run_keeps_world.Goals as goal

pub returns : goal.returns
returns c = lemmas.run_keeps_world c.outcome_is_in_range.ensures
