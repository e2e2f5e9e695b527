use Rattle.net_runs.proofs.CoverLemmas as lemmas
use Rattle.net_runs.proofs.laws.bad_step_is_covered.Goals as goal

pub returns : goal.returns
returns c = lemmas.bad_step_is_covered
