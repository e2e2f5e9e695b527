use Rattle.net_runs.proofs.CoverLemmas as lemmas
use Rattle.net_runs.proofs.laws.bad_fact_is_run.Goals as goal

pub returns : goal.returns
returns c = λ plan mode end packet boxless starts bad. lemmas.bad_fact_is_run plan mode end packet starts bad
