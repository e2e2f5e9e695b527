use Rattle.net_runs.proofs.CoverLemmas as lemmas
use Rattle.net_runs.proofs.laws.closed_set_covers.Goals as goal

pub returns : goal.returns
returns c = lemmas.closed_set_covers
