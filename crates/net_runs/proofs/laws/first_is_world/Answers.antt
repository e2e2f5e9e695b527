use Rattle.net_runs.proofs.WorldLemmas as lemmas
use Rattle.net_runs.proofs.laws.first_is_world.Goals as goal

pub returns : goal.returns
returns c = lemmas.first_is_world
