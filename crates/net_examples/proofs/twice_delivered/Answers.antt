use Rattle.net_examples.proofs.WireLemmas as lemmas
use Rattle.net_examples.proofs.twice_delivered.Goals as goal

pub returns : goal.returns
returns c = lemmas.twice_delivered
