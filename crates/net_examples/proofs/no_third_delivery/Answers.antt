use Rattle.net_examples.proofs.WireLemmas as lemmas
use Rattle.net_examples.proofs.no_third_delivery.Goals as goal

pub returns : goal.returns
returns c = lemmas.no_third_delivery
