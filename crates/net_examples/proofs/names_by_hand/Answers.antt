use Rattle.net_examples.proofs.BoxLemmas as lemmas
use Rattle.net_examples.proofs.names_by_hand.Goals as goal

pub returns : goal.returns
returns c = lemmas.names_by_hand
