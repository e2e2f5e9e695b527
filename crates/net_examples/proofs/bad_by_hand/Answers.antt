use Rattle.net_examples.proofs.BoxLemmas as lemmas
use Rattle.net_examples.proofs.bad_by_hand.Goals as goal

pub returns : goal.returns
returns c = lemmas.bad_by_hand
