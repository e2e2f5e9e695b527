use Rattle.net_examples.proofs.WireLemmas as lemmas
use Rattle.net_examples.proofs.bad_run_by_hand.Goals as goal

pub returns : goal.returns
returns c = lemmas.bad_run_by_hand
