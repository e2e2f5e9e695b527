use Rattle.net_examples.proofs.WireLemmas as lemmas
use Rattle.net_examples.proofs.no_ordered_bad_run.Goals as goal

pub returns : goal.returns
returns c = lemmas.no_ordered_bad_run
