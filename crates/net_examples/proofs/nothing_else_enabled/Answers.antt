use Rattle.net_examples.proofs.WireLemmas as lemmas
use Rattle.net_examples.proofs.nothing_else_enabled.Goals as goal

pub returns : goal.returns
returns c = lemmas.nothing_else_enabled
