use Rattle.net_examples.proofs.WireLemmas as lemmas
use Rattle.net_examples.proofs.safe_wire_runs_safely.Goals as goal

pub returns : goal.returns
returns c = lemmas.safe_wire_runs_safely c.safe_network_runs_safely.ensures c.derivable_is_sent.ensures
