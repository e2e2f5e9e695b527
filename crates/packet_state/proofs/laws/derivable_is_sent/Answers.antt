use Rattle.packet_state.proofs.BoxlessLemmas as lemmas
use Rattle.packet_state.proofs.laws.derivable_is_sent.Goals as goal

pub returns : goal.returns
returns c = lemmas.derivable_is_sent
