use Rattle.packet_state.proofs.RunLemmas as lemmas
use Rattle.packet_state.proofs.laws.least_is_unique.Goals as goal

pub returns : goal.returns
returns c = lemmas.least_is_unique
