use Rattle.packet_state.proofs.PairLemmas as lemmas
use Rattle.packet_state.proofs.laws.pair_count_is_unique.Goals as goal

pub returns : goal.returns
returns c = lemmas.count_is_unique
