use Rattle.packet_state.proofs.RangeLemmas as lemmas
use Rattle.packet_state.proofs.laws.follows_in_range.Goals as goal

pub returns : goal.returns
returns c = lemmas.follows_in_range
