use Rattle.packet_state.proofs.CoverLemmas as lemmas
use Rattle.packet_state.proofs.laws.closed_set_covers.Goals as goal

pub returns : goal.returns
returns c = lemmas.closed_set_covers
