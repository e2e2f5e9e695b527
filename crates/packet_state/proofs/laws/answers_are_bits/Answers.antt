use Rattle.packet_state.proofs.MaskLemmas as lemmas
use Rattle.packet_state.proofs.laws.answers_are_bits.Goals as goal

pub returns : goal.returns
returns c = lemmas.answers_are_bits c.held_is_member.ensures
