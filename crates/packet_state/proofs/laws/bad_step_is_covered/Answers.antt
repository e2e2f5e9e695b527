use Rattle.std.specs.List.{Contains}
use Rattle.packet_state.proofs.RunLemmas as lemmas
use Rattle.packet_state.proofs.laws.bad_step_is_covered.Goals as goal

pub returns : goal.returns
returns c = λ plan facts. lemmas.bad_step_covered plan (Contains facts)
