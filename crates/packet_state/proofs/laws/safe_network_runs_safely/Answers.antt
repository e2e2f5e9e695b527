use Rattle.packet_state.proofs.RunLemmas as lemmas
use Rattle.packet_state.proofs.laws.safe_network_runs_safely.Goals as goal

pub returns : goal.returns
returns c = lemmas.safe_network_runs_safely c.first_is_world.ensures c.step_keeps_world.ensures
