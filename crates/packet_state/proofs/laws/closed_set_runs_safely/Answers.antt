use Rattle.std.specs.List.{Contains}
use Rattle.packet_state.proofs.RunLemmas as lemmas
use Rattle.packet_state.proofs.laws.closed_set_runs_safely.Goals as goal

pub returns : goal.returns
returns c = λ plan facts sound closed good.
    lemmas.closed_set_runs_safely plan (Contains facts) closed c.step_keeps_world.ensures sound good
    c.first_is_world.ensures
