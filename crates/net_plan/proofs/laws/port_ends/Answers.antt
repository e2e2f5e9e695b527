use Rattle.net_plan.proofs.EndLemmas as ends
use Rattle.net_plan.proofs.laws.port_ends.Goals as goal

pub returns : goal.returns
returns c = ends.port_ends
