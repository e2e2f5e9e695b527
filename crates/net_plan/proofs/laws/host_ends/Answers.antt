use Rattle.net_plan.proofs.EndLemmas as ends
use Rattle.net_plan.proofs.laws.host_ends.Goals as goal

pub returns : goal.returns
returns c = ends.host_ends
