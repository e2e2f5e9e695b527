use Rattle.net_plan.proofs.Linked as linked
use Rattle.net_plan.proofs.laws.partner_is_linked.Goals as goal

pub returns : goal.returns
returns c = linked.partner_is_linked
