use Rattle.net_plan.proofs.Rising as rising
use Rattle.net_plan.proofs.laws.rising_is_unique.Goals as goal

pub returns : goal.returns
returns c = rising.rising_is_unique
