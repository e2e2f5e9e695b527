use Rattle.tree_plan.proofs.OfficeLemmas.{office_by_hand}
use Rattle.tree_plan.proofs.laws.net_of_office.Goals as goal

pub returns : goal.returns
returns c = office_by_hand c.bodies_are_read.ensures c.formulas_are_read.ensures
