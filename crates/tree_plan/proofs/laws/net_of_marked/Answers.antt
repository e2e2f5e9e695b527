use Rattle.tree_plan.proofs.MarkedLemmas.{marked_by_hand}
use Rattle.tree_plan.proofs.laws.net_of_marked.Goals as goal

pub returns : goal.returns
returns c = marked_by_hand c.bodies_are_read.ensures c.formulas_are_read.ensures
