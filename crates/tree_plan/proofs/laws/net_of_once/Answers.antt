use Rattle.tree_plan.proofs.ExampleLemmas.{once_by_hand}
use Rattle.tree_plan.proofs.laws.net_of_once.Goals as goal

pub returns : goal.returns
returns c = once_by_hand c.bodies_are_read.ensures c.formulas_are_read.ensures
