use Rattle.tree_plan.proofs.NestedLemmas.{nested_by_hand}
use Rattle.tree_plan.proofs.laws.class_of_nested.Goals as goal

pub returns : goal.returns
returns c = nested_by_hand c.bodies_are_read.ensures c.formulas_are_read.ensures
