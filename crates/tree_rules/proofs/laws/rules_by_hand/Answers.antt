use Rattle.tree_rules.proofs.ByHandLemmas as lemmas
use Rattle.tree_rules.proofs.laws.rules_by_hand.Goals as goal

pub returns : goal.returns
returns c =
    lemmas.rules_by_hand c.statements_are_numbered.ensures c.bodies_are_read.ensures c.formulas_are_read.ensures
