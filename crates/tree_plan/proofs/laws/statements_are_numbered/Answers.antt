use Rattle.tree_plan.proofs.NumberedLemmas.{numbered}
use Rattle.tree_plan.proofs.laws.statements_are_numbered.Goals as goal

pub returns : goal.returns
returns c = numbered
