use Rattle.tree_soundness.proofs.Counting.{cells_counted, cells_told, kept_counted}
use Rattle.tree_soundness.proofs.laws.cells_are_counted.Goals as goal

pub returns-clause-counted : goal.returns-clause-counted
returns-clause-counted c = cells_counted

pub returns-clause-told : goal.returns-clause-told
returns-clause-told c = cells_told

pub returns-clause-kept : goal.returns-clause-kept
returns-clause-kept c = kept_counted
