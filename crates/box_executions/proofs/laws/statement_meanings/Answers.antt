use Rattle.box_executions.proofs.TableLemmas.{statement_table}
use Rattle.box_executions.proofs.laws.statement_meanings.Goals as goal

pub returns : goal.returns
returns c = statement_table c.bodies_are_read.ensures
