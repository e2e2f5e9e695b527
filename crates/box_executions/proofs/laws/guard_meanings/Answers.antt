use Rattle.box_executions.proofs.TableLemmas.{guard_table}
use Rattle.box_executions.proofs.laws.guard_meanings.Goals as goal

pub returns : goal.returns
returns c env contents = guard_table env contents c.formulas_are_read.ensures
