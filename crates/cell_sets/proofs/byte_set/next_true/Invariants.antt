use Rattle.cell_sets.specs.Marks.{HasNoneFrom}
use Rattle.cell_sets.proofs.byte_set.next_true.Given as goal

abbrev pub invariant-loop-cell : goal.invariant-loop-cell
invariant-loop-cell l = HasNoneFrom l.bytes l.from l.cell
