use Rattle.std.proofs.Common.{length}
use Rattle.move_table.proofs.marks.+has_change.Given as goal

abbrev pub decreases-has_change : goal.decreases-has_change
decreases-has_change l = length l.tuples.now
