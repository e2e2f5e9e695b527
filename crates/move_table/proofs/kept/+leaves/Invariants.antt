use Rattle.std.proofs.Common.{length}
use Rattle.move_table.proofs.kept.+leaves.Given as goal

abbrev pub decreases-leaves : goal.decreases-leaves
decreases-leaves l = length l.tuples.now
