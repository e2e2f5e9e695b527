use Rattle.std.proofs.Common.{length}
use Rattle.move_table.proofs.effect.+bit_in.Given as goal

abbrev pub decreases-bit_in : goal.decreases-bit_in
decreases-bit_in l = length l.tuples.now
