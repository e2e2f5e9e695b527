use Rattle.std.proofs.Common.{length}
use Rattle.query_tables.proofs.masks.+has_bits.Given as goal

abbrev pub decreases-has_bits : goal.decreases-has_bits
decreases-has_bits l = length l.tuples.now
