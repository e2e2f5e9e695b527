use Rattle.std.proofs.Common.{length}
use Rattle.box_masks.proofs.masks.+has_bits.Given as goal

abbrev pub decreases-has_bits : goal.decreases-has_bits
decreases-has_bits l = length l.queries.now
