use Rattle.std.proofs.Common.{length}
use Rattle.abstract_step.proofs.masks.+written.Given as goal

abbrev pub decreases-written : goal.decreases-written
decreases-written l = length l.tuples.now
