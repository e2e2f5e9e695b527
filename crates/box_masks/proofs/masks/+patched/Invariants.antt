use Rattle.std.proofs.Common.{length}
use Rattle.box_masks.proofs.masks.+patched.Given as goal

abbrev pub decreases-patched : goal.decreases-patched
decreases-patched l = length l.queries.now
