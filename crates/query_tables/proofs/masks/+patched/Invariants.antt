use Rattle.std.proofs.Common.{length}
use Rattle.query_tables.proofs.masks.+patched.Given as goal

abbrev pub decreases-patched : goal.decreases-patched
decreases-patched l = length l.tuples.now
