use Rattle.std.proofs.Common.{length}
use Rattle.query_tables.proofs.masks.+alike.Given as goal

abbrev pub decreases-alike : goal.decreases-alike
decreases-alike l = length l.one.now
