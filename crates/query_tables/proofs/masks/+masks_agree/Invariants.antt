use Rattle.std.proofs.Common.{length}
use Rattle.query_tables.proofs.masks.+masks_agree.Given as goal

abbrev pub decreases-masks_agree : goal.decreases-masks_agree
decreases-masks_agree l = length l.one.now
