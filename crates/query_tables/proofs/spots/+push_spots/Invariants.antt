use Rattle.std.proofs.Common.{length}
use Rattle.query_tables.proofs.spots.+push_spots.Given as goal

abbrev pub decreases-push_spots : goal.decreases-push_spots
decreases-push_spots l = length l.tuples.now
