use Rattle.std.proofs.Common.{◌≡◌}
use Rattle.std.specs.List.{flat_map, range_with_len}
use Rattle.query_tables.specs.Spots.{spots_in}
use Rattle.query_tables.proofs.spots.spots_of.Given as goal

abbrev pub invariant-loop-p : goal.invariant-loop-p
invariant-loop-p l = l.spots.items ≡ flat_map (spots_in l.net l.b) (range_with_len 0 l.p)
