use Rattle.std.proofs.Common.{◌≡◌}
use Rattle.std.specs.List.{flat_map, range_with_len}
use Rattle.query_tables.specs.Tables.{tuples_in}
use Rattle.query_tables.proofs.table.tuples_of.Given as goal

abbrev pub invariant-loop-p : goal.invariant-loop-p
invariant-loop-p l = l.tuples.items ≡ flat_map (tuples_in l.net l.b) (range_with_len 0 l.p)
