use Rattle.std.proofs.Common.{◌≡◌, ◌++◌, drop}
use Rattle.box_masks.specs.Bits.{tuples_at}
use Rattle.query_tables.proofs.table.push_packet.Given as goal

abbrev pub invariant-loop-query : goal.invariant-loop-query
invariant-loop-query l =
    l.tuples.items ++ tuples_at l.net l.b l.p (drop l.query-index l.query-items)
    ≡ l.fn.tuples.items ++ tuples_at l.net l.b l.p l.query-items
