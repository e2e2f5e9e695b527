use Rattle.std.proofs.Common.{[], subst, sym}
use Rattle.net_plan.specs.Reading.{QueryFitsAt}
use Rattle.packet_state.specs.Answers.{class_of_box}
use Rattle.query_tables.proofs.table.push_packet.Goals as goal

pub tuple_at-requires-clause-fits : goal.tuple_at-requires-clause-fits
tuple_at-requires-clause-fits c =
    subst (QueryFitsAt c.args.net.now (class_of_box c.args.net.now c.args.b) []) (sym c.query-item.is)
    (c.queries-query-items.ensures.fit c.loop-query.query-index c.query-item.result c.loop-query-test.true)
