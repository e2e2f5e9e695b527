use Rattle.std.proofs.Common.{[], sym, subst}
use Rattle.net_plan.specs.Reading.{QueryFitsAt}
use Rattle.abstract_step.specs.Walk.{class_at}
use Rattle.abstract_step.proofs.paths.read_tuples.Goals as goal

pub entry_of-requires-clause-fits : goal.entry_of-requires-clause-fits
entry_of-requires-clause-fits c =
    subst (λ query. QueryFitsAt c.args.place.now.net.now (class_at c.args.place.now) [] query) (sym c.query-item.is)
    (c.queries-query-items.ensures.fit c.loop-query.query-index c.query-item.result c.loop-query-test.true)
