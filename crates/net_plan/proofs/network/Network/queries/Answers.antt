use Rattle.std.proofs.Common.{[], All, subst}
use Rattle.net_plan.specs.declared.plan.ClassPlan.{ClassPlan}
use Rattle.net_plan.specs.Reading.{QueryFitsAt}
use Rattle.net_plan.proofs.ReadLemmas.{queries_fit_at}
use Rattle.net_plan.proofs.network.Network.queries.Goals as goal

pub returns-clause-fit : goal.returns-clause-fit
returns-clause-fit c =
    subst (λ (class : ClassPlan). All
    (QueryFitsAt c.args.self.now class []) c.as_slice.result.now) c.class.ensures.class
    (queries_fit_at c.args.self.now c.class.result.now c.as_slice.result.now c.queries_fit.ensures
    c.class.ensures.handled c.as_slice.ensures)
