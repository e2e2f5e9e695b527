use Rattle.std.proofs.Common.{ap, ◌∙◌}
use Rattle.box_handlers.specs.Body.{body_of}
use Rattle.box_handlers.specs.Queries.{asked_by}
use Rattle.tree_plan.specs.Gathered.{with_queries}
use Rattle.tree_plan.proofs.QueryLemmas.{acts_more, branches_more, pick_more}
use Rattle.tree_plan.proofs.queries.+acts.Goals as goal

pub acts_ask-loop-act-preserved : goal.acts_ask-loop-act-preserved
acts_ask-loop-act-preserved t c =
    acts_more c.args.most c.args.picked.now c.args.acts.now c.loop-act.act-index c.act-item.result c.loop-act.queries
    c.act_asks.new.queries _
    c.loop-act-test.true c.act-item.is c.loop-act.invariant c.in_ok-act_asks.ensures

pub branches_ask-loop-branch-preserved : goal.branches_ask-loop-branch-preserved
branches_ask-loop-branch-preserved t c =
    branches_more c.args.most c.args.picked.now c.args.branches.now c.loop-branch.branch-index c.branch-item.result
    c.loop-branch.queries c.branch_asks.new.queries _
    c.loop-branch-test.true c.branch-item.is c.loop-branch.invariant c.in_ok-branch_asks.ensures

pub pick_asks-loop-value-preserved : goal.pick_asks-loop-value-preserved
pick_asks-loop-value-preserved t c =
    pick_more c.args.most c.args.picked.now c.args.body.now c.args.values c.loop-value.value c.loop-value.queries
    c.acts_ask.new.queries _
    c.loop-value-test.true c.loop-value.invariant
    (c.in_ok-acts_ask.ensures
    ∙ ap (λ p. with_queries c.args.most c.loop-value.queries (asked_by (body_of c.args.body.now) p))
    (c.as_slice.ensures ∙ c.in_ok-within.ensures))
