use Rattle.std.proofs.Common.{◌≡◌, [], drop}
use Rattle.tree_plan.specs.Gathered.{with_queries, asked_by_handlers}
use Rattle.tree_plan.proofs.queries.asked_of.Given as goal

-- what the handlers behind ask is still to be gathered
abbrev pub invariant-loop-acts : goal.invariant-loop-acts
invariant-loop-acts l =
    with_queries l.most l.queries (asked_by_handlers (drop l.acts-index l.handlers))
    ≡ with_queries l.most [] (asked_by_handlers l.handlers)
