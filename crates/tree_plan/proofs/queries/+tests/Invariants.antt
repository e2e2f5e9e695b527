use Rattle.std.proofs.Common.{◌≡◌, drop, map}
use Rattle.box_handlers.specs.Body.{all_of, any_of, formula_of_probe}
use Rattle.box_handlers.specs.Queries.{asked_by_formula}
use Rattle.tree_plan.specs.Gathered.{with_queries}
use Rattle.tree_plan.proofs.queries.+tests.Given as goal

-- what the lists behind ask is still to be gathered
abbrev pub invariant-test_asks-loop-probes : goal.invariant-test_asks-loop-probes
invariant-test_asks-loop-probes l =
    with_queries l.most l.queries
    (asked_by_formula l.picked (any_of (map (map formula_of_probe) (drop l.probes-index l.test.any))))
    ≡ with_queries l.most l.fn.queries (asked_by_formula l.picked (any_of (map (map formula_of_probe) l.test.any)))

-- what the probes behind ask is still to be gathered
abbrev pub invariant-probes_ask-loop-probe : goal.invariant-probes_ask-loop-probe
invariant-probes_ask-loop-probe l =
    with_queries l.most l.queries (asked_by_formula l.picked (all_of (map formula_of_probe (drop l.probe-index l.probes))))
    ≡ with_queries l.most l.fn.queries (asked_by_formula l.picked (all_of (map formula_of_probe l.probes)))
