use Rattle.std.proofs.Common.{◌≡◌, ◌-◌, [], ◌∷◌, ◌++◌, drop}
use Rattle.std.specs.List.{flat_map, range_with_len}
use Rattle.box_handlers.specs.Body.{body_of, branches_of}
use Rattle.box_handlers.specs.Queries.{asked_by, asked_by_branches}
use Rattle.tree_plan.specs.Gathered.{with_queries}
use Rattle.tree_plan.proofs.queries.+acts.Given as goal

-- what the statements behind ask is still to be gathered
abbrev pub invariant-acts_ask-loop-act : goal.invariant-acts_ask-loop-act
invariant-acts_ask-loop-act l =
    with_queries l.most l.queries (asked_by (body_of (drop l.act-index l.acts)) l.picked)
    ≡ with_queries l.most l.fn.queries (asked_by (body_of l.acts) l.picked)

-- what the branches behind ask is still to be gathered
abbrev pub invariant-branches_ask-loop-branch : goal.invariant-branches_ask-loop-branch
invariant-branches_ask-loop-branch l =
    with_queries l.most l.queries (asked_by_branches (branches_of (drop l.branch-index l.branches)) l.picked)
    ≡ with_queries l.most l.fn.queries (asked_by_branches (branches_of l.branches) l.picked)

-- what the block asks at the values behind is still to be gathered
abbrev pub invariant-pick_asks-loop-value : goal.invariant-pick_asks-loop-value
invariant-pick_asks-loop-value l =
    with_queries l.most l.queries
    (flat_map (λ value. asked_by (body_of l.body) (l.picked ++ value ∷ []))
    (range_with_len l.value (l.values - l.value)))
    ≡ with_queries l.most l.fn.queries
    (flat_map (λ value. asked_by (body_of l.body) (l.picked ++ value ∷ [])) (range_with_len 0 l.values))
