use Rattle.std.proofs.Common.{◌≡◌, take, map}
use Rattle.box_handlers.specs.Queries.{filled_term}
use Rattle.tree_plan.proofs.queries.filled_query.Given as goal

-- the terms so far are filled
abbrev pub invariant-loop-term : goal.invariant-loop-term
invariant-loop-term l = l.args ≡ map (filled_term l.picked) (take l.term-index l.query.args)
