use Rattle.std.proofs.Common.{◌≡◌, drop}
use Rattle.tree_plan.specs.Names.{all_some}
use Rattle.tree_plan.specs.Handlers.{acts_of}
use Rattle.tree_plan.specs.Tables.{known_by}
use Rattle.tree_plan.proofs.StepLemmas.{with_front}
use Rattle.tree_plan.proofs.handlers.bodies_of.Given as goal

-- the handlers so far stand in front of the others
abbrev pub invariant-loop-handler : goal.invariant-loop-handler
invariant-loop-handler l =
    all_some (λ handler. acts_of (known_by l.tables) handler.body) l.handlers
    ≡ with_front l.bodies (all_some (λ handler. acts_of (known_by l.tables) handler.body) (drop l.handler-index l.handlers))
