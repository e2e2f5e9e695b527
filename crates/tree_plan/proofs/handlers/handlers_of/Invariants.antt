use Rattle.std.proofs.Common.{◌≡◌, drop}
use Rattle.tree_plan.specs.Names.{all_some}
use Rattle.tree_plan.specs.Handlers.{acts_of, body_for}
use Rattle.tree_plan.specs.Tables.{known_by}
use Rattle.tree_plan.proofs.StepLemmas.{with_front}
use Rattle.tree_plan.proofs.handlers.handlers_of.Given as goal

-- the handlers so far stand in front of the others
abbrev pub invariant-loop-port : goal.invariant-loop-port
invariant-loop-port l =
    all_some (λ port. acts_of (known_by l.tables) (body_for l.handlers port)) l.ports
    ≡ with_front l.numbered
    (all_some (λ port. acts_of (known_by l.tables) (body_for l.handlers port))
    (drop l.port-index l.ports))
