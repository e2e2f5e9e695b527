use Rattle.std.proofs.Common.{◌≡◌, drop}
use Rattle.tree_plan.specs.Handlers.{body_for}
use Rattle.tree_plan.proofs.handlers.body_for.Given as goal

-- no handler so far names the port
abbrev pub invariant-loop-handler : goal.invariant-loop-handler
invariant-loop-handler l = body_for l.handlers l.port ≡ body_for (drop l.handler-index l.handlers) l.port
