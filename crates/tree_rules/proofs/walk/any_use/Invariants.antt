use Rattle.std.proofs.Common.{◌≡◌, [], drop, flat_map}
use Rattle.std.specs.List.{list_any}
use Rattle.tree_rules.specs.Uses.{uses_of_body}
use Rattle.tree_rules.proofs.walk.any_use.Given as goal

-- nothing so far passes
abbrev pub invariant-loop-handler : goal.invariant-loop-handler
invariant-loop-handler g l =
    list_any (g.T.UseTest.test l.test) (flat_map (λ handler. uses_of_body handler.body []) l.handlers)
    ≡ list_any (g.T.UseTest.test l.test)
    (flat_map (λ handler. uses_of_body handler.body []) (drop l.handler-index l.handlers))
