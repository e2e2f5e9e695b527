use Rattle.std.proofs.Common.{◌≡◌, take, map}
use Rattle.class_rules.proofs.class_names.handler_ports.Given as goal

-- the names so far
abbrev pub invariant-loop-handler : goal.invariant-loop-handler
invariant-loop-handler l = l.ports ≡ map (λ handler. handler.port) (take l.handler-index l.handlers)
