use Rattle.std.proofs.Common.{◌≡◌, take}
use Rattle.box_handlers.specs.Size.{literals_of_all}
use Rattle.handler_sizes.specs.Capped.{capped}
use Rattle.handler_sizes.proofs.over.all_literals.Given as goal

-- the literals of the handlers so far
abbrev pub invariant-loop-acts : goal.invariant-loop-acts
invariant-loop-acts l = l.total ≡ capped (literals_of_all (take l.acts-index l.handlers))
