use Rattle.std.proofs.Common.{◌≡◌, length}
use Rattle.abstract_step.proofs.paths.repeated.Given as goal

-- so many items so far
abbrev pub invariant-loop : goal.invariant-loop
invariant-loop g l = length l.items ≡ l.counter
