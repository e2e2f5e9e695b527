use Rattle.std.proofs.Common.{◌≡◌}
use Rattle.domain_tests.proofs.plain.deliver_to.Given as goal

abbrev pub invariant-loop-v : goal.invariant-loop-v
invariant-loop-v g l = l.paths ≡ l.net
