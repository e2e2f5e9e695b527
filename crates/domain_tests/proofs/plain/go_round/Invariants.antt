use Rattle.std.proofs.Common.{◌≡◌}
use Rattle.domain_tests.proofs.plain.go_round.Given as goal

abbrev pub invariant-loop-cell : goal.invariant-loop-cell
invariant-loop-cell g l = l.paths ≡ l.net
