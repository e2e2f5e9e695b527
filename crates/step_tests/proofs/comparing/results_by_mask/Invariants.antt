use Rattle.std.proofs.Common.{◌≡◌}
use Rattle.step_tests.proofs.comparing.results_by_mask.Given as goal

abbrev pub invariant-loop-v : goal.invariant-loop-v
invariant-loop-v g l = l.paths ≡ l.net
