use Rattle.std.proofs.Common.{◌≡◌, take}
use Rattle.handler_runs.proofs.handling.sizes_of.Given as goal

abbrev pub invariant-loop-k : goal.invariant-loop-k
invariant-loop-k l = l.sizes ≡ take l.k l.headers
