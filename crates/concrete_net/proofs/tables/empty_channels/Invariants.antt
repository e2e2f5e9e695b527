use Rattle.std.proofs.Common.{◌≡◌, [], replicate}
use Rattle.concrete_net.proofs.tables.empty_channels.Given as goal

abbrev pub invariant-loop-end : goal.invariant-loop-end
invariant-loop-end l = l.channels ≡ replicate l.end []
