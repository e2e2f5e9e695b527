use Rattle.std.proofs.Common.{◌-◌, ◌≤◌}
use Rattle.outside.specs.Streams.{ReadsBlock}
use Rattle.outside.proofs.streams.read_all.Given as goal

abbrev pub invariant-loop-taken : goal.invariant-loop-taken
invariant-loop-taken g l =
    (l.left ≤ l.limit)
    × ReadsBlock (g.R.Read.remaining l.initial.reader) (g.R.Read.remaining l.reader)
    (l.limit - l.left) l.initial.into.items l.into.items

abbrev pub decreases-loop-taken : goal.decreases-loop-taken
decreases-loop-taken g l = l.left
