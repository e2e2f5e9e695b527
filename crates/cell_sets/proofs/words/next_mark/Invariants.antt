use Rattle.std.proofs.Common.{◌*◌}
use Rattle.cell_sets.specs.Words.{HasNoMark}
use Rattle.cell_sets.proofs.words.next_mark.Given as goal

abbrev pub invariant-loop-at : goal.invariant-loop-at
invariant-loop-at l = HasNoMark l.words l.from (64 * l.at)
