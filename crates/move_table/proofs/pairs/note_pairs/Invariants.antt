use Rattle.move_table.specs.Moves.{Patches}
use Rattle.move_table.specs.Within.{NotedWithin, IsSharedBy}
use Rattle.move_table.proofs.WithinLemmas.{Turns}
use Rattle.move_table.proofs.pairs.note_pairs.Given as goal

abbrev pub invariant-loop-j : goal.invariant-loop-j
invariant-loop-j g l =
    NotedWithin l.net
    (Turns l.net (IsSharedBy l.net l.tables l.b l.p l.v l.update l.i) (Patches l.net l.b l.p l.v l.update) l.j)
    (Patches l.net l.b l.p l.v l.update) l.initial.moves l.moves l.initial.work l.work
