use Rattle.move_table.specs.Moves.{Patches}
use Rattle.move_table.specs.Within.{NotedWithin, IsShared}
use Rattle.move_table.proofs.WithinLemmas.{TurnsFrom}
use Rattle.move_table.proofs.pairs.note_against.Given as goal

abbrev pub invariant-loop-other : goal.invariant-loop-other
invariant-loop-other g l =
    NotedWithin l.net
    (TurnsFrom l.net (IsShared l.net l.tables l.b l.p l.v l.update l.one) (Patches l.net l.b l.p l.v l.update)
    l.initial.other l.other)
    (Patches l.net l.b l.p l.v l.update) l.initial.moves l.moves l.initial.work l.work
