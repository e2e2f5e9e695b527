use Rattle.move_table.specs.Moves.{Patches}
use Rattle.move_table.specs.Within.{NotedWithin}
use Rattle.move_table.proofs.WithinLemmas.{Turns, IsTurn}
use Rattle.move_table.proofs.update.note_members.Given as goal

abbrev pub invariant-loop-q : goal.invariant-loop-q
invariant-loop-q g l =
    NotedWithin l.net
    (Turns l.net (IsTurn l.q-items (Patches l.net l.b l.p l.v l.update)) (Patches l.net l.b l.p l.v l.update) l.q-index)
    (Patches l.net l.b l.p l.v l.update) l.initial.moves l.moves l.initial.work l.work
