use Rattle.move_table.specs.Moves.{Patches}
use Rattle.move_table.specs.Within.{NotedWithin, SharedWith}
use Rattle.move_table.proofs.WithinLemmas.{TurnsFrom}
use Rattle.move_table.proofs.pairs.note_pair.Given as goal

abbrev pub invariant-loop-number : goal.invariant-loop-number
invariant-loop-number g l =
    NotedWithin l.net
    (TurnsFrom l.net (λ k. SharedWith l.net l.tables l.b l.p l.v l.update k l.two)
    (Patches l.net l.b l.p l.v l.update) l.initial.number l.number)
    (Patches l.net l.b l.p l.v l.update) l.initial.moves l.moves l.initial.work l.work
