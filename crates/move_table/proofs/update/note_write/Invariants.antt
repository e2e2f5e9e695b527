use Rattle.move_table.specs.Marks.{AreMarks}
use Rattle.move_table.specs.Moves.{Patches}
use Rattle.move_table.specs.Within.{NotedWithin, IsCovered}
use Rattle.move_table.proofs.WithinLemmas.{TurnsFrom}
use Rattle.move_table.proofs.update.note_write.Given as goal

abbrev pub invariant-loop-number : goal.invariant-loop-number
invariant-loop-number g l =
    record {
      within : NotedWithin l.net
          (TurnsFrom l.net (IsCovered l.net l.tables l.b l.p l.v l.update) (Patches l.net l.b l.p l.v l.update)
          l.initial.number l.number)
          (Patches l.net l.b l.p l.v l.update) l.initial.moves l.moves l.initial.work l.work;
      marks : AreMarks l.net l.tables l.moves l.marks;
    }
