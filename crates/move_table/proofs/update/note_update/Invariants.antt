use Rattle.move_table.specs.Marks.{AreMarks}
use Rattle.move_table.specs.Moves.{Patches}
use Rattle.move_table.specs.Within.{NotedWithin, IsCoveredBy, SharedBefore}
use Rattle.move_table.proofs.WithinLemmas.{Turns}
use Rattle.move_table.proofs.update.note_update.Given as goal

abbrev pub invariant-loop-i : goal.invariant-loop-i
invariant-loop-i g l =
    record {
      within : NotedWithin l.net
          (Turns l.net (IsCoveredBy l.net l.tables l.b l.p l.v l.update) (Patches l.net l.b l.p l.v l.update) l.i)
          (Patches l.net l.b l.p l.v l.update) l.initial.moves l.moves l.initial.work l.work;
      marks : AreMarks l.net l.tables l.moves l.marks;
    }

abbrev pub invariant-loop-i-2 : goal.invariant-loop-i-2
invariant-loop-i-2 g l =
    record {
      within : NotedWithin l.net
          (Turns l.net (SharedBefore l.net l.tables l.b l.p l.v l.update) (Patches l.net l.b l.p l.v l.update) l.i)
          (Patches l.net l.b l.p l.v l.update) l.initial.moves l.moves l.initial.work l.work;
      marks : AreMarks l.net l.tables l.moves l.marks;
    }
