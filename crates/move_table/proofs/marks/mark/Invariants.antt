use Rattle.std.proofs.Common.{◌-◌, ◌≤◌}
use Rattle.move_table.specs.Marks.{AreMarks}
use Rattle.move_table.proofs.marks.mark.Given as goal

abbrev pub invariant-loop-w : goal.invariant-loop-w
invariant-loop-w l = record { marks : AreMarks l.net l.tables l.moves l.marks; within : l.from ≤ l.masks }

abbrev pub decreases-loop-w : goal.decreases-loop-w
decreases-loop-w l = l.masks - l.from
