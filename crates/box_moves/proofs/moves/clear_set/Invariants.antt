use Rattle.std.proofs.Common.{◌≡◌, ℕ, ◌<◌, ◌≤◌, ◌-◌, length}
use Rattle.cell_sets.specs.Marks.{HasCell}
use Rattle.box_moves.proofs.moves.clear_set.Given as goal

abbrev pub invariant-loop-from : goal.invariant-loop-from
invariant-loop-from l =
    record {
      many : l.cells ≡ length l.set;
      same : length l.set ≡ length l.initial.set;
      within : l.from ≤ l.cells;
      none : (cell : ℕ) → cell < l.from → ¬ (HasCell l.set cell);
    }

abbrev pub decreases-loop-from : goal.decreases-loop-from
decreases-loop-from l = l.cells - l.from
