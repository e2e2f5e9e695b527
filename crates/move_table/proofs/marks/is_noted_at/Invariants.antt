use Rattle.std.proofs.Common.{◌≡◌, ℕ, ◌-◌, ◌<◌, ◌≤◌, bit_and}
use Rattle.move_table.specs.Marks.{IsNotedFrom}
use Rattle.move_table.proofs.marks.is_noted_at.Given as goal

abbrev pub invariant-loop-w : goal.invariant-loop-w
invariant-loop-w l =
    record {
      noted : (mask : ℕ) → mask < l.from → bit_and mask l.effect.known ≡ l.effect.bits →
          IsNotedFrom l.net l.moves l.b l.effect l.q mask;
      within : l.from ≤ l.masks;
    }

abbrev pub decreases-loop-w : goal.decreases-loop-w
decreases-loop-w l = l.masks - l.from
