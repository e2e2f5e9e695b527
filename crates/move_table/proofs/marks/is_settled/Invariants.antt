use Rattle.std.proofs.Common.{◌≡◌, ℕ, ◌-◌, ◌<◌, ◌≤◌, bit_and, bit_or}
use Rattle.std.specs.Int.{bit_not, w16}
use Rattle.move_table.specs.Effect.{overwritten}
use Rattle.move_table.specs.Marks.{IsNoted}
use Rattle.move_table.proofs.marks.is_settled.Given as goal

abbrev pub invariant-loop-w : goal.invariant-loop-w
invariant-loop-w l =
    record {
      marked : (mask : ℕ) → mask < l.from →
          bit_and mask (bit_or l.effect.known (bit_not w16 l.site.fixed)) ≡ l.effect.bits →
          IsNoted l.net l.marks l.b l.number mask (overwritten mask l.effect);
      within : l.from ≤ l.masks;
    }

abbrev pub decreases-loop-w : goal.decreases-loop-w
decreases-loop-w l = l.masks - l.from
