use Rattle.std.proofs.Common.{◌≡◌, ◌-◌, ◌≤◌}
use Rattle.move_table.specs.Moves.{Noted, Patches}
use Rattle.move_table.proofs.NoteLemmas.{FirstMoves}
use Rattle.move_table.proofs.notes.note_packet.Given as goal

abbrev pub invariant-loop-w : goal.invariant-loop-w
invariant-loop-w g l =
    record {
      noted : Noted l.net
          (FirstMoves l.net (λ move. Patches l.net l.b l.p l.v l.update move × (move.packet ≡ l.q)) (λ move. move.mask) l.from)
          l.initial.moves l.moves l.initial.work l.work;
      within : l.from ≤ l.masks;
    }

abbrev pub decreases-loop-w : goal.decreases-loop-w
decreases-loop-w g l = l.masks - l.from
