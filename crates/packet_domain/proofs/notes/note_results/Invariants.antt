use Rattle.std.proofs.Common.{◌≡◌}
use Rattle.move_table.specs.Moves.{Noted}
use Rattle.packet_domain.specs.Table.{ResultMoves}
use Rattle.move_table.proofs.NoteLemmas.{AmongFirst}
use Rattle.packet_domain.proofs.notes.note_results.Given as goal

abbrev pub invariant-loop-i : goal.invariant-loop-i
invariant-loop-i g l =
    record {
      table : l.table.plan ≡ l.net;
      noted : Noted l.net (AmongFirst l.net l.fired (λ result. ResultMoves l.net l.b l.p l.v result) l.i)
          l.initial.table.moves l.table.moves l.initial.work l.work;
    }
