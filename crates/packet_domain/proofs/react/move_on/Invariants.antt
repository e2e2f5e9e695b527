use Rattle.std.proofs.Common.{◌-◌, ◌≤◌}
use Rattle.box_moves.specs.Moves.{masks_at}
use Rattle.move_table.specs.Offered.{Offered}
use Rattle.move_table.proofs.OfferedLemmas.{UpTo}
use Rattle.packet_domain.proofs.MoveLemmas.{MovesOne}
use Rattle.packet_domain.proofs.react.move_on.Given as goal

abbrev pub invariant-loop-other : goal.invariant-loop-other
invariant-loop-other g l =
    record {
      turns : Offered l.net (UpTo l.net (MovesOne l.net l.table.moves l.b l.q l.w) l.from) l.initial.work l.work;
      within : l.from ≤ masks_at l.net l.b;
    }

abbrev pub decreases-loop-other : goal.decreases-loop-other
decreases-loop-other g l = masks_at l.net l.b - l.from
