use Rattle.std.proofs.Common.{◌≡◌}
use Rattle.net_plan.specs.Plan.{box_at, ports_of}
use Rattle.move_table.specs.Offered.{Offered}
use Rattle.packet_domain.specs.Reasons.{AsStateAt}
use Rattle.move_table.proofs.OfferedLemmas.{UpTo, Below}
use Rattle.move_table.specs.Moves.{Adds, AreFollowed}
use Rattle.packet_domain.specs.Table.{MovesAsStateAt}
use Rattle.move_table.proofs.AddLemmas.{MovesUpTo, MovesBelow}
use Rattle.packet_domain.proofs.delivered.deliver_state.Given as goal

abbrev pub invariant-loop-port : goal.invariant-loop-port
invariant-loop-port g l =
    record {
      made : l.paths ≡ l.net;
      table : l.table.plan ≡ l.net;
      followed : AreFollowed l.net l.table.moves l.work;
      turns : Offered l.net (UpTo l.net (Below l.net (ports_of l.net (box_at l.net l.b))
          (λ done port. AsStateAt l.net done l.b l.p l.v port) l.initial.work.done) l.port) l.initial.work l.work;
      adds : Adds l.net (MovesUpTo l.net (MovesBelow l.net (ports_of l.net (box_at l.net l.b))
          (λ port. MovesAsStateAt l.net l.initial.work.done l.b l.p l.v port)) l.port) l.initial.table.moves l.table.moves;
    }
