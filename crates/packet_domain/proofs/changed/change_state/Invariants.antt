use Rattle.std.proofs.Common.{◌≡◌}
use Rattle.net_plan.specs.Plan.{box_at, ports_of}
use Rattle.move_table.specs.Offered.{Offered}
use Rattle.packet_domain.specs.Reasons.{AsChangedAt}
use Rattle.move_table.proofs.OfferedLemmas.{UpTo, Below}
use Rattle.packet_domain.proofs.changed.change_state.Given as goal

abbrev pub invariant-loop-port : goal.invariant-loop-port
invariant-loop-port g l =
    record {
      made : l.paths ≡ l.net;
      turns : Offered l.net (UpTo l.net (Below l.net (ports_of l.net (box_at l.net l.b))
          (λ done port. AsChangedAt l.net done l.b l.q l.w port) l.initial.work.done) l.port) l.initial.work l.work;
    }
