use Rattle.net_plan.specs.Plan.{packets_of}
use Rattle.move_table.specs.Offered.{Offered}
use Rattle.packet_domain.specs.Reasons.{ChangesAt}
use Rattle.move_table.proofs.OfferedLemmas.{UpTo, Below}
use Rattle.packet_domain.proofs.changes.change_all.Given as goal

abbrev pub invariant-loop-q : goal.invariant-loop-q
invariant-loop-q g l =
    Offered l.net (UpTo l.net (Below l.net (packets_of l.net)
    (λ done q. ChangesAt l.net done l.b l.p l.v l.fired q) l.initial.work.done) l.q) l.initial.work l.work
