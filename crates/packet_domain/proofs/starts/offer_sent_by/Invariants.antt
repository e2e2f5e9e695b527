use Rattle.net_plan.specs.Plan.{packets_of}
use Rattle.move_table.specs.Offered.{Offered}
use Rattle.packet_domain.specs.Reasons.{IsSentBy}
use Rattle.move_table.proofs.OfferedLemmas.{UpTo, Below}
use Rattle.packet_domain.proofs.starts.offer_sent_by.Given as goal

abbrev pub invariant-loop-p : goal.invariant-loop-p
invariant-loop-p g l =
    Offered l.net (UpTo l.net (Below l.net (packets_of l.net) (λ done k. IsSentBy l.net l.host k) l.initial.work.done) l.p) l.initial.work
    l.work
