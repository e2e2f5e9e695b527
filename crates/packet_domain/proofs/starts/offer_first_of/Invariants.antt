use Rattle.net_plan.specs.Plan.{packets_of}
use Rattle.move_table.specs.Offered.{Offered}
use Rattle.packet_domain.specs.Reasons.{IsFirstAt}
use Rattle.move_table.proofs.OfferedLemmas.{UpTo, Below}
use Rattle.packet_domain.proofs.starts.offer_first_of.Given as goal

abbrev pub invariant-loop-p : goal.invariant-loop-p
invariant-loop-p g l =
    Offered l.net (UpTo l.net (Below l.net (packets_of l.net) (λ done k. IsFirstAt l.net l.b k) l.initial.work.done) l.p) l.initial.work
    l.work
