use Rattle.net_plan.specs.Plan.{boxes_of}
use Rattle.move_table.specs.Offered.{Offered}
use Rattle.packet_domain.specs.Reasons.{FirstAny}
use Rattle.move_table.proofs.OfferedLemmas.{UpTo, Below}
use Rattle.packet_domain.proofs.starts.offer_all_first.Given as goal

abbrev pub invariant-loop-b : goal.invariant-loop-b
invariant-loop-b g l =
    Offered l.net (UpTo l.net (Below l.net (boxes_of l.net) (λ done k. FirstAny l.net k) l.initial.work.done) l.b) l.initial.work
    l.work
