use Rattle.std.proofs.Common.{length}
use Rattle.move_table.specs.Offered.{Offered}
use Rattle.packet_domain.specs.Reasons.{SendsAny}
use Rattle.move_table.proofs.OfferedLemmas.{UpTo, Below}
use Rattle.packet_domain.proofs.starts.offer_all_sent.Given as goal

abbrev pub invariant-loop-host : goal.invariant-loop-host
invariant-loop-host g l =
    Offered l.net (UpTo l.net (Below l.net (length l.net.hosts) (λ done k. SendsAny l.net k) l.initial.work.done) l.host) l.initial.work
    l.work
