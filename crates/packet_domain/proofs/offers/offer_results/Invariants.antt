use Rattle.move_table.specs.Offered.{Offered}
use Rattle.packet_domain.specs.Reasons.{Gives}
use Rattle.move_table.proofs.OfferedLemmas.{UpTo, Member}
use Rattle.packet_domain.proofs.offers.offer_results.Given as goal

abbrev pub invariant-loop-i : goal.invariant-loop-i
invariant-loop-i g l =
    Offered l.net (UpTo l.net (Member l.net (Gives l.net l.b l.p) l.fired) l.i) l.initial.work l.work
