use Rattle.move_table.specs.Offered.{Offered}
use Rattle.packet_domain.specs.Reasons.{IsPutOut}
use Rattle.move_table.proofs.OfferedLemmas.{UpTo, Member}
use Rattle.packet_domain.proofs.offers.offer_puts.Given as goal

abbrev pub invariant-loop-put : goal.invariant-loop-put
invariant-loop-put g l =
    Offered l.net (UpTo l.net (Member l.net (IsPutOut l.net l.b) l.puts) l.put-index) l.initial.work l.work
