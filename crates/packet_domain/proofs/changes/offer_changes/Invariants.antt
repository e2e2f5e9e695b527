use Rattle.move_table.specs.Offered.{Offered}
use Rattle.packet_domain.specs.Reasons.{IsChange}
use Rattle.move_table.proofs.OfferedLemmas.{UpTo, Member}
use Rattle.packet_domain.proofs.changes.offer_changes.Given as goal

abbrev pub invariant-loop-i : goal.invariant-loop-i
invariant-loop-i g l =
    Offered l.net
    (UpTo l.net (Member l.net (λ result. IsChange l.net l.b result l.q l.w) l.fired) l.i) l.initial.work l.work
