use Rattle.std.proofs.Common.{sym, subst, ◌∙◌}
use Rattle.abstract_step.specs.Step.{result_at}
use Rattle.move_table.specs.Offered.{Offered}
use Rattle.packet_domain.specs.Reasons.{ArePutOut}
use Rattle.packet_domain.proofs.OfferLemmas.{abort_given, puts_given}
use Rattle.packet_domain.proofs.offers.offer_result.Goals as goal

pub returns-then-aborted : goal.returns-then-aborted
returns-then-aborted g c =
    abort_given c.args.net.now c.args.b c.args.p (result_at c.args.fired.now c.args.i) c.args.work.now
    c.offer.new.work (sym c.aborted.ensures ∙ c.if-aborted.true) c.offer.ensures

pub returns-else-aborted : goal.returns-else-aborted
returns-else-aborted g c =
    puts_given c.args.net.now c.args.b c.args.p (result_at c.args.fired.now c.args.i) c.args.work.now
    c.offer_puts.new.work (sym c.aborted.ensures ∙ c.if-aborted.false)
    (subst (λ puts. Offered c.args.net.now (ArePutOut c.args.net.now c.args.b puts) c.args.work.now c.offer_puts.new.work)
    c.outs.ensures c.offer_puts.ensures)
