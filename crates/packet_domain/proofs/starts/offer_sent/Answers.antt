use Rattle.packet_domain.proofs.StartLemmas.{sent_given}
use Rattle.packet_domain.proofs.starts.offer_sent.Goals as goal

pub returns-then-sends : goal.returns-then-sends
returns-then-sends g c =
    sent_given c.args.net.now c.args.host c.args.p c.end_of_host.result c.args.work.now c.offer.new.work
    c.end_of_host.ensures (c.sends.ensures.0 c.if-sends.true) c.offer.ensures
