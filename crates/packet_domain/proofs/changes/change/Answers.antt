use Rattle.packet_domain.proofs.ChangeLemmas.{agreeing}
use Rattle.packet_domain.proofs.changes.change.Goals as goal

pub returns-then-agree : goal.returns-then-agree
returns-then-agree g c =
    agreeing c.args.net.now c.args.b c.args.q c.args.w c.args.work.now c.offer_changes.new.work c.args.p c.args.v
    c.args.fired.now (c.agree.ensures.0 c.if-agree.true) c.offer_changes.ensures
