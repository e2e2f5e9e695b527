use Rattle.packet_domain.proofs.StartLemmas.{all_started, only_started}
use Rattle.packet_domain.proofs.starts.offer_starts.Goals as goal

pub returns-clause-all : goal.returns-clause-all
returns-clause-all g c =
    all_started c.args.net.now c.args.work.now c.offer_all_sent.new.work c.offer_all_first.new.work
    c.offer_all_sent.ensures c.offer_all_first.ensures

pub returns-clause-only : goal.returns-clause-only
returns-clause-only g c =
    only_started c.args.net.now c.args.work.now c.offer_all_sent.new.work c.offer_all_first.new.work
    c.offer_all_sent.ensures c.offer_all_first.ensures
