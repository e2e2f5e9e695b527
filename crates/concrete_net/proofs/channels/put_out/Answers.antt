use Rattle.concrete_net.specs.PutOut.{IsPushed, PutsOutThere}
use Rattle.concrete_net.proofs.ChannelLemmas.{on_ok, goes_last}
use Rattle.concrete_net.proofs.channels.put_out.Goals as goal

pub returns-in-Some-clause-ok : goal.returns-in-Some-clause-ok
returns-in-Some-clause-ok c =
    on_ok c.push_last.result (IsPushed c.args.end c.args.packet c.args.waiting.now c.push_last.new.waiting)
    (PutsOutThere c.args.net.now c.args.end c.args.packet c.args.waiting.now c.push_last.new.waiting)
    (goes_last c.args.net.now c.args.end c.args.packet c.in-Some.field-0 c.args.waiting.now c.push_last.new.waiting
    c.in-Some.ensures.linked) c.push_last.ensures.ok
