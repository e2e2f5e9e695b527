use Rattle.schedule.proofs.ReplayLemmas.{in_range}
use Rattle.schedule.proofs.replaying.put_step.Goals as goal

pub tell-requires : goal.tell-requires
tell-requires c =
    in_range c.args.net.now c.args.state.now.mode c.args.state.now.world c.step.new.self.world c.args.step.now
    c.in-Ok.event c.host_ends.ensures c.port_ends.ensures c.in-Ok.ensures.answer.1
