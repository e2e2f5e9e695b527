use Rattle.net_plan.proofs.EndLemmas.{port_ends}
use Rattle.concrete_net.proofs.DeliveryLemmas.{host_answer}
use Rattle.concrete_net.proofs.state.State.deliver_from.Goals as goal

pub deliver_to_port-requires-clause-boxed : goal.deliver_to_port-requires-clause-boxed
deliver_to_port-requires-clause-boxed c =
    ((port_ends c.args.net.now c.args.end c.in-Port.b c.in-Port.port).0 c.in-Port.ensures).0

pub deliver_to_port-requires-clause-port : goal.deliver_to_port-requires-clause-port
deliver_to_port-requires-clause-port c =
    ((port_ends c.args.net.now c.args.end c.in-Port.b c.in-Port.port).0 c.in-Port.ensures).1

pub returns-in-Host : goal.returns-in-Host
returns-in-Host c =
    host_answer c.args.net.now c.args.self.now c.args.end c.args.packet c.args.choices.now c.requires.end
    c.requires.packet c.args.from c.args.place c.requires.stands c.in-Host.host c.deliver_to_host.new.self
    c.deliver_to_host.result c.in-Host.ensures c.deliver_to_host.ensures
