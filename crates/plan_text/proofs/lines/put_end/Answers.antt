use Rattle.plan_text.proofs.lines.put_end.Goals as goal

pub put_host-requires : goal.put_host-requires
put_host-requires c = ((c.host_ends.ensures c.args.network.now c.args.end c.in-Host.host).0 c.in-Host.ensures).0

pub put_port-requires-clause-boxed : goal.put_port-requires-clause-boxed
put_port-requires-clause-boxed c =
    ((c.port_ends.ensures c.args.network.now c.args.end c.in-Port.b c.in-Port.port).0 c.in-Port.ensures).0

pub put_port-requires-clause-port : goal.put_port-requires-clause-port
put_port-requires-clause-port c =
    ((c.port_ends.ensures c.args.network.now c.args.end c.in-Port.b c.in-Port.port).0 c.in-Port.ensures).1
