use Rattle.packet_domain.proofs.PlaceLemmas.{none_before}
use Rattle.packet_domain.proofs.inlet.inlet_of_port.Goals as goal

pub returns-in-None : goal.returns-in-None
returns-in-None c =
    none_before c.args.net.now c.end_of_port.result c.args.b c.args.port c.end_of_port.ensures c.in-None.ensures.linked
