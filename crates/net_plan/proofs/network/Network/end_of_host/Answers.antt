use Rattle.std.proofs.Common.{refl}
use Rattle.net_plan.proofs.network.Network.end_of_host.Goals as goal

pub returns : goal.returns
returns c = (c.host_ends.ensures c.args.self.now c.args.host c.args.host).1 (c.requires, refl)
