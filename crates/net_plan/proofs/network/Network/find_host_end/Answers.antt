use Rattle.std.proofs.Common.{ℕ, List, None}
use Rattle.net_plan.specs.declared.plan.Plan.{Plan}
use Rattle.net_plan.specs.declared.fact.Place.{Place}
use Rattle.net_plan.specs.declared.fact.Place.TheVariants.{Host, Port}
use Rattle.net_plan.specs.Plan.{IsHostNamed}
use Rattle.net_plan.specs.Ends.{IsEndAt, IsPlaceNamed}
use Rattle.net_plan.proofs.EndLemmas as ends
use Rattle.net_plan.proofs.network.Network.find_host_end.Goals as goal

-- the end of a host of the name is that of a host of the name
host_named : (plan : Plan) (name : List ℕ) (end : ℕ) (place : Place) → IsEndAt plan end place →
    IsPlaceNamed plan name None place → (host : ℕ) × IsHostNamed plan name host
host_named plan name end (Host host) there named = (host, (((ends.host_ends plan end host).0 there).0, named))
host_named plan name end (Port box port) there named = absurd named

pub returns-in-Some : goal.returns-in-Some
returns-in-Some c =
    let named : IsHostNamed c.args.self.now c.args.name c.in-Some.host = c.in-Some.ensures in
    (Host c.in-Some.host, c.end_of_host.ensures, named.1)

pub returns-in-None : goal.returns-in-None
returns-in-None c = λ end there.
    let host = host_named c.args.self.now c.args.name end there.0 there.1 there.2 in
    c.in-None.ensures host.0 host.1
