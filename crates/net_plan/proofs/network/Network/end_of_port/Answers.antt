use Rattle.std.proofs.Common.{◌≡◌, ℕ, ◌+◌, ◌<◌, ap, arith}
use Rattle.net_plan.specs.declared.plan.Plan.{Plan}
use Rattle.net_plan.specs.Plan.{boxes_of, box_at, ports_of}
use Rattle.net_plan.specs.Ends.{ends_of, IsEndAt}
use Rattle.net_plan.specs.declared.fact.Place.TheVariants.{Port}
use Rattle.net_plan.specs.Kept.{first_end}
use Rattle.net_plan.proofs.EndLemmas as ends
use Rattle.net_plan.proofs.TableLemmas.{ends_small}
use Rattle.net_plan.proofs.network.Network.end_of_port.Goals as goal

at_port : (plan : Plan) (box port first : ℕ) → box < boxes_of plan → port < ports_of plan (box_at plan box) →
    first ≡ first_end plan box → IsEndAt plan (first + port) (Port box port)
at_port plan box port first less in' is =
    (ends.port_ends plan (first + port) box port).1 (less, in', ap (λ (n : ℕ). n + port) is)

pub overflow_add-result : goal.overflow_add-result
overflow_add-result c =
    let within : c.first_end.result + c.args.port < ends_of c.args.self.now =
    ends.end_in_range c.args.self.now (c.first_end.result + c.args.port) (Port c.args.b c.args.port)
    (at_port c.args.self.now c.args.b c.args.port c.first_end.result c.requires.boxed c.requires.port
    c.first_end.ensures) in
    omega (arith, within, ends_small c.args.self.now c.sound.ensures)

pub returns : goal.returns
returns c =
    at_port c.args.self.now c.args.b c.args.port c.first_end.result c.requires.boxed c.requires.port c.first_end.ensures
