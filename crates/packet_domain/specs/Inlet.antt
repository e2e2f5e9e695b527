-- The end that is linked to a port of a box.
use Rattle.std.specs.Prelude.{◌<◌}
use Rattle.net_plan.specs.declared.plan.Plan.{Plan}
use Rattle.net_plan.specs.Plan.{boxes_of, box_at, ports_of}
use Rattle.net_plan.specs.Ends.{ends_of}
use Rattle.packet_domain.specs.declared.inlet.Inlet.{Inlet}
use Rattle.packet_domain.specs.Reasons.{LeadsTo}

pub record IsInlet (plan : Plan) (inlet : Inlet) : Type 0 where
  pub leads : LeadsTo plan inlet.end inlet.b inlet.port
  pub end : inlet.end < ends_of plan
  pub boxed : inlet.b < boxes_of plan
  pub port : inlet.port < ports_of plan (box_at plan inlet.b)
