use Rattle.std.proofs.Common.{◌≡◌, ◌<◌, take}
use Rattle.net_plan.specs.Plan.{packets_of, fields_at}
use Rattle.net_plan.specs.Reading.{changed_at}
use Rattle.net_plan.proofs.network.Network.changed.Given as goal

-- the packet after the changes so far
abbrev pub invariant-loop-change : goal.invariant-loop-change
invariant-loop-change l = record {
  fields : fields_at l.self l.changed ≡ changed_at l.self l.p l.picked (take l.change-index l.changes);
  in_range : l.changed < packets_of l.self;
}
