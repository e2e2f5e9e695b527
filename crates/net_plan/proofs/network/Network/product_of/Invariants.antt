use Rattle.std.proofs.Common.{◌≡◌, ◌*◌, map, drop}
use Rattle.box_handlers.specs.Tuple.{tuples_over}
use Rattle.net_plan.specs.Plan.{values_of}
use Rattle.net_plan.proofs.network.Network.product_of.Given as goal

-- the product of the sizes so far, times that of the others, is that of all
abbrev pub invariant-loop-kind : goal.invariant-loop-kind
invariant-loop-kind l =
    l.tuples * tuples_over (drop l.kind-index (map (values_of l.self) l.kinds))
    ≡ tuples_over (map (values_of l.self) l.kinds)
