use Rattle.std.proofs.Common.{map}
use Rattle.box_handlers.specs.Tuple.{value_of}
use Rattle.net_plan.specs.Plan.{values_of, fields_at}
use Rattle.net_plan.proofs.ReadLemmas.{IsSoFar}
use Rattle.net_plan.proofs.network.Network.number_of.Given as goal

abbrev pub invariant-loop-place : goal.invariant-loop-place
invariant-loop-place l =
    IsSoFar (map (values_of l.self) l.kinds) (map (value_of (fields_at l.self l.p) l.picked) l.terms) l.place l.tuple
