use Rattle.std.proofs.Common.{◌≡◌, map, take}
use Rattle.net_plan.specs.Plan.{values_of}
use Rattle.step_tests.proofs.executions.sizes_of_relation.Given as goal

abbrev pub invariant-loop-kind : goal.invariant-loop-kind
invariant-loop-kind l = l.sizes ≡ map (values_of l.plan) (take l.kind-index l.relation.kinds)
