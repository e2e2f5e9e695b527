use Rattle.std.proofs.Common.{◌≡◌, map, take}
use Rattle.net_plan.specs.Plan.{arguments_of}
use Rattle.concrete_net.proofs.arguments.sizes_of_class.Given as goal

abbrev pub invariant-loop-relation : goal.invariant-loop-relation
invariant-loop-relation l = l.sizes ≡ map (arguments_of l.plan) (take l.relation-index l.class.relations)
