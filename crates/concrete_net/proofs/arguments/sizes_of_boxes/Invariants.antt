use Rattle.std.proofs.Common.{◌≡◌, map, take}
use Rattle.net_plan.specs.Plan.{class_of}
use Rattle.net_runs.specs.World.{relations_of}
use Rattle.concrete_net.proofs.arguments.sizes_of_boxes.Given as goal

abbrev pub invariant-loop-boxed : goal.invariant-loop-boxed
invariant-loop-boxed l =
    l.sizes ≡ map (λ box. relations_of l.plan (class_of l.plan box)) (take l.boxed-index l.plan.boxes)
