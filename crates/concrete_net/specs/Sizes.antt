-- How many values the arguments of the relations of boxes have.
use Rattle.std.specs.Prelude.{ℕ, List, map}
use Rattle.net_plan.specs.declared.plan.Plan.{Plan}
use Rattle.net_plan.specs.Plan.{class_of}
use Rattle.net_runs.specs.World.{relations_of}

-- for each box, for each of its relations, how many values each argument has
abbrev pub argument_sizes : Plan → List (List (List ℕ))
argument_sizes plan = map (λ box. relations_of plan (class_of plan box)) plan.boxes
