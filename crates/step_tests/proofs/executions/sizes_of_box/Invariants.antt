use Rattle.std.proofs.Common.{◌≡◌, map, take}
use Rattle.net_plan.specs.Plan.{arguments_of}
use Rattle.packet_state.specs.Answers.{class_of_box}
use Rattle.step_tests.proofs.executions.sizes_of_box.Given as goal

abbrev pub invariant-loop-relation : goal.invariant-loop-relation
invariant-loop-relation l =
    l.sizes ≡ map (arguments_of l.plan) (take l.relation-index (class_of_box l.plan l.b).relations)
