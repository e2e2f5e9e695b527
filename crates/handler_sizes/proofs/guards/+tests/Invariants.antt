use Rattle.std.proofs.Common.{◌≡◌, map, take}
use Rattle.box_handlers.specs.Body.{all_of, any_of, formula_of_probe}
use Rattle.box_handlers.specs.Size.{literals_in}
use Rattle.handler_sizes.specs.Capped.{capped}
use Rattle.handler_sizes.proofs.guards.+tests.Given as goal

-- the literals of the lists so far
abbrev pub invariant-test_literals-loop-probes : goal.invariant-test_literals-loop-probes
invariant-test_literals-loop-probes l =
    l.total ≡ capped (literals_in (any_of (map (map formula_of_probe) (take l.probes-index l.test.any))))

-- the literals of the probes so far
abbrev pub invariant-probes_literals-loop-probe : goal.invariant-probes_literals-loop-probe
invariant-probes_literals-loop-probe l =
    l.total ≡ capped (literals_in (all_of (map formula_of_probe (take l.probe-index l.probes))))
