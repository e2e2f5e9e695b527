use Rattle.std.proofs.Common.{◌≡◌, ◌+◌, ◌*◌, drop, map}
use Rattle.box_handlers.specs.Body.{all_of, formula_of, formula_of_probe}
use Rattle.box_handlers.specs.Size.{literals_in}
use Rattle.handler_runs.proofs.GuardLemmas.{all_behind, some_behind}
use Rattle.abstract_step.specs.Masks.{marked}
use Rattle.abstract_step.specs.Walk.{scene_at}
use Rattle.abstract_step.proofs.guards.+tests.Given as goal

-- no list so far holds
abbrev pub invariant-test_holds-loop-probes : goal.invariant-test_holds-loop-probes
invariant-test_holds-loop-probes l =
    some_behind (scene_at l.place l.picked) (marked l.place.tuples.now l.mask) l.test.any
    ≡ some_behind (scene_at l.place l.picked) (marked l.place.tuples.now l.mask) (drop l.probes-index l.test.any)

-- each probe so far holds
abbrev pub invariant-all_hold-loop-probe : goal.invariant-all_hold-loop-probe
invariant-all_hold-loop-probe l =
    all_behind (scene_at l.place l.picked) (marked l.place.tuples.now l.mask) l.probes
    ≡ all_behind (scene_at l.place l.picked) (marked l.place.tuples.now l.mask) (drop l.probe-index l.probes)

abbrev pub decreases-test_holds : goal.decreases-test_holds
decreases-test_holds l = 4 * literals_in (formula_of l.test.now) + 3

abbrev pub decreases-all_hold : goal.decreases-all_hold
decreases-all_hold l = 4 * literals_in (all_of (map formula_of_probe l.probes.now)) + 2

abbrev pub decreases-probe_holds : goal.decreases-probe_holds
decreases-probe_holds l = 4 * literals_in (formula_of_probe l.probe.now)

abbrev pub decreases-denied : goal.decreases-denied
decreases-denied l = 4 * literals_in (formula_of_probe l.probe.now) + 1
