use Rattle.std.proofs.Common.{◌≡◌, drop}
use Rattle.handler_runs.specs.Code.{scene_by}
use Rattle.handler_runs.proofs.GuardLemmas.{all_behind, some_behind}
use Rattle.handler_runs.proofs.guards.+tests.Given as goal

-- no list so far holds
abbrev pub invariant-test_holds-loop-probes : goal.invariant-test_holds-loop-probes
invariant-test_holds-loop-probes l =
    some_behind (scene_by l.setting l.picked) l.contents l.test.any
    ≡ some_behind (scene_by l.setting l.picked) l.contents (drop l.probes-index l.test.any)

-- each probe so far holds
abbrev pub invariant-all_hold-loop-probe : goal.invariant-all_hold-loop-probe
invariant-all_hold-loop-probe l =
    all_behind (scene_by l.setting l.picked) l.contents l.probes
    ≡ all_behind (scene_by l.setting l.picked) l.contents (drop l.probe-index l.probes)
