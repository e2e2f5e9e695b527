use Rattle.std.proofs.Common.{◌≡◌, drop}
use Rattle.handler_runs.specs.Code.{scene_by}
use Rattle.handler_runs.proofs.GuardLemmas.{branches_behind}
use Rattle.handler_runs.proofs.guards.any_holds.Given as goal

-- no guard so far is true
abbrev pub invariant-loop-branch : goal.invariant-loop-branch
invariant-loop-branch l =
    branches_behind (scene_by l.setting l.picked) l.contents l.branches
    ≡ branches_behind (scene_by l.setting l.picked) l.contents (drop l.branch-index l.branches)
