use Rattle.std.proofs.Common.{◌≡◌, drop}
use Rattle.handler_runs.specs.Code.{scene_by, standing}
use Rattle.handler_runs.proofs.ActLemmas.{acts_from}
use Rattle.handler_runs.proofs.acts.+acts.Given as goal

-- the statements behind are still to run
abbrev pub invariant-block_runs-loop-act : goal.invariant-block_runs-loop-act
invariant-block_runs-loop-act l =
    acts_from (scene_by l.setting l.picked) l.acts (standing l.fn.progress)
    ≡ acts_from (scene_by l.setting l.picked) (drop l.act-index l.acts) (standing l.progress)
