use Rattle.std.proofs.Common.{drop, ◌∙◌}
use Rattle.std.proofs.lemmas.Result.{IfOk-weaker}
use Rattle.handler_runs.specs.Code.{scene_by, standing}
use Rattle.handler_runs.specs.Run.{with_left}
use Rattle.handler_runs.proofs.ActLemmas.{branch_there}
use Rattle.handler_runs.proofs.acts.+acts.Goals as goal

pub numbered_runs-returns-in-Some : goal.numbered_runs-returns-in-Some
numbered_runs-returns-in-Some t c =
    let now = standing c.args.progress.now in
    IfOk-weaker c.branch_runs.result _ _
    (λ course is. branch_there (scene_by c.args.setting.now c.args.picked.now) c.args.branches.now c.args.number
    now.left
    (with_left now (drop 1 now.left)) c.in-Some.branch.now c.in-Some.ensures.lookup.3.0 c.in-Some.ensures.lookup.1 ∙ is)
    c.branch_runs.ensures
