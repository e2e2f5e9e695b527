use Rattle.std.proofs.Common.{sym, ◌∙◌}
use Rattle.std.proofs.lemmas.Result.{err_from_is_err_and}
use Rattle.amdl_parser.proofs.Loops.{gather_end}
use Rattle.schedule_text.specs.Readings.{starts_step, step_at, steps_at}
use Rattle.schedule_text.proofs.LoopFaults.{error_of, gathering_faulted}
use Rattle.schedule_text.proofs.primitive.Tokens.steps.Goals as goal

pub returns-in_err-step-clause-read : goal.returns-in_err-step-clause-read
returns-in_err-step-clause-read c =
    let p = err_from_is_err_and c.from_residual.result c.from_residual.ensures.1 in
    gathering_faulted starts_step step_at steps_at _ _ _ _ _ _ c.loop-alloc.invariant.gathering
    (sym c.begin_with_a_step.ensures ∙ c.loop-alloc-test.true) c.in_err-step.ensures.read (error_of _ _ p)

pub returns-clause-read : goal.returns-clause-read
returns-clause-read c =
    gather_end starts_step step_at steps_at _ _ _ c.loop-alloc.invariant.gathering
    (sym c.begin_with_a_step.ensures ∙ c.loop-alloc-test.false)
