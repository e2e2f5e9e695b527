use Rattle.std.proofs.Common.{arith}
use Rattle.std.proofs.lemmas.Result.{err_from_is_err_and}
use Rattle.outside.proofs.StreamLemmas.{block-over, block-front}
use Rattle.outside.proofs.streams.read_all.Goals as goal

pub returns-in_err-taken-clause-over : goal.returns-in_err-taken-clause-over
returns-in_err-taken-clause-over g c =
    let p = err_from_is_err_and c.from_residual.result c.from_residual.ensures.1 in
    rw (p.1, p.2)
    (λ e. block-over _ _ _ _ c.loop-taken.left _ _ _ _ (omega arith) c.loop-taken.invariant.1
    (c.in_err-taken.ensures.over (cc)))

pub returns-in_err-taken-clause-front : goal.returns-in_err-taken-clause-front
returns-in_err-taken-clause-front g c =
    let p = err_from_is_err_and c.from_residual.result c.from_residual.ensures.1 in
    rw p.1 (block-front _ _ _ c.loop-taken.left _ _ _ _
    (omega arith) c.loop-taken.invariant.1 c.in_err-taken.ensures.front)
