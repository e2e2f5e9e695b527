use Rattle.std.proofs.Common.{ℕ, arith, length-take}
use Rattle.outside.proofs.StreamLemmas.{over_block, ReadsFront-from_over, ReadsFront-from_err}
use Rattle.outside.proofs.streams.read_block.Goals as goal

pub returns-in-Ok-clause-over : goal.returns-in-Ok-clause-over
returns-in-Ok-clause-over g c = λ e.
    over_block _ _ _ _ _ _ c.in-Ok.ensures.bytes.0 (omega (arith, length-take {A = ℕ})) (c.append_within.ensures.over e)
    (c.append_within.ensures.cut e)

pub returns-in-Ok-clause-front : goal.returns-in-Ok-clause-front
returns-in-Ok-clause-front g c =
    ReadsFront-from_err _ _ _ _ c.append_within.result
    (λ e. ReadsFront-from_over _ _ _ _ _
    (over_block _ _ _ _ _ _ c.in-Ok.ensures.bytes.0 (omega (arith, length-take {A = ℕ}))
    (c.append_within.ensures.over e) (c.append_within.ensures.cut e)))
    c.append_within.ensures.no_memory
