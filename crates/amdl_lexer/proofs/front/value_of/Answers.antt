use Rattle.std.proofs.Common.{arith}
use Rattle.amdl_lexer.proofs.Numbers.{value_fits}
use Rattle.amdl_lexer.proofs.front.value_of.Goals as goal

pub overflow_mul-value : goal.overflow_mul-value
overflow_mul-value c =
    let fits =
    value_fits c.args.digits.now c.loop-digit.digit-index c.requires.digits c.requires.few c.loop-digit-test.true in
    omega (arith, fits, c.loop-digit.invariant)

pub overflow_add-value : goal.overflow_add-value
overflow_add-value c =
    let fits =
    value_fits c.args.digits.now c.loop-digit.digit-index c.requires.digits c.requires.few c.loop-digit-test.true in
    omega (arith, fits, c.loop-digit.invariant)
