use Rattle.std.proofs.Common.{◌≡◌, ◌+◌, ◌-◌, ◌/◌, ◌%◌, ◌^◌, ◌<◌, ◌≤◌, [], ◌∷◌, ◌++◌, length, drop, sym, ap, ◌∙◌}
use Rattle.std.proofs.Common.{append-nil, refl, arith}
use Rattle.std.specs.Fmt.{decimal}
use Rattle.std.proofs.lemmas.Fmt.{decimal_step, decimal_digit, decimal_nonempty, length-decimal-le}
use Rattle.std.proofs.lemmas.List.{length-set}
use Rattle.plan_text.proofs.DigitLemmas.{digit_stored, length-front_digits}
use Rattle.plan_text.proofs.digits.Digits.of.Goals as goal

pub loop-left-init : goal.loop-left-init
loop-left-init c =
    let fits : c.args.n < 2 ^ 64 = c.ranges.n.fits in record {
      digits = sym (append-nil (decimal c.args.n));
      room = length-decimal-le 20 c.args.n (omega arith) (omega arith) fits;
      within = omega arith;
      size = refl;
    }

pub overflow_sub-start : goal.overflow_sub-start
overflow_sub-start c =
    omega (arith, decimal_nonempty c.loop-left.left c.loop-left.auto.left-fits.fits, c.loop-left.invariant.room)

pub loop-left-preserved : goal.loop-left-preserved
loop-left-preserved c =
    let l = c.loop-left in
    let fits : l.left < 2 ^ 64 = l.auto.left-fits.fits in
    let shorter = length-front_digits l.left c.loop-left-test.true fits in
    let room : length (decimal (l.left / 10)) ≤ l.start - 1 = omega (arith, shorter, l.invariant.room) in
    let some : 1 ≤ l.start = omega (arith, shorter, l.invariant.room) in
    let within : l.start ≤ length l.bytes = omega (arith, l.invariant.within, l.invariant.size) in record {
      digits = digit_stored (decimal c.args.n) (decimal (l.left / 10)) l.bytes (48 + l.left % 10) l.start some within
          (l.invariant.digits ∙ ap (λ t. t ++ drop l.start l.bytes) (decimal_step l.left c.loop-left-test.true fits));
      room = room;
      within = omega (arith, l.invariant.within);
      size = length-set l.bytes (l.start - 1) (48 + l.left % 10) ∙ l.invariant.size;
    }

pub overflow_sub-start-2 : goal.overflow_sub-start-2
overflow_sub-start-2 c =
    omega (arith, decimal_nonempty c.loop-left.left c.loop-left.auto.left-fits.fits, c.loop-left.invariant.room)

pub returns : goal.returns
returns c =
    let l = c.loop-left in
    let some : 1 ≤ l.start = omega (arith, decimal_nonempty l.left l.auto.left-fits.fits, l.invariant.room) in
    let within : l.start ≤ length l.bytes = omega (arith, l.invariant.within, l.invariant.size) in
    let one : decimal l.left ≡ (48 + l.left) ∷ [] = decimal_digit l.left c.loop-left-test.false in
    sym (digit_stored (decimal c.args.n) [] l.bytes (48 + l.left) l.start some within
    (l.invariant.digits ∙ ap (λ t. t ++ drop l.start l.bytes) one))
