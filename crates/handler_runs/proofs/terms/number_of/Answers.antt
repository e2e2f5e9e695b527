use Rattle.handler_runs.proofs.CodeLemmas.{digit_more, no_digit, no_size}
use Rattle.handler_runs.proofs.terms.number_of.Goals as goal

pub returns-in-None : goal.returns-in-None
returns-in-None c =
    no_digit c.args.sizes.now c.args.values.now c.loop-place.place c.loop-place.number _
    c.in-None.ensures.lookup.3 c.loop-place.invariant

pub loop-place-preserved : goal.loop-place-preserved
loop-place-preserved c =
    digit_more c.args.sizes.now c.args.values.now c.loop-place.place c.loop-place.number c.in-Some.value.now _
    c.saturating_mul.result c.saturating_add-number.result c.loop-place-test.true
    c.in-Some.ensures.lookup.3.0 c.in-Some.ensures.lookup.1 c.loop-place.invariant c.saturating_mul.ensures
    c.saturating_add-number.ensures

pub returns : goal.returns
returns c =
    no_size c.args.sizes.now c.args.values.now c.loop-place.place c.loop-place.number _ c.loop-place-test.false
    c.loop-place.invariant
