use Rattle.std.proofs.Common.{◌+◌, ◌*◌, length, sym, ap, ◌∙◌, arith}
use Rattle.tree_plan.specs.Names.{number_of}
use Rattle.tree_network.proofs.TupleLemmas.{tuple_more}
use Rattle.tree_network.proofs.boxes.tuple_of_values.Goals as goal

pub loop-place-preserved : goal.loop-place-preserved
loop-place-preserved c = record {
  long = c.loop-place.invariant.long;
  before =
      tuple_more c.args.kinds.now c.args.arguments.now c.args.values.now c.loop-place.tuple c.in_ok-tuple.tuple
      c.loop-place.place c.in-Some-2.value
      c.index-arguments-place.result c.index-values-place.result c.in-Some.kind.now
      c.loop-place-test.true c.index-arguments-place.is
      (omega (arith, c.loop-place.invariant.long, c.loop-place-test.true)) c.index-values-place.is
      c.loop-place.invariant.before c.in-Some.ensures
      (sym c.in-Some-2.is ∙ c.in_ok-value.ensures
      ∙ ap (λ t. number_of t c.index-values-place.result) c.as_slice.ensures)
      (c.in_ok-tuple.ensures
      ∙ ap (λ t. c.loop-place.tuple * length t + c.in-Some-2.value) c.as_slice-in-loop-place.ensures);
}
