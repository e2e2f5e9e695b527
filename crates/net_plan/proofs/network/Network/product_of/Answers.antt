use Rattle.std.proofs.Common.{◌≡◌, ◌+◌, ◌*◌, ◌≤◌, map, drop, arith}
use Rattle.std.proofs.Math.Facts.{Fits-below}
use Rattle.box_handlers.specs.Tuple.{tuples_over}
use Rattle.net_plan.specs.Plan.{values_of}
use Rattle.net_plan.proofs.ReadLemmas.{rest_some, before_rest, sizes_some, kind_more}
use Rattle.net_plan.proofs.network.Network.product_of.Goals as goal

pub overflow_mul-tuples : goal.overflow_mul-tuples
overflow_mul-tuples c =
    let more : (c.loop-kind.tuples * c.values-tuples.result) * tuples_over
    (drop (c.loop-kind.kind-index + 1) (map (values_of c.args.self.now) c.args.kinds.now))
    ≡ tuples_over (map (values_of c.args.self.now) c.args.kinds.now) =
    kind_more c.args.self.now c.args.kinds.now c.loop-kind.kind-index c.loop-kind.tuples c.values-tuples.result
    c.loop-kind-test.true c.values-tuples.ensures c.loop-kind.invariant in
    let within : c.loop-kind.tuples * c.values-tuples.result ≤ tuples_over
    (map (values_of c.args.self.now) c.args.kinds.now) =
    before_rest (c.loop-kind.tuples * c.values-tuples.result)
    (tuples_over (drop (c.loop-kind.kind-index + 1) (map (values_of c.args.self.now) c.args.kinds.now)))
    (tuples_over (map (values_of c.args.self.now) c.args.kinds.now))
    (rest_some (map (values_of c.args.self.now) c.args.kinds.now) (c.loop-kind.kind-index + 1)
    (sizes_some c.args.self.now c.args.kinds.now c.sound.ensures c.requires.kinds))
    (omega (arith, more)) in
    let less : c.loop-kind.tuples * c.values-tuples.result ≤ 65536 = omega (arith, within, c.requires.few) in
    Fits-below {n = 65536} tt less

pub loop-kind-preserved : goal.loop-kind-preserved
loop-kind-preserved c =
    kind_more c.args.self.now c.args.kinds.now c.loop-kind.kind-index c.loop-kind.tuples c.values-tuples.result
    c.loop-kind-test.true c.values-tuples.ensures c.loop-kind.invariant
