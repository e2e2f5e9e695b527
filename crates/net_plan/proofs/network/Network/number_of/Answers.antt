use Rattle.std.proofs.Common.{◌≡◌, ◌+◌, ◌*◌, ◌≤◌, length, map, slice_index_or, refl, arith}
use Rattle.std.proofs.Math.Facts.{Fits-below}
use Rattle.std.proofs.lemmas.List.{length-map}
use Rattle.box_handlers.specs.declared.act.Term.TheVariants.{Field}
use Rattle.box_handlers.specs.Tuple.{value_of}
use Rattle.net_plan.specs.Plan.{values_of, fields_at}
use Rattle.net_plan.proofs.ReadLemmas.{terms_long, kind_within, read_here, step_here, small_here, all_so_far}
use Rattle.net_plan.proofs.network.Network.number_of.Goals as goal

pub bounds-kinds-place : goal.bounds-kinds-place
bounds-kinds-place c =
    kind_within c.args.self.now c.args.kinds.now c.args.terms.now c.args.p c.args.picked.now c.loop-place.place
    c.loop-place.tuple 0 (Field 0)
    c.sound.ensures c.requires.kinds c.requires.few c.requires.fit c.loop-place-test.true

pub overflow_mul-tuple : goal.overflow_mul-tuple
overflow_mul-tuple c =
    let small : c.loop-place.tuple * c.values.result +
    (value_of (fields_at c.args.self.now c.args.p) c.args.picked.now
    (slice_index_or c.args.terms.now c.loop-place.place (Field 0))) + 1 ≤ 65536 =
    small_here c.args.self.now c.args.kinds.now c.args.terms.now c.args.p c.args.picked.now c.loop-place.place
    c.loop-place.tuple c.values.result (Field 0)
    c.sound.ensures c.requires.kinds c.requires.few c.requires.fit c.loop-place-test.true
    c.values.ensures
    (value_of (fields_at c.args.self.now c.args.p) c.args.picked.now
    (slice_index_or c.args.terms.now c.loop-place.place (Field 0))) refl c.loop-place.invariant in
    let less : c.loop-place.tuple * c.values.result ≤ 65536 = omega (arith, small) in
    Fits-below {n = 65536} tt less

pub value_at-requires-clause-read : goal.value_at-requires-clause-read
value_at-requires-clause-read c =
    read_here c.args.self.now c.args.kinds.now c.args.terms.now c.args.p c.args.picked.now c.loop-place.place
    c.loop-place.tuple c.values.result (Field 0)
    c.sound.ensures c.requires.kinds c.requires.few c.requires.fit c.loop-place-test.true

pub overflow_add-tuple : goal.overflow_add-tuple
overflow_add-tuple c =
    let small : c.loop-place.tuple * c.values.result + c.value_at.result + 1 ≤ 65536 =
    small_here c.args.self.now c.args.kinds.now c.args.terms.now c.args.p c.args.picked.now c.loop-place.place
    c.loop-place.tuple c.values.result (Field 0)
    c.sound.ensures c.requires.kinds c.requires.few c.requires.fit c.loop-place-test.true
    c.values.ensures c.value_at.result c.value_at.ensures c.loop-place.invariant in
    let less : c.loop-place.tuple * c.values.result + c.value_at.result ≤ 65536 = omega (arith, small) in
    Fits-below {n = 65536} tt less

pub loop-place-preserved : goal.loop-place-preserved
loop-place-preserved c =
    step_here c.args.self.now c.args.kinds.now c.args.terms.now c.args.p c.args.picked.now c.loop-place.place
    c.loop-place.tuple c.values.result (Field 0)
    c.sound.ensures c.requires.kinds c.requires.few c.requires.fit c.loop-place-test.true
    c.values.ensures c.value_at.result c.value_at.ensures c.loop-place.invariant

pub returns : goal.returns
returns c =
    let fit = c.requires.fit in
    let long : length c.args.terms.now ≡ length c.args.kinds.now =
    terms_long c.args.self.now fit.0 fit.1 c.args.picked.now fit.2 c.args.kinds.now c.args.terms.now fit.3 in
    let sizes : length (map (values_of c.args.self.now) c.args.kinds.now) ≡ length c.args.kinds.now =
    length-map c.args.kinds.now (values_of c.args.self.now) in
    all_so_far (map (values_of c.args.self.now) c.args.kinds.now)
    (map (value_of (fields_at c.args.self.now c.args.p) c.args.picked.now) c.args.terms.now)
    c.loop-place.place c.loop-place.tuple (omega (arith, long, sizes, c.loop-place-test.false)) c.loop-place.invariant
