use Rattle.std.proofs.Common.{◌≡◌, false, eqb}
use Rattle.std.specs.Cmp.Lexicographic.{pointwise}
use Rattle.outside.proofs.KeepingLemmas.{first_file-take_more}
use Rattle.outside.proofs.keeping.place_of.Goals as goal

pub loop-place-preserved : goal.loop-place-preserved
loop-place-preserved c =
    let other : false ≡ pointwise eqb c.index-kept-place.result.name.items c.args.name.now = cc in
    first_file-take_more c.args.kept.now c.loop-place.place c.index-kept-place.result c.args.name.now
    c.loop-place-test.true c.index-kept-place.is c.loop-place.invariant other
