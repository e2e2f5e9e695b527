use Rattle.std.proofs.Common.{Some, ap, sym, ◌∙◌}
use Rattle.outside.proofs.KeepingLemmas.{first_file-here}
use Rattle.outside.proofs.keeping.bytes_in.Goals as goal

pub returns : goal.returns
returns c =
    let found = c.in_ok-place.ensures in
    ap Some c.as_slice.ensures.value
    ∙ sym (first_file-here c.args.kept.now c.in_ok-place.place c.index-kept-place.result c.args.name.now found.within
    found.first (found.here c.index-kept-place.result))
