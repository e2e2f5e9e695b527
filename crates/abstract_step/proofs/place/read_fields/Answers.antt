use Rattle.std.proofs.Common.{rules}
use Rattle.abstract_step.proofs.PlaceLemmas.{fields_next, all_read}
use Rattle.abstract_step.proofs.place.read_fields.Goals as goal

pub loop-k-preserved : goal.loop-k-preserved
loop-k-preserved c =
    fields_next c.args.headers.now c.args.p c.loop-k.k c.size-size.result c.loop-k.rest c.loop-k.fields (search rules)
    c.size-size.ensures.size c.loop-k.invariant

pub returns : goal.returns
returns c =
    all_read c.args.headers.now c.args.p c.loop-k.fields c.loop-k.invariant.1
    (λ j from within. c.loop-k.invariant.3 j (search rules) within)
