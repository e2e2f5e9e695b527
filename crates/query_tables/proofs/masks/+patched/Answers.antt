use Rattle.box_masks.proofs.MaskLemmas.{few_bits}
use Rattle.query_tables.proofs.masks.+patched.Goals as goal

pub with_bit-requires : goal.with_bit-requires
with_bit-requires t c =
    few_bits c.args.tuples.now c.in-Some.rest.now c.in-Some.tuple.now c.patched.result c.in-Some.ensures.cases.0
    c.requires.few c.patched.ensures.below
