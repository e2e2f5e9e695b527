use Rattle.box_masks.proofs.MaskLemmas.{few_bits}
use Rattle.query_tables.proofs.masks.+alike.Goals as goal

pub with_bit-requires : goal.with_bit-requires
with_bit-requires t c =
    few_bits c.args.one.now c.in-Some.rest.now c.in-Some.tuple.now c.alike.result c.in-Some.ensures.cases.0
    c.requires.few c.alike.ensures.below
