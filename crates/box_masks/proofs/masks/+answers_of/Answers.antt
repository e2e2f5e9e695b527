use Rattle.box_masks.proofs.MaskLemmas.{few_bits}
use Rattle.box_masks.proofs.masks.+answers_of.Goals as goal

pub with_bit-requires : goal.with_bit-requires
with_bit-requires t c =
    few_bits c.args.queries.now c.in-Some.rest.now c.in-Some.query.now c.answers_of.result c.in-Some.ensures.cases.0 c.requires.few
    c.answers_of.ensures.below
