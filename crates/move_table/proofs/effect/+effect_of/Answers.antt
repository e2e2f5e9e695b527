use Rattle.std.proofs.Common.{ℕ, ◌<◌, ◌^◌, length}
use Rattle.box_masks.proofs.MaskLemmas.{few_bits}
use Rattle.move_table.proofs.effect.+effect_of.Goals as goal

pub with_tuple-requires : goal.with_tuple-requires
with_tuple-requires t c =
    let behind = c.effect_of-behind.result in
    let below = c.effect_of-behind.ensures.below in
    let small : (mask : ℕ) → mask < 2 ^ length c.in-Some.rest.now → mask < 2 ^ 12 =
    λ mask. few_bits c.args.others.now c.in-Some.rest.now c.in-Some.other.now mask c.in-Some.ensures.cases.0 c.requires.few in
    record {
      written = small behind.written below.written;
      values = small behind.values below.values;
      known = small behind.known below.known;
      bits = small behind.bits below.bits;
    }
