use Rattle.std.proofs.Common.{◌+◌, ◌*◌, ◌≤◌, get_or, arith}
use Rattle.std.proofs.Math.Facts.{Fits-below}
use Rattle.header_set.specs.Headers.{product}
use Rattle.header_set.proofs.Radix.{positive_of_fit, multiplied_more, part_within}
use Rattle.header_set.proofs.mixed_radix.product_of.Goals as goal

pub overflow_mul-total : goal.overflow_mul-total
overflow_mul-total c =
    let sizes = c.args.sizes.now in
    let i = c.loop-size.size-index in
    let total = c.loop-size.total in
    let within : total * get_or sizes i 0 ≤ product sizes =
    part_within sizes (i + 1) (total * get_or sizes i 0) (positive_of_fit sizes c.requires.fit)
    (multiplied_more sizes i total c.loop-size-test.true c.loop-size.invariant) in
    Fits-below {n = 65536} tt (omega (arith, within, c.requires.few_packets))
