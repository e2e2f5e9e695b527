use Rattle.std.proofs.Common.{◌+◌, ◌*◌, get_or}
use Rattle.header_set.proofs.Radix.{positive_of_fit, multiplied_more, over_limit}
use Rattle.header_set.proofs.mixed_radix.bounded_product.Goals as goal

pub returns-then-total-gt-MOST_PACKETS : goal.returns-then-total-gt-MOST_PACKETS
returns-then-total-gt-MOST_PACKETS c =
    let sizes = c.args.sizes.now in
    let i = c.loop-size.size-index in
    over_limit sizes (i + 1) (c.loop-size.total * get_or sizes i 0) (positive_of_fit sizes c.requires)
    c.if-total-gt-MOST_PACKETS.true
    (multiplied_more sizes i c.loop-size.total c.loop-size-test.true c.loop-size.invariant.0)
