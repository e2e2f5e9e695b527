use Rattle.std.proofs.Common.{◌≡◌, ◌*◌, drop}
use Rattle.header_set.specs.Headers.{product}
use Rattle.header_set.proofs.mixed_radix.product_of.Given as goal

abbrev pub invariant-loop-size : goal.invariant-loop-size
invariant-loop-size l = l.total * product (drop l.size-index l.sizes) ≡ product l.sizes
