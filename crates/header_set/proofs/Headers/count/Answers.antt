use Rattle.std.proofs.Common.{ap, arith}
use Rattle.header_set.specs.Headers.{product}
use Rattle.header_set.proofs.Radix.{positive_sizes, product_positive}
use Rattle.header_set.proofs.Headers.count.Goals as goal

pub returns-clause-positive : goal.returns-clause-positive
returns-clause-positive c =
    omega (
      arith,
      c.product_of.ensures,
      ap product c.sizes.ensures.sizes,
      product_positive c.args.self.now (positive_sizes c.args.self.now c.sizes.ensures.headers),
    )
