use Rattle.std.proofs.Common.{◌≡◌, ℕ, ◌+◌, ◌*◌, ◌≤◌, get_or, ap, sym, ◌∙◌, subst, arith}
use Rattle.header_set.specs.Headers.{product, weight}
use Rattle.header_set.proofs.Radix.{positive_sizes, rest_within, rest_positive, block_within, whole_rest}
use Rattle.header_set.proofs.mixed_radix.weight_of.Goals as goal

pub product_of-requires-clause-few_packets : goal.product_of-requires-clause-few_packets
product_of-requires-clause-few_packets c =
    let sizes = c.args.sizes.now in
    let n = c.args.k + 1 in
    omega (
      arith,
      ap product (whole_rest sizes n),
      rest_within sizes n (positive_sizes sizes c.requires.headers),
      c.requires.headers.few_packets,
    )

pub returns-clause-positive : goal.returns-clause-positive
returns-clause-positive c =
    let sizes = c.args.sizes.now in
    let n = c.args.k + 1 in
    omega (
      arith,
      c.product_of.ensures,
      ap product (whole_rest sizes n),
      rest_positive sizes n (positive_sizes sizes c.requires.headers),
    )

pub returns-clause-bounded : goal.returns-clause-bounded
returns-clause-bounded c =
    let sizes = c.args.sizes.now in
    let k = c.args.k in
    let is : c.product_of.result ≡ weight sizes k = c.product_of.ensures ∙ ap product (whole_rest sizes (k + 1)) in
    subst (λ (n : ℕ). get_or sizes k 0 * n ≤ 65536) (sym is)
    (omega (
      arith,
      block_within sizes k (positive_sizes sizes c.requires.headers) c.requires.in_range,
      c.requires.headers.few_packets,
    ))
