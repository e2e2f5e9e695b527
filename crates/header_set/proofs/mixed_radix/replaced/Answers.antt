use Rattle.std.proofs.Common.{◌≡◌, ℕ, ◌+◌, ◌-◌, ◌*◌, ap, ◌∙◌, arith}
use Rattle.header_set.specs.Headers.{weight, field_of}
use Rattle.header_set.proofs.Radix.{positive_sizes, packet_in_parts, replaced_parts}
use Rattle.header_set.proofs.mixed_radix.replaced.Goals as goal

pub overflow_sub-rest : goal.overflow_sub-rest
overflow_sub-rest c =
    let sizes = c.args.sizes.now in
    let p = c.args.p in
    let k = c.args.k in
    let step = c.weight_of-weight.result in
    let old : c.value_at.result * step ≡ field_of sizes p k * weight sizes k =
    ap (λ (n : ℕ). n * step) c.value_at.ensures.value
    ∙ ap (λ (n : ℕ). field_of sizes p k * n) c.weight_of-weight.ensures.weight in
    omega (arith, old, packet_in_parts sizes p k (positive_sizes sizes c.requires.headers) c.requires.in_range)

pub returns : goal.returns
returns c =
    let sizes = c.args.sizes.now in
    let p = c.args.p in
    let k = c.args.k in
    let x = c.args.x in
    let step = c.weight_of-weight.result in
    let old : c.value_at.result * step ≡ field_of sizes p k * weight sizes k =
    ap (λ (n : ℕ). n * step) c.value_at.ensures.value
    ∙ ap (λ (n : ℕ). field_of sizes p k * n) c.weight_of-weight.ensures.weight in
    let new : x * step ≡ x * weight sizes k = ap (λ (n : ℕ). x * n) c.weight_of-weight.ensures.weight in
    replaced_parts sizes p k x (p - c.value_at.result * step + x * step) (positive_sizes sizes c.requires.headers)
    c.requires.packet c.requires.in_range c.requires.value
    (omega (arith, old, new, packet_in_parts sizes p k (positive_sizes sizes c.requires.headers) c.requires.in_range))
