use Rattle.std.proofs.Common.{ℕ, ◌/◌, ◌%◌, get_or, ap}
use Rattle.header_set.specs.Headers.{field_of}
use Rattle.header_set.proofs.mixed_radix.value_at.Goals as goal

pub returns-clause-value : goal.returns-clause-value
unfolding field_of
returns-clause-value c =
    ap (λ (step : ℕ). c.args.p / step % get_or c.args.sizes.now c.args.k 0) c.weight_of.ensures.weight
