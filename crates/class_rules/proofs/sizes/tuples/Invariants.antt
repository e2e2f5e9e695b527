use Rattle.std.proofs.Common.{◌≡◌, take}
use Rattle.header_set.specs.Headers.{product}
use Rattle.handler_sizes.specs.Capped.{capped}
use Rattle.class_rules.proofs.sizes.tuples.Given as goal

-- the product of the sizes so far
abbrev pub invariant-loop-size : goal.invariant-loop-size
invariant-loop-size l = l.tuples ≡ capped (product (take l.size-index l.sizes))
