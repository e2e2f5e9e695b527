use Rattle.std.proofs.Common.{◌≡◌, ℕ, ◌<◌, Some}
use Rattle.header_set.specs.Headers.{field_of}
use Rattle.header_set.specs.Pattern.{fixed_at}
use Rattle.header_set.proofs.Pattern.matches.Given as goal

abbrev pub invariant-loop-k : goal.invariant-loop-k
invariant-loop-k l = (k x : ℕ) → k < l.k → fixed_at l.self k ≡ Some x → field_of l.headers l.p k ≡ x
