use Rattle.std.proofs.Common.{◌≡◌, ◌≤◌, ◌/◌, length, drop}
use Rattle.header_set.specs.Headers.{product}
use Rattle.abstract_step.proofs.PlaceLemmas.{AreReadFrom}
use Rattle.abstract_step.proofs.place.read_fields.Given as goal

-- the fields from a place on are read, and what is left of the packet is of those before it
abbrev pub invariant-loop-k : goal.invariant-loop-k
invariant-loop-k l =
    (l.k ≤ length l.headers) × (length l.fields ≡ length l.headers) × (l.rest ≡ l.p / product (drop l.k l.headers))
    × AreReadFrom l.headers l.p l.k l.fields

abbrev pub decreases-loop-k : goal.decreases-loop-k
decreases-loop-k l = l.k
