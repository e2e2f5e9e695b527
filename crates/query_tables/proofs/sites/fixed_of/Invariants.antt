use Rattle.std.proofs.Common.{ℕ, ◌≡◌, ◌<◌, ◌^◌}
use Rattle.std.specs.Int.{bit_at}
use Rattle.std.specs.List.{AllWithin, slice_get}
use Rattle.query_tables.specs.Sites.{AreFixed}
use Rattle.query_tables.specs.Spots.{IsLike}
use Rattle.query_tables.specs.Tables.{queries_of, tuples_in}
use Rattle.query_tables.proofs.sites.fixed_of.Given as goal

abbrev pub invariant-loop-spot : goal.invariant-loop-spot
invariant-loop-spot l = record {
  like : AllWithin (IsLike l.fn.first) l.run 0 l.spot-index;
  below : l.fixed < 2 ^ queries_of l.net l.b;
  fixed : AllWithin (λ spot. AreFixed l.fixed (tuples_in l.net l.b l.fn.first.packet) (tuples_in l.net l.b spot.packet))
      l.run 0 l.spot-index;
  all : (query : ℕ) → query < queries_of l.net l.b →
      AllWithin (λ spot. slice_get (tuples_in l.net l.b l.fn.first.packet) query
      ≡ slice_get (tuples_in l.net l.b spot.packet) query) l.run 0 l.spot-index → bit_at l.fixed query ≡ 1;
}
