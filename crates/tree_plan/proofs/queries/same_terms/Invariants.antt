use Rattle.std.proofs.Common.{◌≡◌, drop, length}
use Rattle.std.specs.Cmp.Lexicographic.{pointwise}
use Rattle.box_handlers.specs.Queries.{same_term}
use Rattle.tree_plan.proofs.queries.same_terms.Given as goal

-- the terms so far are the same
abbrev pub invariant-loop-place : goal.invariant-loop-place
invariant-loop-place l = record {
  long : length l.ones ≡ length l.twos;
  same : pointwise same_term l.ones l.twos ≡ pointwise same_term (drop l.place l.ones) (drop l.place l.twos);
}
