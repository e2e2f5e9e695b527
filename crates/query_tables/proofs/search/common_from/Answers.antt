use Rattle.std.proofs.Common.{ℕ, ◌≡◌, ◌≤◌, Option, sym, subst, arith, MatchOption}
use Rattle.std.specs.List.{Contains}
use Rattle.query_tables.specs.Search.{HasNone, HasNoneFrom, IsInBoth}
use Rattle.query_tables.proofs.SearchLemmas.{first_ends, second_ends, both_below}
use Rattle.query_tables.proofs.search.common_from.Goals as goal

pub returns-in_err-second : goal.returns-in_err-second
returns-in_err-second c =
    let one = c.args.one.now in
    let other = c.args.other.now in
    let first : ℕ = c.in-Some.first in
    subst (λ (found : Option ℕ). MatchOption found (HasNoneFrom (IsInBoth one other) c.args.from)
    (λ k. (c.args.from ≤ k) × IsInBoth one other k × HasNone (IsInBoth one other) c.args.from k))
    (sym c.from_residual.ensures)
    (second_ends one other c.args.from c.loop-first.low c.loop-first.invariant.none first c.in-Some.ensures.2
    c.in_err-second.ensures)

pub returns-then-second-first : goal.returns-then-second-first
returns-then-second-first c =
    let one = c.args.one.now in
    let other = c.args.other.now in
    let first : ℕ = c.in-Some.first in
    let low : ℕ = c.loop-first.low in
    let same : c.in_ok-second.second ≡ first = c.if-second-first.true in (
      omega (arith, c.loop-first.invariant.from, c.in-Some.ensures.0),
      (c.in-Some.ensures.1, subst (Contains other) same c.in_ok-second.ensures.1),
      both_below one other c.args.from low c.loop-first.invariant.none first c.in-Some.ensures.2 first
          (λ k le less. absurd (omega (arith, le, less))),
    )

pub loop-first-preserved : goal.loop-first-preserved
loop-first-preserved c =
    let one = c.args.one.now in
    let other = c.args.other.now in
    let first : ℕ = c.in-Some.first in
    record {
      from = omega (arith, c.loop-first.invariant.from, c.in-Some.ensures.0, c.in_ok-second.ensures.0);
      none = both_below one other c.args.from c.loop-first.low c.loop-first.invariant.none first c.in-Some.ensures.2
          c.in_ok-second.second c.in_ok-second.ensures.2;
    }

pub returns : goal.returns
returns c =
    first_ends c.args.one.now c.args.other.now c.args.from c.loop-first.low c.loop-first.invariant.none
    c.in_default.ensures
