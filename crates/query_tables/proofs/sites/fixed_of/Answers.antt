use Rattle.std.proofs.Common.{◌≡◌, ℕ, ◌<◌, ◌^◌, length, refl, sym, ap, subst, ◌∙◌, arith}
use Rattle.std.specs.Int.{bit_at}
use Rattle.std.proofs.lemmas.Nat.{and_le_l}
use Rattle.query_tables.specs.Spots.{alike}
use Rattle.query_tables.specs.Tables.{queries_of, tuples_in}
use Rattle.query_tables.proofs.BitLemmas.{alike_has}
use Rattle.query_tables.proofs.FixedLemmas.{like_more, fixed_more, all_more}
use Rattle.query_tables.proofs.TableLemmas.{even_tuples}
use Rattle.query_tables.proofs.sites.fixed_of.Goals as goal

pub loop-spot-init : goal.loop-spot-init
loop-spot-init c =
    let plan = c.args.net.now in
    let row = c.row_at-row.result.now in
    let width : length row ≡ queries_of plan c.args.b =
    ap length c.row_at-row.ensures.tuples ∙ even_tuples plan c.args.b c.args.first.packet in
    record {
      like = λ k d from less. absurd (let l : k < 0 = less in omega (arith, l));
      below = subst (λ (n : ℕ). c.alike-fixed.result < 2 ^ n) width c.alike-fixed.ensures.below;
      fixed = λ k d from less. absurd (let l : k < 0 = less in omega (arith, l));
      all = λ query less none.
          subst (λ (n : ℕ). bit_at n query ≡ 1) (sym c.alike-fixed.ensures.bits)
          (alike_has row row query (subst (λ (n : ℕ). query < n) (sym width) less) refl);
    }

pub loop-spot-preserved : goal.loop-spot-preserved
loop-spot-preserved c =
    let plan = c.args.net.now in
    let box = c.args.b in
    let run = c.args.run.now in
    let i : ℕ = c.loop-spot.spot-index in
    let row = tuples_in plan box c.args.first.packet in
    let is =
    c.alike-fixed-in-loop-spot.ensures.bits ∙ ap (λ l. alike l c.row_at.result.now) c.row_at-row.ensures.tuples
    ∙ ap (alike row) c.row_at.ensures.tuples in
    record {
      like = like_more run i c.loop-spot-test.true _ c.args.first c.fits.ensures c.fits-in-loop-spot.ensures
          (c.requires.group i _ c.loop-spot-test.true) c.loop-spot.invariant.like;
      below = omega (
        arith,
        c.loop-spot.invariant.below,
        and_le_l c.loop-spot.fixed c.alike-fixed-in-loop-spot.result,
      );
      fixed = fixed_more run i c.loop-spot-test.true _ plan box row c.loop-spot.fixed
          c.alike-fixed-in-loop-spot.result is c.loop-spot.invariant.fixed;
      all = λ query less.
          all_more run i c.loop-spot-test.true _ plan box row c.loop-spot.fixed c.alike-fixed-in-loop-spot.result is
          query (subst (λ (n : ℕ). query < n) (sym (even_tuples plan box c.args.first.packet)) less)
          (c.loop-spot.invariant.all query less);
    }

pub returns-clause-fixed : goal.returns-clause-fixed
returns-clause-fixed c k d less query bit =
    c.loop-spot.invariant.fixed k d (omega arith) (omega (arith, less, c.loop-spot-test.false)) query bit
