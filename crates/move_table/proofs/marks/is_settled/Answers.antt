use Rattle.std.proofs.Common.{◌≡◌, ℕ, ◌^◌, ◌≤◌, subst, bit_or, arith}
use Rattle.std.specs.Int.{bit_not, w16}
use Rattle.box_moves.specs.Moves.{masks_at}
use Rattle.move_table.specs.Effect.{overwritten}
use Rattle.move_table.specs.Marks.{IsNoted}
use Rattle.move_table.proofs.MarkLemmas.{settled, known_next, known_all}
use Rattle.move_table.proofs.marks.is_settled.Goals as goal

pub loop-w-preserved : goal.loop-w-preserved
loop-w-preserved c =
    let found = c.in-Some.ensures in
    record {
      marked = known_next
          (λ (mask : ℕ). IsNoted c.args.net.now c.args.marks.now c.args.b c.args.number mask
          (overwritten mask c.args.effect.now))
          (bit_or c.args.effect.now.known (bit_not w16 c.args.site.now.fixed)) c.args.effect.now.bits c.loop-w.from
          c.in-Some.w c.loop-w.invariant.marked found.3
          (subst (IsNoted c.args.net.now c.args.marks.now c.args.b c.args.number c.in-Some.w) c.overwritten.ensures.mask
          (c.is_marked.ensures c.if-not-is_marked.false));
      within = let less = found.1 in omega (arith, less);
    }

pub returns : goal.returns
returns c holds =
    let plan = c.args.net.now in
    let masks : c.masks_of-masks.result ≡ masks_at plan c.args.b = c.masks_of-masks.ensures.masks in
    let few : masks_at plan c.args.b ≤ 2 ^ 16 = omega (arith, masks, c.masks_of-masks.ensures.few) in
    settled plan c.args.tables.now c.args.moves.now c.args.marks.now c.args.b c.args.number c.args.site.now
    c.args.effect.now c.requires.at c.requires.marks c.requires.cut (omega (arith, c.requires.is.below, few)) few
    (λ mask less has.
    known_all (λ (w : ℕ). IsNoted plan c.args.marks.now c.args.b c.args.number w (overwritten w c.args.effect.now))
    (bit_or c.args.effect.now.known (bit_not w16 c.args.site.now.fixed)) c.args.effect.now.bits c.loop-w.from
    c.masks_of-masks.result c.loop-w.invariant.marked c.in_default.ensures mask (omega (arith, less, masks)) has)
