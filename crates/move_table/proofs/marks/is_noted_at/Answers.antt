use Rattle.std.proofs.Common.{◌≡◌, ◌<◌, subst, arith}
use Rattle.box_moves.specs.Moves.{masks_at}
use Rattle.move_table.specs.Marks.{IsNoted, IsNotedFrom}
use Rattle.move_table.proofs.MarkLemmas.{answered_mask, known_next, known_all}
use Rattle.move_table.proofs.marks.is_noted_at.Goals as goal

pub loop-w-preserved : goal.loop-w-preserved
loop-w-preserved c =
    let found = c.in-Some.ensures in
    record {
      noted = known_next (IsNotedFrom c.args.net.now c.args.moves.now c.args.b c.args.effect.now c.args.q)
          c.args.effect.now.known c.args.effect.now.bits c.loop-w.from c.in-Some.w c.loop-w.invariant.noted found.3
          (λ contents are answered. subst (IsNoted c.args.net.now c.args.moves.now c.args.b c.args.q c.in-Some.w)
          c.overwritten.ensures.mask (c.is_noted_from.ensures c.if-not-is_noted_from.false contents are answered));
      within = let less = found.1 in omega (arith, less);
    }

pub returns : goal.returns
returns c holds mask has contents are answered =
    let masks : c.masks_of-masks.result ≡ masks_at c.args.net.now c.args.b = c.masks_of-masks.ensures.masks in
    let small : mask < masks_at c.args.net.now c.args.b =
    answered_mask c.args.net.now c.args.b c.args.q mask contents answered in
    known_all (IsNotedFrom c.args.net.now c.args.moves.now c.args.b c.args.effect.now c.args.q)
    c.args.effect.now.known c.args.effect.now.bits c.loop-w.from c.masks_of-masks.result c.loop-w.invariant.noted
    c.in_default.ensures mask (omega (arith, small, masks)) has contents are answered
