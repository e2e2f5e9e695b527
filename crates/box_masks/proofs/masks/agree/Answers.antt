use Rattle.std.proofs.Common.{IsTrue, ◌↔◌, [], All, sym, subst}
use Rattle.net_plan.specs.Reading.{QueryFitsAt}
use Rattle.packet_state.specs.Answers.{class_of_box}
use Rattle.box_masks.specs.Writes.{AreShown}
use Rattle.box_masks.proofs.MaskLemmas.{shown_where}
use Rattle.box_masks.proofs.masks.agree.Goals as goal

pub returns : goal.returns
returns c =
    subst (λ b. IsTrue b ↔ AreShown c.args.net.now c.args.b c.args.p c.args.v c.args.q c.args.w)
    (sym c.are_consistent.ensures)
    (shown_where c.args.net.now c.args.b c.sound.ensures c.requires.boxed c.fields_are_below_sizes.ensures
    c.with_keeps_rising.ensures c.without_keeps_rising.ensures c.held_with.ensures c.args.p c.args.v c.args.q c.args.w
    c.requires.packet c.requires.other c.requires.mask c.requires.other_mask
    (subst (All (QueryFitsAt c.args.net.now (class_of_box c.args.net.now c.args.b) []))
    c.queries-queries.ensures.queries c.queries-queries.ensures.fit))
