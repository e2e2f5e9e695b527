use Rattle.std.proofs.Common.{IsTrue, ◌↔◌, [], All, sym, subst, ap, ◌∙◌}
use Rattle.net_plan.specs.declared.plan.Plan.{Plan}
use Rattle.net_plan.specs.Reading.{QueryFitsAt}
use Rattle.packet_state.specs.Answers.{class_of_box}
use Rattle.box_masks.specs.Writes.{AreShown}
use Rattle.box_masks.specs.Bits.{are_consistent}
use Rattle.box_masks.proofs.MaskLemmas.{shown_where}
use Rattle.query_tables.specs.Tables.{tuples_in}
use Rattle.query_tables.proofs.masks.agree.Goals as goal

pub returns : goal.returns
returns c =
    let plan = c.args.net.now in
    let one = c.tuples.ensures ∙ ap (λ (net : Plan). tuples_in net c.args.b c.args.p) c.requires.tables in
    let two = c.tuples-2.ensures ∙ ap (λ (net : Plan). tuples_in net c.args.b c.args.q) c.requires.tables in
    subst (λ b. IsTrue b ↔ AreShown plan c.args.b c.args.p c.args.v c.args.q c.args.w)
    (sym (c.are_consistent.ensures
    ∙ ap (λ tuples. are_consistent tuples c.args.v c.tuples-2.result.now c.args.w) one
    ∙ ap (λ tuples. are_consistent (tuples_in plan c.args.b c.args.p) c.args.v tuples c.args.w) two))
    (shown_where plan c.args.b c.sound.ensures c.requires.boxed c.fields_are_below_sizes.ensures
    c.with_keeps_rising.ensures c.without_keeps_rising.ensures c.held_with.ensures c.args.p c.args.v c.args.q c.args.w
    c.requires.packet c.requires.other c.requires.mask c.requires.other_mask
    (subst (All (QueryFitsAt plan (class_of_box plan c.args.b) []))
    c.queries-queries.ensures.queries c.queries-queries.ensures.fit))
