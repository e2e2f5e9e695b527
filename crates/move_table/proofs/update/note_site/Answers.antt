use Rattle.std.proofs.Common.{◌^◌, ◌≤◌, ap, subst, ◌∙◌, arith}
use Rattle.net_plan.specs.declared.plan.Plan.{Plan}
use Rattle.query_tables.specs.Sites.{IsMember, IsSite}
use Rattle.box_moves.specs.Moves.{masks_at}
use Rattle.move_table.specs.declared.effect.Effect.{Effect}
use Rattle.move_table.specs.Effect.{cut}
use Rattle.move_table.specs.Moves.{Move, Patches}
use Rattle.move_table.specs.Within.{IsCovered}
use Rattle.move_table.proofs.CoverLemmas.{covered_settled, effect_is}
use Rattle.move_table.proofs.MarkLemmas.{marks_stay, one_site, few_masks_at}
use Rattle.move_table.proofs.WithinLemmas.{within_known, within_less}
use Rattle.move_table.proofs.update.note_site.Goals as goal

pub is_settled-requires-clause-is : goal.is_settled-requires-clause-is
is_settled-requires-clause-is g c =
    subst (λ (p : Plan). IsSite p c.args.b c.site-site.result) c.requires.tables c.site-site.ensures.is

pub is_settled-requires-clause-cut : goal.is_settled-requires-clause-cut
is_settled-requires-clause-cut g c = (c.effect_of-whole.result, c.cut-effect.ensures)

pub returns-then-is_settled-clause-noted : goal.returns-then-is_settled-clause-noted
returns-then-is_settled-clause-noted g c =
    let plan = c.args.net.now in
    let site = c.site-site.result in
    let is : IsSite plan c.args.b site =
    subst (λ (p : Plan). IsSite p c.args.b site) c.requires.tables c.site-site.ensures.is in
    let few : masks_at plan c.args.b ≤ 2 ^ 12 = few_masks_at plan c.args.b c.queries-queries.result.now
    c.queries-queries.ensures.queries c.queries-queries.ensures.few in
    within_known plan (IsCovered plan c.args.tables.now c.args.b c.args.p c.args.v c.args.update.now c.args.number)
    (Patches plan c.args.b c.args.p c.args.v c.args.update.now) c.args.moves.now c.args.work.now c.requires.sized
    c.requires.followed
    (λ move _ covered. covered_settled c.laws.ensures plan c.args.tables.now c.args.b c.args.number c.args.p c.args.v
    c.args.update.now site c.cut-effect.result c.site-site.ensures.at is
    (let below = is.below in omega (arith, below, few)) (omega (arith, few))
    (c.cut-effect.ensures
    ∙ ap (λ (e : Effect). cut e site.fixed)
    (effect_is plan c.args.b c.args.p c.args.v site.first c.args.update.now c.args.tables.now.plan c.tuples.result.now
    c.tuples-2.result.now c.effect_of-whole.result c.requires.tables c.tuples.ensures c.tuples-2.ensures
    c.effect_of-whole.ensures.effect))
    c.args.moves.now (c.is_settled.ensures c.if-is_settled.true) move covered)

pub mark-requires-clause-is : goal.mark-requires-clause-is
mark-requires-clause-is g c =
    subst (λ (p : Plan). IsSite p c.args.b c.site-site.result) c.requires.tables c.site-site.ensures.is

pub mark-requires-clause-marks : goal.mark-requires-clause-marks
mark-requires-clause-marks g c =
    marks_stay c.args.net.now c.args.tables.now c.args.moves.now c.note_members.new.moves c.args.marks.now
    c.note_members.ensures.stays c.requires.marks

pub returns-clause-noted : goal.returns-clause-noted
returns-clause-noted g c =
    let plan = c.args.net.now in
    let site = c.site-site.result in
    let M = Patches plan c.args.b c.args.p c.args.v c.args.update.now in
    within_less plan (IsCovered plan c.args.tables.now c.args.b c.args.p c.args.v c.args.update.now c.args.number) M
    (λ (move : Move). M move × IsMember plan c.args.b site move.packet) c.args.moves.now c.note_members.new.moves
    c.args.work.now c.note_members.new.work
    (λ move _ covered. (
      covered.patches,
      subst (λ s. IsMember plan c.args.b s move.packet)
          (one_site c.args.tables.now c.args.b c.args.number covered.site site covered.at c.site-site.ensures.at)
          covered.member,
    )) c.note_members.ensures
