use Rattle.std.proofs.Common.{◌≡◌, get_or, sym, subst, ◌∙◌, arith}
use Rattle.std.proofs.lemmas.List.{get_or_default}
use Rattle.net_plan.specs.declared.plan.Plan.{Plan}
use Rattle.query_tables.specs.Sites.{IsMember}
use Rattle.move_table.specs.Moves.{Move, Patches}
use Rattle.move_table.proofs.MarkLemmas.{member_in_range}
use Rattle.move_table.proofs.WithinLemmas.{Turns, IsTurn, turns_none, turns_next, within_of, within_less}
use Rattle.move_table.proofs.update.note_members.Goals as goal

pub note_packet-requires-clause-other : goal.note_packet-requires-clause-other
note_packet-requires-clause-other g c =
    member_in_range c.args.tables.now.plan c.args.net.now c.requires.tables c.args.b c.args.site.now
    c.members-q-items.result.now (c.members-q-items.ensures.only c.args.site.now c.requires.at) c.loop-q.q-index _
    c.loop-q-test.true

pub loop-q-init : goal.loop-q-init
loop-q-init g c =
    let P = Patches c.args.net.now c.args.b c.args.p c.args.v c.args.update.now in
    turns_none c.args.net.now (IsTurn c.members-q-items.result.now P) P c.args.moves.now c.args.work.now
    c.requires.sized c.requires.followed

pub loop-q-preserved : goal.loop-q-preserved
loop-q-preserved g c =
    let plan = c.args.net.now in
    let items = c.members-q-items.result.now in
    let at = c.loop-q.q-index in
    let P = Patches plan c.args.b c.args.p c.args.v c.args.update.now in
    turns_next plan (IsTurn items P) P at c.args.moves.now c.loop-q.moves c.note_packet.new.moves c.args.work.now
    c.loop-q.work c.note_packet.new.work c.loop-q.invariant
    (within_of plan (IsTurn items P at) P (λ (move : Move). P move × (move.packet ≡ get_or items at _))
    c.loop-q.moves c.note_packet.new.moves c.loop-q.work c.note_packet.new.work (λ move is turn. (turn.0, turn.1 _))
    (λ move holds. holds.0) c.note_packet.ensures)

pub returns : goal.returns
returns g c =
    let plan = c.args.net.now in
    let items = c.members-q-items.result.now in
    let P = Patches plan c.args.b c.args.p c.args.v c.args.update.now in
    within_less plan (λ (move : Move). P move × IsMember plan c.args.b c.args.site.now move.packet) P
    (Turns plan (IsTurn items P) P c.loop-q.q-index) c.args.moves.now c.loop-q.moves c.args.work.now c.loop-q.work
    (λ move is holds.
    let there = c.members-q-items.ensures.all c.args.site.now c.requires.at move.packet
    (subst (λ (p : Plan). IsMember p c.args.b c.args.site.now move.packet) (sym c.requires.tables) holds.1) in (
      there.0,
      omega (arith, there.1, c.loop-q-test.false),
      (holds.0, λ d. sym there.2 ∙ get_or_default items there.0 move.packet d there.1),
    )) c.loop-q.invariant
