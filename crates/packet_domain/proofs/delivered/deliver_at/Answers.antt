use Rattle.std.proofs.Common.{ℕ, subst}
use Rattle.move_table.specs.Offered.{Offered}
use Rattle.packet_domain.specs.Reasons.{AsStateAt}
use Rattle.packet_domain.proofs.RoleLemmas.{as_state_at, as_no_state_at}
use Rattle.move_table.specs.Moves.{Adds}
use Rattle.packet_domain.specs.Table.{MovesAsStateAt}
use Rattle.packet_domain.proofs.MoveLemmas.{moves_as_state_at, moves_as_no_state_at}
use Rattle.packet_domain.proofs.delivered.deliver_at.Goals as goal

pub returns-in-Some-clause-offered : goal.returns-in-Some-clause-offered
returns-in-Some-clause-offered g c =
    let plan = c.args.net.now in
    let old = c.args.work.now in
    let new = c.deliver_where_done.new.work in
    subst (λ (b : ℕ). Offered plan (AsStateAt plan old.done b c.args.p c.args.v c.args.port) old new)
    c.in-Some.ensures.0
    (subst
    (λ (k : ℕ). Offered plan (AsStateAt plan old.done c.in-Some.inlet.b c.args.p c.args.v k) old new)
    c.in-Some.ensures.1
    (as_state_at c.partner_is_unique.ensures plan c.sound.ensures old.done old new c.in-Some.inlet c.in-Some.ensures.2
    c.args.p c.args.v c.deliver_where_done.ensures.offered))

pub returns-in_default-clause-offered : goal.returns-in_default-clause-offered
returns-in_default-clause-offered g c =
    as_no_state_at c.partner_is_unique.ensures c.args.net.now c.sound.ensures c.args.work.now.done c.args.work.now
    c.args.work.now c.args.b c.args.p c.args.v c.args.port c.in_default.ensures

pub returns-in-Some-clause-adds : goal.returns-in-Some-clause-adds
returns-in-Some-clause-adds g c =
    let plan = c.args.net.now in
    let done = c.args.work.now.done in
    let old = c.args.table.now.moves in
    let new = c.deliver_where_done.new.table.moves in
    subst (λ (b : ℕ). Adds plan (MovesAsStateAt plan done b c.args.p c.args.v c.args.port) old new) c.in-Some.ensures.0
    (subst (λ (k : ℕ). Adds plan (MovesAsStateAt plan done c.in-Some.inlet.b c.args.p c.args.v k) old new)
    c.in-Some.ensures.1
    (moves_as_state_at c.partner_is_unique.ensures plan c.sound.ensures done old new c.in-Some.inlet c.in-Some.ensures.2
    c.args.p c.args.v c.deliver_where_done.ensures.adds))

pub returns-in_default-clause-adds : goal.returns-in_default-clause-adds
returns-in_default-clause-adds g c =
    moves_as_no_state_at c.args.net.now c.args.work.now.done c.args.table.now.moves c.requires.sized c.args.b c.args.p c.args.v
    c.args.port c.in_default.ensures
