use Rattle.std.proofs.Common.{ℕ, subst}
use Rattle.move_table.specs.Offered.{Offered}
use Rattle.packet_domain.specs.Reasons.{AsOut}
use Rattle.packet_domain.proofs.RoleLemmas.{as_out, as_no_out}
use Rattle.move_table.specs.Moves.{Adds}
use Rattle.packet_domain.specs.Table.{MovesAsOut}
use Rattle.packet_domain.proofs.MoveLemmas.{moves_as_out, moves_as_no_out}
use Rattle.packet_domain.proofs.delivered.deliver_out.Goals as goal

pub returns-in-Some-clause-offered : goal.returns-in-Some-clause-offered
returns-in-Some-clause-offered g c =
    let plan = c.args.net.now in
    let old = c.args.work.now in
    subst (λ (e : ℕ). Offered plan (AsOut plan old.done e c.args.p) old c.deliver_to.new.work) c.in-Some.ensures.0
    (as_out c.partner_is_unique.ensures plan c.sound.ensures old.done old c.deliver_to.new.work c.in-Some.inlet
    c.in-Some.ensures.1 c.args.p c.deliver_to.ensures.offered)

pub returns-in_default-clause-offered : goal.returns-in_default-clause-offered
returns-in_default-clause-offered g c =
    as_no_out c.partner_is_unique.ensures c.args.net.now c.sound.ensures c.args.work.now.done c.args.work.now
    c.args.work.now c.args.end c.args.p c.in_default.ensures

pub returns-in-Some-clause-adds : goal.returns-in-Some-clause-adds
returns-in-Some-clause-adds g c =
    let plan = c.args.net.now in
    let done = c.args.work.now.done in
    subst (λ (e : ℕ). Adds plan (MovesAsOut plan done e c.args.p) c.args.table.now.moves c.deliver_to.new.table.moves)
    c.in-Some.ensures.0
    (moves_as_out c.partner_is_unique.ensures plan c.sound.ensures done c.args.table.now.moves c.deliver_to.new.table.moves
    c.in-Some.inlet c.in-Some.ensures.1 c.args.p c.deliver_to.ensures.adds)

pub returns-in_default-clause-adds : goal.returns-in_default-clause-adds
returns-in_default-clause-adds g c =
    moves_as_no_out c.args.net.now c.args.work.now.done c.args.table.now.moves c.requires.sized c.args.end c.args.p
    c.in_default.ensures
