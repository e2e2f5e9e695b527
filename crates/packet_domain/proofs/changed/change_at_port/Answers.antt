use Rattle.std.proofs.Common.{ℕ, subst}
use Rattle.move_table.specs.Offered.{Offered}
use Rattle.packet_domain.specs.Reasons.{AsChangedAt}
use Rattle.packet_domain.proofs.RoleLemmas.{as_changed_at, as_not_changed_at}
use Rattle.packet_domain.proofs.changed.change_at_port.Goals as goal

pub returns-in-Some-clause-offered : goal.returns-in-Some-clause-offered
returns-in-Some-clause-offered g c =
    let plan = c.args.net.now in
    let old = c.args.work.now in
    let new = c.change_from.new.work in
    subst (λ (b : ℕ). Offered plan (AsChangedAt plan old.done b c.args.q c.args.w c.args.port) old new)
    c.in-Some.ensures.0
    (subst
    (λ (k : ℕ). Offered plan (AsChangedAt plan old.done c.in-Some.inlet.b c.args.q c.args.w k) old new)
    c.in-Some.ensures.1
    (as_changed_at c.partner_is_unique.ensures plan c.sound.ensures old.done old new c.in-Some.inlet c.in-Some.ensures.2
    c.args.q c.args.w c.change_from.ensures.offered))

pub returns-in_default-clause-offered : goal.returns-in_default-clause-offered
returns-in_default-clause-offered g c =
    as_not_changed_at c.partner_is_unique.ensures c.args.net.now c.sound.ensures c.args.work.now.done c.args.work.now
    c.args.work.now c.args.b c.args.q c.args.w c.args.port c.in_default.ensures
