use Rattle.std.proofs.Common.{◌≡◌, true, false, IsTrue, subst}
use Rattle.packet_domain.proofs.MoveLemmas.{by_moves, by_deliveries}
use Rattle.packet_domain.proofs.react.change_answers.Goals as goal

pub returns-then-is_kept-clause-offered : goal.returns-then-is_kept-clause-offered
returns-then-is_kept-clause-offered g c =
    by_moves c.args.net.now c.args.table.now.moves c.args.work.now.done c.args.b c.args.q c.args.w c.args.work.now
    c.move_on.new.work (c.is_kept.ensures.0 c.if-is_kept.true) c.move_on.ensures

pub returns-else-is_kept-clause-offered : goal.returns-else-is_kept-clause-offered
returns-else-is_kept-clause-offered g c =
    by_deliveries c.args.net.now c.args.table.now.moves c.args.work.now.done c.args.b c.args.q c.args.w c.args.work.now
    c.change_state.new.work
    (λ kept. let clash : false ≡ true = subst IsTrue c.if-is_kept.false (c.is_kept.ensures.1 kept) in absurd (cc))
    c.change_state.ensures.offered
