use Rattle.std.proofs.Common.{◌≡◌, true, false, IsTrue, subst}
use Rattle.move_table.proofs.WithinLemmas.{followed_noted, followed_stays}
use Rattle.packet_domain.specs.Table.{SomeMoves}
use Rattle.packet_domain.proofs.NoteLemmas.{changes_noted, not_kept_adds}
use Rattle.packet_domain.proofs.notes.change_by_results.Goals as goal

pub returns-then-is_kept-clause-offered : goal.returns-then-is_kept-clause-offered
returns-then-is_kept-clause-offered g c =
    changes_noted c.args.net.now c.args.b c.args.p c.args.v c.args.fired.now c.args.table.now.moves
    c.note_results.new.table.moves c.args.work.now c.note_results.new.work c.note_results.ensures.noted

pub returns-else-is_kept-clause-adds : goal.returns-else-is_kept-clause-adds
returns-else-is_kept-clause-adds g c =
    not_kept_adds c.args.net.now c.args.b c.args.p c.args.v c.args.fired.now c.args.table.now.moves c.requires.sized
    (λ kept. let clash : false ≡ true = subst IsTrue c.if-is_kept.false (c.is_kept.ensures.1 kept) in absurd (cc))

pub returns-then-is_kept-clause-followed : goal.returns-then-is_kept-clause-followed
returns-then-is_kept-clause-followed g c =
    followed_noted c.args.net.now (SomeMoves c.args.net.now c.args.b c.args.p c.args.v c.args.fired.now)
    c.args.table.now.moves c.note_results.new.table.moves c.args.work.now c.note_results.new.work
    c.note_results.ensures.noted c.requires.followed

pub returns-else-is_kept-clause-followed : goal.returns-else-is_kept-clause-followed
returns-else-is_kept-clause-followed g c =
    followed_stays c.args.net.now c.args.table.now.moves c.args.work.now c.change_all.new.work
    c.change_all.ensures.grows c.requires.followed
