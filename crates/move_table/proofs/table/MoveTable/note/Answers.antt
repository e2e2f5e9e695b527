use Rattle.std.proofs.Common.{sym, subst}
use Rattle.move_table.specs.Moves.{AreFollowed, Memory}
use Rattle.move_table.proofs.table.MoveTable.note.Goals as goal

pub note_update-requires-clause-followed : goal.note_update-requires-clause-followed
note_update-requires-clause-followed g c =
    subst (λ (memory : Memory). AreFollowed memory.plan memory.moves c.args.work.now) (sym c.self.view_is)
    c.requires.followed
