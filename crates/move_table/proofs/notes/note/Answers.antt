use Rattle.std.proofs.Common.{subst}
use Rattle.std.specs.List.{Contains}
use Rattle.move_table.proofs.NoteLemmas.{noted_one}
use Rattle.move_table.proofs.notes.note.Goals as goal

pub returns-then-is_done : goal.returns-then-is_done
returns-then-is_done g c =
    let is = c.requires.is_move in
    noted_one c.args.net.now c.args.b c.args.q c.args.w c.args.after c.args.moves.now c.add_move.new.moves c.args.work.now
    c.offer.new.work is c.add_move.ensures (
      (is.boxed, is.packet_is, is.mask_is),
      subst (Contains c.args.work.now.done) c.cell_of.ensures.cell (c.is_done.ensures.0 c.if-is_done.true),
    )
    c.offer.ensures
