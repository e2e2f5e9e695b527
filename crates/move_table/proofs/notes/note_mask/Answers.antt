use Rattle.std.proofs.Common.{subst}
use Rattle.move_table.specs.Moves.{IsPatch}
use Rattle.move_table.proofs.NoteLemmas.{patches_one, patches_same, patches_known}
use Rattle.move_table.proofs.notes.note_mask.Goals as goal

pub returns-then-agree : goal.returns-then-agree
returns-then-agree g c =
    patches_one c.args.net.now c.args.b c.args.p c.args.v c.args.update.now c.args.q c.args.w c.patched-after.result
    (c.agree.ensures.0 c.if-agree.true) c.patched-after.ensures.exact c.args.moves.now c.note.new.moves c.args.work.now
    c.note.new.work c.note.ensures

pub returns-then-after-w : goal.returns-then-after-w
returns-then-after-w g c =
    patches_same c.args.net.now c.args.b c.args.p c.args.v c.args.update.now c.args.q c.args.w
    (subst (IsPatch c.args.net.now c.args.b c.args.update.now c.args.q c.args.w) c.if-after-w.true
    c.patched-after.ensures.exact)
    c.args.moves.now c.args.work.now c.requires.sized

pub returns-then-has : goal.returns-then-has
returns-then-has g c =
    patches_known c.args.net.now c.args.b c.args.p c.args.v c.args.update.now c.args.q c.args.w c.patched-after.result
    c.patched-after.ensures.exact c.args.moves.now c.args.work.now c.requires.sized c.requires.followed
    (c.has.ensures.0 c.if-has.true)
