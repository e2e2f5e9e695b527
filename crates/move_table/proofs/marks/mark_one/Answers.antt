use Rattle.move_table.proofs.MarkLemmas.{marks_set}
use Rattle.move_table.proofs.marks.mark_one.Goals as goal

pub returns-then-all_noted : goal.returns-then-all_noted
returns-then-all_noted c =
    marks_set c.args.net.now c.args.tables.now c.args.moves.now c.args.marks.now c.add.new.self c.args.b c.args.number
    c.args.w c.args.after c.args.site.now c.requires.at (c.all_noted.ensures c.if-all_noted.true) c.requires.marks
    c.add.ensures.sized c.add.ensures.moves
