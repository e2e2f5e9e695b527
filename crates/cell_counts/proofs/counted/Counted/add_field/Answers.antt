use Rattle.std.proofs.lemmas.Result.{on_ok_weaker}
use Rattle.std.proofs.Common.{sym, ◌∙◌}
use Rattle.cell_counts.proofs.CountLemmas.{field_added, size_there}
use Rattle.cell_counts.proofs.counted.Counted.add_field.Goals as goal

pub returns-in-Some : goal.returns-in-Some
returns-in-Some c =
    on_ok_weaker c.add_size.result
    (field_added c.args.before.now c.args.self.now c.add_size.new.self c.cells_are_counted.ensures.counted
    c.requires.counts c.args.name c.args.kind c.in-Some.size c.requires.keeps
    (sym c.in-Some.is ∙ c.in_ok-size.ensures)) c.add_size.ensures

pub returns-in-None : goal.returns-in-None
returns-in-None c =
    size_there c.args.before.now c.args.name c.args.kind c.cells_are_counted.ensures.kept c.requires.keeps
    (sym c.in-None.is ∙ c.in_ok-size.ensures)
