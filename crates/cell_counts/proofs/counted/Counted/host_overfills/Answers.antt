use Rattle.std.proofs.Common.{sym, ◌∙◌}
use Rattle.cell_counts.proofs.counted.Counted.host_overfills.Goals as goal

pub returns : goal.returns
returns c before name count =
    let counted = c.args.self.now in
    c.overfills.ensures
    ∙ sym (c.cells_are_counted.ensures.told.host before name counted.packets counted.nodes counted.cells count.counts)
