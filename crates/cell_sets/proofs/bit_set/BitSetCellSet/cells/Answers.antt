use Rattle.cell_sets.proofs.SetLemmas.{cells_are}
use Rattle.cell_sets.proofs.bit_set.BitSetCellSet.cells.Goals as goal

pub returns : goal.returns
returns c = cells_are c.self.inside.words.items c.self.inside.cells c.args.self.now c.self.view_is
