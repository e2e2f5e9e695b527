use Rattle.std.proofs.Common.{arith}
use Rattle.cell_sets.proofs.SetLemmas.{cells_are, next_of_all}
use Rattle.cell_sets.proofs.bit_set.BitSetCellSet.next_from.Goals as goal

pub next_within-requires : goal.next_within-requires
next_within-requires c =
    omega (arith, cells_are c.self.inside.words.items c.self.inside.cells c.args.self.now c.self.view_is)

pub returns : goal.returns
returns c =
    next_of_all c.args.self.now c.args.from c.self.inside.cells c.next_within.result
    (cells_are c.self.inside.words.items c.self.inside.cells c.args.self.now c.self.view_is) c.next_within.ensures
