use Rattle.std.proofs.Common.{length, ap, arith}
use Rattle.cell_sets.proofs.SetLemmas.{cells_are, next_in_set}
use Rattle.cell_sets.proofs.bit_set.BitSet.next_within.Goals as goal

pub next_mark-requires : goal.next_mark-requires
next_mark-requires c =
    let cells = cells_are c.self.inside.words.items c.self.inside.cells c.args.self.now c.self.view_is in
    omega (arith, ap length c.deref.ensures.value, c.self.invariant.0, c.requires, cells)

pub returns : goal.returns
returns c =
    next_in_set c.self.inside.words.items c.self.inside.cells c.args.self.now c.self.view_is c.deref.result.now
    c.deref.ensures.value c.args.from c.args.to c.requires c.next_mark.result c.next_mark.ensures
