use Rattle.std.specs.Vec.{vec_capacity}
use Rattle.fix_engine.specs.Progress.{found_in}
use Rattle.fix_engine.proofs.SpaceLemmas.{next_listed, cells_are, found_iff}
use Rattle.fix_engine.proofs.work.Work.next_found.Goals as goal

pub returns : goal.returns
returns g c =
    next_listed (g.S.CellSet.marks c.self.inside.found) (found_in c.args.self.now) c.args.self.now.cells
    (cells_are (g.S.CellSet.marks c.self.inside.found)
    (g.S.CellSet.marks c.self.inside.taken) c.self.inside.order.items c.self.inside.next
    (vec_capacity c.self.inside.order) c.self.invariant c.args.self.now c.self.view_is)
    (found_iff (g.S.CellSet.marks c.self.inside.found)
    (g.S.CellSet.marks c.self.inside.taken) c.self.inside.order.items c.self.inside.next
    (vec_capacity c.self.inside.order) c.self.invariant c.args.self.now c.self.view_is) c.args.from
    c.next_from.result c.next_from.ensures
