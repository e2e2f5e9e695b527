use Rattle.std.specs.Vec.{vec_capacity}
use Rattle.fix_engine.proofs.SpaceLemmas.{found_below}
use Rattle.fix_engine.proofs.work.Work.sound.Goals as goal

pub returns-clause-below : goal.returns-clause-below
returns-clause-below g c =
    found_below (g.S.CellSet.marks c.self.inside.found)
    (g.S.CellSet.marks c.self.inside.taken) c.self.inside.order.items c.self.inside.next
    (vec_capacity c.self.inside.order) c.self.invariant c.args.self.now c.self.view_is
