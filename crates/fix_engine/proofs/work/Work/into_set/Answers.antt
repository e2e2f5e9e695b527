use Rattle.std.specs.Vec.{vec_capacity}
use Rattle.fix_engine.proofs.SpaceLemmas.{found_iff}
use Rattle.fix_engine.proofs.work.Work.into_set.Goals as goal

pub returns-clause-found : goal.returns-clause-found
returns-clause-found g c =
    found_iff (g.S.CellSet.marks c.self.inside.found)
    (g.S.CellSet.marks c.self.inside.taken) c.self.inside.order.items c.self.inside.next
    (vec_capacity c.self.inside.order) c.self.invariant c.args.self c.self.view_is
