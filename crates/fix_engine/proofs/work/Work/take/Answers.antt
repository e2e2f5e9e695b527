use Rattle.std.specs.Vec.{vec_capacity}
use Rattle.std.proofs.Common.{arith}
use Rattle.fix_engine.proofs.SpaceLemmas.{taken_in_range, space_taken}
use Rattle.fix_engine.proofs.work.Work.take.Goals as goal

pub add-requires : goal.add-requires
add-requires g c =
    taken_in_range (g.S.CellSet.marks c.self.inside.found)
    (g.S.CellSet.marks c.self.inside.taken) c.self.inside.order.items c.self.inside.next
    (vec_capacity c.self.inside.order) c.self.invariant c.index-cell.result.now
    (omega (arith, c.self.inside.order.ok)) c.index-cell.ensures

pub invariant_of-self : goal.invariant_of-self
invariant_of-self g c =
    space_taken (g.S.CellSet.marks c.self.inside.found)
    (g.S.CellSet.marks c.self.inside.taken) c.self.inside.order.items c.self.inside.next
    (vec_capacity c.self.inside.order) c.self.invariant c.index-cell.result.now
    (omega (arith, c.self.inside.order.ok)) c.index-cell.ensures (g.S.CellSet.marks c.add.new.self) c.add.ensures.added
