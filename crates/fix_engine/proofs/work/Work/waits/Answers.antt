use Rattle.std.specs.Vec.{vec_capacity}
use Rattle.std.proofs.Common.{sym, subst, ◌∙◌, ◌<◌}
use Rattle.fix_engine.proofs.SpaceLemmas.{cells_are, waits_iff}
use Rattle.fix_engine.proofs.work.Work.waits.Goals as goal

pub returns-then-has : goal.returns-then-has
returns-then-has g c =
    let within =
    subst (λ n. c.args.cell < n)
    (sym
    (cells_are (g.S.CellSet.marks c.self.inside.found)
    (g.S.CellSet.marks c.self.inside.taken) c.self.inside.order.items c.self.inside.next
    (vec_capacity c.self.inside.order) c.self.invariant c.args.self.now c.self.view_is)) c.requires in
    waits_iff (g.S.CellSet.marks c.self.inside.found)
    (g.S.CellSet.marks c.self.inside.taken) c.self.inside.order.items c.self.inside.next
    (vec_capacity c.self.inside.order) c.self.invariant c.args.self.now c.self.view_is c.args.cell
    c.has-then-has.result (sym c.has.ensures ∙ c.if-has.true) within c.has-then-has.ensures
