use Rattle.std.specs.Vec.{vec_capacity}
use Rattle.std.proofs.Common.{false, get_or, sym, subst, ◌∙◌, ◌<◌, arith}
use Rattle.fix_engine.proofs.SpaceLemmas.{not_true, not_false, cells_are, room_left, space_offered, space_known}
use Rattle.fix_engine.proofs.SpaceLemmas.{offers_known}
use Rattle.fix_engine.proofs.work.Work.offer.Goals as goal

pub push_reserved-requires : goal.push_reserved-requires
push_reserved-requires g c =
    let within =
    subst (λ n. c.args.cell < n)
    (sym
    (cells_are (g.S.CellSet.marks c.self.inside.found)
    (g.S.CellSet.marks c.self.inside.taken) c.self.inside.order.items c.self.inside.next
    (vec_capacity c.self.inside.order) c.self.invariant c.args.self.now c.self.view_is)) c.requires in
    let absent =
    not_true (get_or (g.S.CellSet.marks c.self.inside.found) c.args.cell false)
    (sym c.if-add.true ∙ c.add.ensures.fresh) in
    let left =
    room_left (g.S.CellSet.marks c.self.inside.found)
    (g.S.CellSet.marks c.self.inside.taken) c.self.inside.order.items c.self.inside.next
    (vec_capacity c.self.inside.order) c.self.invariant c.args.cell within absent in
    omega (arith, left, c.self.inside.order.ok)

pub invariant_of-self : goal.invariant_of-self
invariant_of-self g c =
    let within =
    subst (λ n. c.args.cell < n)
    (sym
    (cells_are (g.S.CellSet.marks c.self.inside.found)
    (g.S.CellSet.marks c.self.inside.taken) c.self.inside.order.items c.self.inside.next
    (vec_capacity c.self.inside.order) c.self.invariant c.args.self.now c.self.view_is)) c.requires in
    let absent =
    not_true (get_or (g.S.CellSet.marks c.self.inside.found) c.args.cell false)
    (sym c.if-add.true ∙ c.add.ensures.fresh) in
    space_offered (g.S.CellSet.marks c.self.inside.found)
    (g.S.CellSet.marks c.self.inside.taken) c.self.inside.order.items c.self.inside.next
    (vec_capacity c.self.inside.order) c.self.invariant c.args.cell within absent
    (g.S.CellSet.marks c.add.new.self) c.add.ensures.added c.push_reserved.new.self.items
    c.push_reserved.ensures.items
    (vec_capacity c.push_reserved.new.self) (omega (arith, c.push_reserved.ensures.capacity))

pub invariant_of-self-else-add : goal.invariant_of-self-else-add
invariant_of-self-else-add g c =
    let within =
    subst (λ n. c.args.cell < n)
    (sym
    (cells_are (g.S.CellSet.marks c.self.inside.found)
    (g.S.CellSet.marks c.self.inside.taken) c.self.inside.order.items c.self.inside.next
    (vec_capacity c.self.inside.order) c.self.invariant c.args.self.now c.self.view_is)) c.requires in
    let present =
    not_false (get_or (g.S.CellSet.marks c.self.inside.found) c.args.cell false)
    (sym c.if-add.false ∙ c.add.ensures.fresh) in
    space_known (g.S.CellSet.marks c.self.inside.found)
    (g.S.CellSet.marks c.self.inside.taken) c.self.inside.order.items c.self.inside.next
    (vec_capacity c.self.inside.order) c.self.invariant c.args.cell within present
    (g.S.CellSet.marks c.add.new.self) c.add.ensures.added

pub returns-else-add : goal.returns-else-add
returns-else-add g c =
    let within =
    subst (λ n. c.args.cell < n)
    (sym
    (cells_are (g.S.CellSet.marks c.self.inside.found)
    (g.S.CellSet.marks c.self.inside.taken) c.self.inside.order.items c.self.inside.next
    (vec_capacity c.self.inside.order) c.self.invariant c.args.self.now c.self.view_is)) c.requires in
    let present =
    not_false (get_or (g.S.CellSet.marks c.self.inside.found) c.args.cell false)
    (sym c.if-add.false ∙ c.add.ensures.fresh) in
    offers_known (g.S.CellSet.marks c.self.inside.found)
    (g.S.CellSet.marks c.self.inside.taken) c.self.inside.order.items c.self.inside.next
    (vec_capacity c.self.inside.order) c.self.invariant c.args.cell within present c.args.self.now c.self.view_is
    (g.S.CellSet.marks c.add.new.self) c.add.ensures.added
