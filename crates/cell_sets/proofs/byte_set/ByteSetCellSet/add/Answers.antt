use Rattle.std.proofs.Common.{◌<◌, false, length, sym, ap, ◌∙◌, arith}
use Rattle.std.proofs.lemmas.List.{get_or_read}
use Rattle.cell_sets.proofs.MarkLemmas.{members_in-room}
use Rattle.cell_sets.proofs.byte_set.ByteSetCellSet.add.Goals as goal

pub overflow_add-self : goal.overflow_add-self
overflow_add-self c =
    let bytes = c.self.inside.bytes.items in
    let within : c.args.cell < length bytes = omega (arith, c.requires, ap length c.self.view_is) in
    let absent =
    sym (get_or_read bytes c.args.cell c.index.result.now within c.index.ensures false) ∙ c.if-index.false in
    omega (arith, c.self.ranges, c.self.invariant, members_in-room bytes c.args.cell within absent)
