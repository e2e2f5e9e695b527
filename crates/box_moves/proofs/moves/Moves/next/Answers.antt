use Rattle.std.proofs.Common.{◌≡◌, slice_index_or, subst, arith}
use Rattle.box_moves.proofs.MoveLemmas.{row_within}
use Rattle.box_moves.proofs.moves.Moves.next.Goals as goal

pub next_within-requires : goal.next_within-requires
next_within-requires c =
    let marks = c.index.result.now in
    let row =
    row_within c.args.net.now c.args.self.now c.args.b c.args.packet c.args.mask marks c.requires.sized
    c.requires.kept c.requires.boxed c.requires.packet c.requires.mask
    (subst (λ s. marks ≡ slice_index_or s c.args.b marks) c.self.view_is c.index.ensures) in
    omega (arith, row, c.number_of-first.ensures.number, c.masks_of.ensures.masks)
