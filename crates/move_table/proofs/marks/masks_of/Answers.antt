use Rattle.std.proofs.Common.{ℕ, ◌≤◌, length, sym, subst}
use Rattle.box_moves.proofs.MoveLemmas.{few_masks}
use Rattle.move_table.proofs.marks.masks_of.Goals as goal

pub returns-clause-few : goal.returns-clause-few
returns-clause-few c =
    subst (λ (n : ℕ). n ≤ 4096) (sym c.pow.ensures) (few_masks (length c.queries.result.now) c.queries.ensures.few)
