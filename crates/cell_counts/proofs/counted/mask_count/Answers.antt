use Rattle.std.proofs.Common.{◌≤◌, ℕ, sym, subst}
use Rattle.cell_counts.proofs.CountLemmas.{masks_few}
use Rattle.cell_counts.proofs.counted.mask_count.Goals as goal

pub returns-clause-few : goal.returns-clause-few
returns-clause-few c = subst (λ (n : ℕ). n ≤ 4096) (sym c.pow.ensures) (masks_few c.args.queries c.requires)
