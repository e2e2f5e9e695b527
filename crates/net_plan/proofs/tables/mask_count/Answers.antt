use Rattle.std.proofs.Common.{◌≡◌, ℕ, ◌^◌, ◌<◌, ◌≤◌, length, sym, subst, inl, inr, ap, arith}
use Rattle.std.proofs.lemmas.Bool.{cases_lt}
use Rattle.std.proofs.lemmas.Nat.{pow_below}
use Rattle.net_plan.proofs.tables.mask_count.Goals as goal

few : (n k : ℕ) → k ≡ n → n ≤ 12 → 2 ^ k ≤ 4096
few n k e small =
    elim (cases_lt k 12) [
      | inl less ↦ let below : 2 ^ k < 4096 = pow_below k 12 less in omega (arith, below)
      | inr more ↦ subst (λ (j : ℕ). 2 ^ j ≤ 4096) (let same : 12 ≡ k = omega arith in same) (omega arith)
    ]

pub returns-clause-few : goal.returns-clause-few
returns-clause-few c =
    subst (λ (n : ℕ). n ≤ 4096) (sym c.pow.ensures)
    (few (length c.args.class.now.queries) (length c.as_slice.result.now) (ap length c.as_slice.ensures) c.requires)
