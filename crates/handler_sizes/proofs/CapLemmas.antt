-- Sums and products of numbers that are counted up to a largest one.
use Rattle.std.proofs.Common.{◌≡◌, ℕ, zero, suc, ◌+◌, ◌*◌, ◌-◌, ◌^◌, ◌<◌, inl, inr, List, [], ◌∷◌, ◌++◌, length, take}
use Rattle.std.proofs.Common.{get_or, min, sym, ap, ◌∙◌, arith}
use Rattle.std.proofs.lemmas.Bool.{cases_lt}
use Rattle.std.proofs.lemmas.List.{take_more}
use Rattle.std.proofs.lemmas.Nat.{mul-le}
use Rattle.std.proofs.Math.Nat.{min-eq_left, min-eq_right, add_assoc, mul_comm, mul-one, mul-zero, le-mul_of_pos_right}
use Rattle.handler_sizes.specs.Capped.{capped}

pub add_capped : (m a b : ℕ) → min (min a m + min b m) m ≡ min (a + b) m
add_capped m a b = omega (arith)

-- one factor is counted in full
mul_left : (m a b : ℕ) → min (min a m * b) m ≡ min (a * b) m
mul_left m a zero = ap (λ t. min t m) (mul-zero (min a m) ∙ sym (mul-zero a))
mul_left m a (suc b) =
    elim (cases_lt m a) [
      | inl large ↦ ap (λ t. min (t * suc b) m) (min-eq_right (omega (arith, large)))
          ∙ min-eq_right (le-mul_of_pos_right m (omega (arith)))
          ∙ sym (min-eq_right (rw (mul-one m) at (mul-le m 1 a (suc b) (omega (arith, large)) (omega (arith)))))
      | inr small ↦ ap (λ t. min (t * suc b) m) (min-eq_left small)
    ]

pub mul_capped : (m a b : ℕ) → min (min a m * min b m) m ≡ min (a * b) m
mul_capped m a b =
    mul_left m a (min b m)
    ∙ ap (λ t. min t m) (mul_comm a (min b m)) ∙ mul_left m b a ∙ ap (λ t. min t m) (mul_comm b a)

pub mul_by : (m a b : ℕ) → min (min a m * b) m ≡ min (a * b) m
mul_by = mul_left

pub add_by : (m a b : ℕ) → min (min a m + b) m ≡ min (a + b) m
add_by m a b = omega (arith)

-- a total over a list, and what its parts count
module _ {A : Type 0} (total : List A → ℕ) (one : A → ℕ) (none : total [] ≡ 0)
    (next : (x : A) (xs : List A) → total (x ∷ xs) ≡ one x + total xs) where
  last : (xs : List A) (y : A) → total (xs ++ y ∷ []) ≡ total xs + one y
  last [] y = next y [] ∙ ap (λ t. one y + t) none ∙ omega (arith) ∙ ap (λ t. t + one y) (sym none)
  last (x ∷ xs) y =
      next x (xs ++ y ∷ []) ∙ ap (λ t. one x + t) (last xs y) ∙ sym (add_assoc (one x) (total xs) (one y))
      ∙ ap (λ t. t + one y) (sym (next x xs))

  -- one more part is counted
  pub counts_more : (xs : List A) (i : ℕ) (x : A) (now part : ℕ) → i < length xs → x ≡ get_or xs i x →
      now ≡ capped (total (take i xs)) → part ≡ capped (one x) →
      min (now + part) (2 ^ 64 - 1) ≡ capped (total (take (i + 1) xs))
  counts_more xs i x now part inside here so_far is =
      (λ k. min (so_far k + is k) (2 ^ 64 - 1))
      ∙ add_capped (2 ^ 64 - 1) (total (take i xs)) (one x)
      ∙ ap (λ t. capped t) (sym (last (take i xs) x))
      ∙ ap (λ y. capped (total (take i xs ++ y ∷ []))) here
      ∙ ap (λ ys. capped (total ys)) (sym (take_more xs i x inside))
