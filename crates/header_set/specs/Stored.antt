-- How headers lie in an array of eight numbers and a count.
use Rattle.std.specs.Prelude.{◌≡◌, ℕ, ◌-◌, ◌≤◌, ◌++◌, List, length, take, drop, replicate}
use Rattle.std.proofs.Common.{◌∙◌, sym, ap, subst, take-append-drop, length-take-le}
use Rattle.header_set.specs.Headers.{IsHeaders}

-- the first numbers of the array are headers, and the others are 0
pub record IsStored (sizes : List ℕ) (count : ℕ) : Type 0 where
  pub headers : IsHeaders (take count sizes)
  pub room : length sizes ≡ 8
  pub counted : count ≤ 8
  pub spare : drop count sizes ≡ replicate (8 - count) 0

-- the list of the headers is as long as the count says
pub count_again : (sizes : List ℕ) (count : ℕ) → IsStored sizes count → length (take count sizes) ≡ count
count_again sizes count stored =
    length-take-le count sizes (subst (λ (n : ℕ). count ≤ n) (sym stored.room) stored.counted)

-- the headers and a zero for each place that is left are the array
pub sizes_again : (sizes : List ℕ) (count : ℕ) → IsStored sizes count →
    take count sizes ++ replicate (8 - length (take count sizes)) 0 ≡ sizes
sizes_again sizes count stored =
    ap (λ (n : ℕ). take count sizes ++ replicate (8 - n) 0) (count_again sizes count stored)
    ∙ ap (λ (rest : List ℕ). take count sizes ++ rest) (sym stored.spare)
    ∙ take-append-drop count sizes
