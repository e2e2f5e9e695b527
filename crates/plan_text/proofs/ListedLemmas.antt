-- Texts with commas between, one for each number from 0.
use Rattle.std.proofs.Common.{◌≡◌, ℕ, zero, suc, ◌+◌, ◌-◌, ◌<◌, ◌≤◌, List, [], ◌∷◌, ◌++◌, length, map, sym, ap, ◌∙◌}
use Rattle.std.proofs.Common.{append_assoc, append-nil, arith}
use Rattle.std.specs.Prelude.{codes}
use Rattle.std.specs.List.{flat_map, range_with_len}
use Rattle.std.proofs.lemmas.List.Concat.{flat_map-append}
use Rattle.std.proofs.lemmas.List.FromFn.{map-range_with_len_more, length-map-range_with_len}
use Rattle.amdl_tree.specs.Layout.{listed}

-- a text with the comma before it
abbrev led : List ℕ → List ℕ
led text = codes ", " ++ text

listed_more : (xs : List (List ℕ)) (y : List ℕ) → 0 < length xs → listed (xs ++ y ∷ []) ≡ listed xs ++ led y
listed_more [] y some = absurd (omega arith)
listed_more (x ∷ xs) y some =
    ap (λ t. x ++ t) (flat_map-append led xs (y ∷ []) ∙ ap (λ t. flat_map led xs ++ t) (append-nil (led y)))
    ∙ sym (append_assoc x (flat_map led xs) (led y))

-- the texts of the first numbers
abbrev pub up_to : (ℕ → List ℕ) → ℕ → List ℕ
up_to f k = listed (map f (range_with_len 0 k))

pub up_to_more : (f : ℕ → List ℕ) (k : ℕ) → 1 ≤ k → up_to f (k + 1) ≡ up_to f k ++ led (f k)
up_to_more f k some =
    let many : 0 < length (map f (range_with_len 0 k)) = omega (arith, length-map-range_with_len f 0 k) in
    ap listed (map-range_with_len_more f 0 k k (omega arith)) ∙ listed_more (map f (range_with_len 0 k)) (f k) many

-- those of fewer numbers come first
up_to_front : (f : ℕ → List ℕ) (k d : ℕ) → 1 ≤ k → (rest : List ℕ) × (up_to f (k + d) ≡ up_to f k ++ rest)
up_to_front f k zero some =
    let same : k + 0 ≡ k = omega arith in
    ([], ap (up_to f) same ∙ sym (append-nil (up_to f k)))
up_to_front f k (suc d) some =
    let place : k + suc d ≡ (k + d) + 1 = omega arith in
    let fewer = up_to_front f k d some in (
      fewer.0 ++ led (f (k + d)),
      ap (up_to f) place ∙ up_to_more f (k + d) (omega arith) ∙ ap (λ t. t ++ led (f (k + d))) fewer.1
          ∙ append_assoc (up_to f k) fewer.0 (led (f (k + d))),
    )

-- the first text comes first
pub up_to_first : (f : ℕ → List ℕ) (n : ℕ) → 1 ≤ n → (rest : List ℕ) × (up_to f n ≡ f 0 ++ rest)
up_to_first f n some =
    let others = up_to_front f 1 (n - 1) (omega arith) in
    let place : n ≡ 1 + (n - 1) = omega arith in
    (others.0, ap (up_to f) place ∙ others.1 ∙ ap (λ t. t ++ others.0) (append-nil (f 0)))

-- behind the first k texts comes the next
pub up_to_at : (f : ℕ → List ℕ) (k n : ℕ) → 1 ≤ k → k < n →
    (rest : List ℕ) × (up_to f n ≡ up_to f k ++ (codes ", " ++ (f k ++ rest)))
up_to_at f k n some below =
    let others = up_to_front f (k + 1) (n - (k + 1)) (omega arith) in
    let place : n ≡ k + 1 + (n - (k + 1)) = omega arith in (
      others.0,
      ap (up_to f) place ∙ others.1 ∙ ap (λ t. t ++ others.0) (up_to_more f k some)
          ∙ append_assoc (up_to f k) (led (f k)) others.0,
    )
