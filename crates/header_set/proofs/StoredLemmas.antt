-- A list of headers and zeros after it, as an array.
use Rattle.std.proofs.Common.{◌≡◌, ℕ, ◌+◌, ◌-◌, ◌≤◌, List, ◌++◌, length, drop, replicate, ap, sym, ◌∙◌, subst, arith}
use Rattle.std.proofs.Common.{length-append}
use Rattle.std.proofs.lemmas.List.{drop-replicate, length-replicate}
use Rattle.std.proofs.Math.Seq.{take-append_seam, drop-append_seam}
use Rattle.header_set.specs.Headers.{IsHeaders}
use Rattle.header_set.specs.Stored.{IsStored}

-- as many zeros as there is room for
abbrev zeros_after : List ℕ → List ℕ
zeros_after sizes = drop (length sizes) (replicate 8 0)

left_over : (sizes : List ℕ) → zeros_after sizes ≡ replicate (8 - length sizes) 0
left_over sizes = drop-replicate (length sizes) 8 0

left_over_length : (sizes : List ℕ) → length (zeros_after sizes) ≡ 8 - length sizes
left_over_length sizes = ap (λ (rest : List ℕ). length rest) (left_over sizes) ∙ length-replicate (8 - length sizes) 0

fills : (n m : ℕ) → m ≡ 8 - n → n ≤ 8 → n + m ≡ 8
fills n m same within = omega arith

pub stored_padded : (sizes : List ℕ) → IsHeaders sizes → IsStored (sizes ++ zeros_after sizes) (length sizes)
stored_padded sizes headers = record {
  headers = subst IsHeaders (sym (take-append_seam sizes (zeros_after sizes))) headers;
  room = length-append sizes (zeros_after sizes)
      ∙ fills (length sizes) (length (zeros_after sizes)) (left_over_length sizes) headers.counted.1;
  counted = headers.counted.1;
  spare = drop-append_seam sizes (zeros_after sizes) ∙ left_over sizes;
}
