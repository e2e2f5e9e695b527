-- The first bit of a word that is 1, from a place on.
use Rattle.std.proofs.Common.{◌≡◌, ℕ, ◌+◌, ◌-◌, ◌/◌, ◌%◌, ◌^◌, ◌<◌, ◌≤◌, inl, inr, sym, ap, ◌∙◌, arith, w64, pow-add}
use Rattle.std.proofs.Math.Nat.{div-div-eq-div-mul, div-le_self}
use Rattle.std.specs.Int.{bit_at, trailing_zeros}
use Rattle.std.proofs.lemmas.Bool.{cases_lt}
use Rattle.std.proofs.lemmas.Nat.Bits.{bit_at-zero, bit_at-trailing_zeros, bit_at_above}
use Rattle.cell_sets.specs.Words.{HasNoBit}

bit_at-shifted : (word low place : ℕ) → bit_at (word / 2 ^ low) place ≡ bit_at word (low + place)
bit_at-shifted word low place =
    ap (λ n. n % 2) (div-div-eq-div-mul word (2 ^ low) (2 ^ place) ∙ ap (λ n. word / n) (sym (pow-add 2 low place)))

bit_from : (word low place : ℕ) → low ≤ place → bit_at word place ≡ bit_at (word / 2 ^ low) (place - low)
bit_from word low place within =
    let e : low + (place - low) ≡ place = omega arith in
    sym (bit_at-shifted word low (place - low) ∙ ap (bit_at word) e)

pub no_bit_left : (word low to : ℕ) → word / 2 ^ low ≡ 0 → HasNoBit word low to
no_bit_left word low to none place from below =
    bit_from word low place from ∙ ap (λ n. bit_at n (place - low)) none ∙ bit_at-zero (place - low)

pub first_bit_left : (word low : ℕ) → word < 2 ^ 64 → (word / 2 ^ low ≡ 0 → ⊥)
    → (low ≤ low + trailing_zeros w64 (word / 2 ^ low)) × (low + trailing_zeros w64 (word / 2 ^ low) < 64)
    × (bit_at word (low + trailing_zeros w64 (word / 2 ^ low)) ≡ 1)
    × HasNoBit word low (low + trailing_zeros w64 (word / 2 ^ low))
first_bit_left word low small some =
    let rest : ℕ = word / 2 ^ low in
    let zeros : ℕ = trailing_zeros w64 rest in
    let smaller : rest ≤ word = div-le_self word (2 ^ low) in
    let positive : 0 < rest = omega (arith, some) in
    let found = bit_at-trailing_zeros w64 rest positive (omega arith) in
    let one : bit_at word (low + zeros) ≡ 1 = sym (bit_at-shifted word low zeros) ∙ found.1 in
    let below : low + zeros < 64 = elim (cases_lt (low + zeros) 64) [
      | inl less ↦ less
      | inr more ↦ absurd (cc (one, bit_at_above word 64 (low + zeros) small more))
    ] in
    (omega arith, below, one, λ place from before. bit_from word low place from ∙ found.2 (place - low) (omega arith))
