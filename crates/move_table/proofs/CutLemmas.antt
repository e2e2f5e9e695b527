-- Effects on some of the queries alone, bit by bit.
use Rattle.std.proofs.Common.{◌≡◌, ℕ, ◌-◌, ◌^◌, ◌<◌, ◌≤◌}
use Rattle.std.proofs.Common.{inl, inr, sym, ap, ◌∙◌, arith, bit_and, bit_or, min, max}
use Rattle.std.specs.Int.{bit_at, bit_not, w16}
use Rattle.std.proofs.lemmas.Bool.{cases_lt}
use Rattle.std.proofs.lemmas.Nat.{and_le_l, and_le_r}
use Rattle.std.proofs.lemmas.Nat.Bits.{bit_at-lt, bit_at_and, bit_at_or, bit_at_not, bit_at_above, same_from_bits}
use Rattle.move_table.specs.declared.effect.Effect.{Effect}
use Rattle.move_table.specs.Effect.{overwritten, cut, between}

-- what is not in a mask, of a small one
pub and_not_bit : (mask other i : ℕ) → mask < 2 ^ 16 → other < 2 ^ 16 →
    bit_at (bit_and mask (bit_not w16 other)) i ≡ min (bit_at mask i) (1 - bit_at other i)
and_not_bit mask other i small other_small = elim (cases_lt i 16) [
  | inl within ↦ bit_at_and mask (bit_not w16 other) i
      ∙ ap (min (bit_at mask i)) (bit_at_not w16 other i other_small within)
  | inr past ↦ let none : bit_at mask i ≡ 0 = bit_at_above mask 16 i small past in
      omega (arith, none, bit_at_and mask (bit_not w16 other) i)
]

pub or_not_bit : (mask known other i : ℕ) → mask < 2 ^ 16 → other < 2 ^ 16 →
    bit_at (bit_and mask (bit_or known (bit_not w16 other))) i
    ≡ min (bit_at mask i) (max (bit_at known i) (1 - bit_at other i))
or_not_bit mask known other i small other_small = elim (cases_lt i 16) [
  | inl within ↦ bit_at_and mask (bit_or known (bit_not w16 other)) i
      ∙ ap (min (bit_at mask i)) (bit_at_or known (bit_not w16 other) i
      ∙ ap (max (bit_at known i)) (bit_at_not w16 other i other_small within))
  | inr past ↦ let none : bit_at mask i ≡ 0 = bit_at_above mask 16 i small past in
      omega (arith, none, bit_at_and mask (bit_or known (bit_not w16 other)) i)
]

whole_bit : (m k b : ℕ) → m < 2 → k < 2 → b ≡ min m k → min m (max b (1 - k)) ≡ m
whole_bit m k b lm lk e = omega (arith, lm, lk, e)

-- a mask with the known bits has at most these and all that aren't known
pub known_last : (mask known bits : ℕ) → mask < 2 ^ 16 → known < 2 ^ 16 → bit_and mask known ≡ bits →
    mask ≤ bit_or bits (bit_not w16 known)
known_last mask known bits small fits has =
    let all : bit_and mask (bit_or bits (bit_not w16 known)) ≡ mask =
    same_from_bits (bit_and mask (bit_or bits (bit_not w16 known))) mask (λ i.
    or_not_bit mask bits known i small fits
    ∙ whole_bit (bit_at mask i) (bit_at known i) (bit_at bits i) (bit_at-lt mask i) (bit_at-lt known i)
    (ap (λ n. bit_at n i) (sym has) ∙ bit_at_and mask known i)) in
    omega (arith, all, and_le_r mask (bit_or bits (bit_not w16 known)))

pub overwritten_bit : (mask : ℕ) (effect : Effect) (i : ℕ) → mask < 2 ^ 16 → effect.written < 2 ^ 16 →
    bit_at (overwritten mask effect) i
    ≡ max (min (bit_at mask i) (1 - bit_at effect.written i)) (bit_at effect.values i)
overwritten_bit mask effect i small other_small =
    bit_at_or (bit_and mask (bit_not w16 effect.written)) effect.values i
    ∙ ap (λ n. max n (bit_at effect.values i)) (and_not_bit mask effect.written i small other_small)

cut_known : (a k b f : ℕ) → a < 2 → k < 2 → b < 2 → f < 2 → min a (min k f) ≡ min b f →
    min (min a f) (max (min k f) (1 - f)) ≡ min b f
cut_known a k b f la lk lb lf e = omega (arith, la, lk, lb, lf, e)

cut_over : (a w v f : ℕ) → a < 2 → w < 2 → v < 2 → f < 2 →
    max (min a (1 - f)) (max (min (min a f) (1 - min w f)) (min v f)) ≡ max (min a (1 - min w f)) (min v f)
cut_over a w v f la lw lv lf = omega (arith, la, lw, lv, lf)

both_parts : (a f : ℕ) → a < 2 → f < 2 → max (min a (1 - f)) (min a f) ≡ a
both_parts a f la lf = omega (arith, la, lf)

module _ (whole : Effect) (fixed mask : ℕ) (small : mask < 2 ^ 16) (fits : fixed < 2 ^ 16) where
  abbrev part : ℕ
  part = bit_and mask fixed

  part_small : part < 2 ^ 16
  part_small = omega (arith, small, and_le_l mask fixed)

  written_fits : (cut whole fixed).written < 2 ^ 16
  written_fits = omega (arith, fits, and_le_r whole.written fixed)

  -- the part of a mask at the queries that are fixed has the known bits where the mask has
  pub part_known : bit_and mask (cut whole fixed).known ≡ (cut whole fixed).bits →
      bit_and (bit_and mask fixed) (bit_or (cut whole fixed).known (bit_not w16 fixed)) ≡ (cut whole fixed).bits
  part_known has =
      same_from_bits (bit_and part (bit_or (cut whole fixed).known (bit_not w16 fixed))) (cut whole fixed).bits (λ i.
      or_not_bit part (cut whole fixed).known fixed i part_small fits
      ∙ (λ j. min (bit_at_and mask fixed i j) (max (bit_at_and whole.known fixed i j) (1 - bit_at fixed i)))
      ∙ cut_known (bit_at mask i) (bit_at whole.known i) (bit_at whole.bits i) (bit_at fixed i) (bit_at-lt mask i)
      (bit_at-lt whole.known i) (bit_at-lt whole.bits i) (bit_at-lt fixed i)
      ((λ j. min (bit_at mask i) (sym (bit_at_and whole.known fixed i) j))
      ∙ sym (bit_at_and mask (cut whole fixed).known i) ∙ ap (λ n. bit_at n i) has ∙ bit_at_and whole.bits fixed i)
      ∙ sym (bit_at_and whole.bits fixed i))

  -- and what becomes of it is what becomes of the mask
  pub part_over : overwritten mask (between fixed (bit_and mask fixed) (overwritten (bit_and mask fixed) (cut whole fixed)))
      ≡ overwritten mask (cut whole fixed)
  part_over =
      same_from_bits (overwritten mask (between fixed part (overwritten part (cut whole fixed))))
      (overwritten mask (cut whole fixed)) (λ i.
      overwritten_bit mask (between fixed part (overwritten part (cut whole fixed))) i small fits
      ∙ (λ j. max (min (bit_at mask i) (1 - bit_at fixed i))
      (overwritten_bit part (cut whole fixed) i part_small written_fits j))
      ∙ (λ j. max (min (bit_at mask i) (1 - bit_at fixed i))
      (max (min (bit_at_and mask fixed i j) (1 - bit_at_and whole.written fixed i j)) (bit_at_and whole.values fixed i j)))
      ∙ cut_over (bit_at mask i) (bit_at whole.written i) (bit_at whole.values i) (bit_at fixed i) (bit_at-lt mask i)
      (bit_at-lt whole.written i) (bit_at-lt whole.values i) (bit_at-lt fixed i)
      ∙ (λ j. max (min (bit_at mask i) (1 - sym (bit_at_and whole.written fixed i) j))
      (sym (bit_at_and whole.values fixed i) j))
      ∙ sym (overwritten_bit mask (cut whole fixed) i small written_fits))

  pub part_same : bit_and mask fixed ≡ overwritten (bit_and mask fixed) (cut whole fixed) →
      mask ≡ overwritten mask (cut whole fixed)
  part_same same =
      sym (same_from_bits (overwritten mask (between fixed part part)) mask (λ i.
      overwritten_bit mask (between fixed part part) i small fits
      ∙ (λ j. max (min (bit_at mask i) (1 - bit_at fixed i)) (bit_at_and mask fixed i j))
      ∙ both_parts (bit_at mask i) (bit_at fixed i) (bit_at-lt mask i) (bit_at-lt fixed i)))
      ∙ ap (λ n. overwritten mask (between fixed part n)) same ∙ part_over
