-- The example of two fields of two values.
use Rattle.std.proofs.Common.{◌≡◌, ℕ, zero, suc, ◌<◌, ◌/◌, ◌%◌, List, [], ◌∷◌, Option, Some, slice_set, sym, subst}
use Rattle.std.proofs.Common.{refl, arith}
use Rattle.header_set.specs.Headers.{field_of}
use Rattle.header_set.specs.Pattern.{any_pattern, fixed_at, Matches}
use Rattle.header_set.specs.Laws.{SmallFields, SmallMatch}

pub small_fields : SmallFields
unfolding field_of
small_fields = (refl, refl)

abbrev two : List ℕ
two = 2 ∷ 2 ∷ []

abbrev pair : List (Option ℕ)
pair = slice_set (slice_set any_pattern 0 (Some 0)) 1 (Some 1)

one_has : (k x : ℕ) → k < 2 → fixed_at pair k ≡ Some x → field_of two 1 k ≡ x
unfolding field_of
one_has zero x h same = cc
one_has (suc zero) x h same = cc
one_has (suc (suc k)) x h same = absurd (omega (arith, h))

digits : (p : ℕ) → p < 4 → field_of two p 0 ≡ 0 → field_of two p 1 ≡ 1 → p ≡ 1
unfolding field_of
digits p h first second =
    let high : p / 2 % 2 ≡ 0 = first in
    let low : p / 1 % 2 ≡ 1 = second in
    omega (arith, high, low)

pub small_match : SmallMatch
small_match p h = (
  λ m. digits p h (m.each 0 0 (omega arith) refl) (m.each 1 1 (omega arith) refl),
  λ one. subst (λ (n : ℕ). Matches two pair n) (sym one) (record { each = one_has }),
)
