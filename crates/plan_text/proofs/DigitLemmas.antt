-- Decimal digits.
use Rattle.std.proofs.Common.{◌≡◌, ℕ, ◌+◌, ◌-◌, ◌/◌, ◌%◌, ◌^◌, ◌<◌, ◌≤◌, Bool, true, false, List, [], ◌∷◌, ◌++◌, length}
use Rattle.std.proofs.Common.{drop, refl, sym, ap, ◌∙◌, append_assoc, nat_le, nat_lt, nat_eq, cond, zero, suc, arith}
use Rattle.std.specs.Prelude.{slice_set}
use Rattle.std.specs.Fmt.{decimal, digits, digits_onto, digit_glyph}
use Rattle.std.specs.List.{list_all, Contains}
use Rattle.std.proofs.lemmas.Fmt.{decimal_step}
use Rattle.std.proofs.lemmas.Bool.Decides.{nat_tests}
use Rattle.std.proofs.lemmas.List.{drop-set, length-append}
use Rattle.std.proofs.lemmas.List.Elements.{All-contains}
use Rattle.std.proofs.lemmas.List.Sums.{AllPass-from_list_all}

-- one digit more stands before those that are stored
pub digit_stored : (text front bytes : List ℕ) (digit start : ℕ) → 1 ≤ start → start ≤ length bytes →
    text ≡ (front ++ digit ∷ []) ++ drop start bytes →
    text ≡ front ++ drop (start - 1) (slice_set bytes (start - 1) digit)
digit_stored text front bytes digit start some within whole =
    let place : start - 1 + 1 ≡ start = omega arith in
    let inside : start - 1 < length bytes = omega arith in
    whole ∙ append_assoc front (digit ∷ []) (drop start bytes)
    ∙ ap (λ t. front ++ t) (sym (drop-set bytes (start - 1) digit inside ∙ ap (λ k. digit ∷ drop k bytes) place))

-- the last digit of a number of several takes one place
pub length-front_digits : (n : ℕ) → 10 ≤ n → n < 2 ^ 64 → length (decimal (n / 10)) + 1 ≡ length (decimal n)
length-front_digits n several fits =
    sym (ap length (decimal_step n several fits) ∙ length-append (decimal (n / 10)) ((48 + n % 10) ∷ []))

-- a digit is no control byte
glyph_is_high : (upper : Bool) (d : ℕ) → nat_le 48 (digit_glyph upper d) ≡ true
glyph_is_high upper d =
    elim (nat_lt d 10) as (λ v. nat_le 48 (cond v (48 + d) (cond upper (55 + d) (87 + d))) ≡ true) [
      | true ↦ grind (arith, nat_tests)
      | false ↦ elim upper as
          (λ v. nat_le 48 (cond v (55 + d) (87 + d))
          ≡ true) [ true ↦ grind (arith, nat_tests) | false ↦ grind (arith, nat_tests) ]
    ]

-- nor is a byte of the digits that are put before such bytes
digits_are_high : (k base n : ℕ) (upper : Bool) (acc : List ℕ) → list_all (nat_le 48) acc ≡ true →
    list_all (nat_le 48) (digits_onto k base upper n acc) ≡ true
digits_are_high zero base n upper acc high = high
digits_are_high (suc k) base n upper acc high =
    let next : list_all (nat_le 48) (digit_glyph upper (n % base) ∷ acc) ≡ true =
    rw (glyph_is_high upper (n % base)) high in
    elim (nat_eq (n / base) 0) as
    (λ v. list_all (nat_le 48)
    (cond v (digit_glyph upper (n % base) ∷ acc)
    (digits_onto k base upper (n / base) (digit_glyph upper (n % base) ∷ acc))) ≡ true) [
      | true ↦ next
      | false ↦ digits_are_high k base (n / base) upper (digit_glyph upper (n % base) ∷ acc) next
    ]

-- no line ends within the digits of a number
pub decimal-one_line : (n : ℕ) → ¬ Contains (decimal n) 10
unfolding digits
decimal-one_line n ends =
    let high : nat_le 48 10 ≡ true =
    All-contains (λ b. nat_le 48 b ≡ true) (decimal n) 10
    (AllPass-from_list_all (nat_le 48) (decimal n) (digits_are_high 64 10 n false [] refl)) ends in
    absurd (cc)
