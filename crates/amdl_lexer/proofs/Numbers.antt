-- The value of at most nine digits.
use Rattle.std.proofs.Common.{◌≡◌, ◌≤◌, ◌<◌, ◌+◌, ◌-◌, ◌*◌, ◌^◌, ℕ, true, List, [], ◌∷◌, length, take, get_or, fold}
use Rattle.std.proofs.Common.{refl, arith, suc, leb, zero, lit<}
use Rattle.std.specs.List.{list_all}
use Rattle.std.proofs.Math.Nat.{pow-succ', pow-le-pow_right, mul-le-mul_right}
use Rattle.std.proofs.lemmas.Bool.{and_parts, leb-true}
use Rattle.std.proofs.lemmas.List.Sums.{fold_more}
use Rattle.std.proofs.lemmas.List.{length-take-le}
use Rattle.amdl_tree.specs.Token.{is_digit, value_of_digits}

abbrev pub put_behind : ℕ → ℕ → ℕ
put_behind value digit = 10 * value + (digit - 48)

digit_small : (digit : ℕ) → is_digit digit ≡ true → (48 ≤ digit) × (digit ≤ 57)
digit_small digit is =
    let parts = and_parts (leb 48 digit) (leb digit 57) is in
    (leb-true 48 digit parts.0, leb-true digit 57 parts.1)

-- digits behind a value keep it below the next one with as many digits
fold_below : (value : ℕ) (digits : List ℕ) → list_all is_digit digits ≡ true →
    fold put_behind value digits < (value + 1) * 10 ^ length digits
fold_below value [] all = omega arith
fold_below value (digit ∷ digits) all =
    let parts = and_parts (is_digit digit) (list_all is_digit digits) all in
    let small = digit_small digit parts.0 in
    let below = fold_below (put_behind value digit) digits parts.1 in
    let wider : (put_behind value digit + 1) * 10 ^ length digits ≤ (10 * (value + 1)) * 10 ^ length digits =
    mul-le-mul_right (10 ^ length digits) (omega arith) in
    let power : (value + 1) * 10 ^ suc (length digits) ≡ (10 * (value + 1)) * 10 ^ length digits =
    rw pow-succ' (omega arith) in
    omega arith

all_in_front : (n : ℕ) (digits : List ℕ) → list_all is_digit digits ≡ true → list_all is_digit (take n digits) ≡ true
all_in_front zero digits all = refl
all_in_front (suc n) [] all = refl
all_in_front (suc n) (digit ∷ digits) all =
    let parts = and_parts (is_digit digit) (list_all is_digit digits) all in
    rw parts.0 (all_in_front n digits parts.1)

-- one more of at most nine digits keeps the value within 32 bits
pub value_fits : (digits : List ℕ) (i : ℕ) → list_all is_digit digits ≡ true → length digits ≤ 9 → i < length digits →
    10 * value_of_digits (take i digits) + (get_or digits i 0 - 48) < 2 ^ 32
value_fits digits i all few within =
    let more : value_of_digits (take (i + 1) digits)
    ≡ put_behind (value_of_digits (take i digits)) (get_or digits i 0) = fold_more put_behind 0 digits i 0 within in
    let size : length (take (i + 1) digits) ≡ i + 1 = length-take-le (i + 1) digits (omega arith) in
    let below : value_of_digits (take (i + 1) digits) < (0 + 1) * 10 ^ length (take (i + 1) digits) =
    fold_below 0 (take (i + 1) digits) (all_in_front (i + 1) digits all) in
    let power : 10 ^ length (take (i + 1) digits) ≤ 10 ^ 9 =
    (let few_digits : length (take (i + 1) digits) ≤ 9 = omega arith in pow-le-pow_right (lit< tt) few_digits) in
    omega arith
