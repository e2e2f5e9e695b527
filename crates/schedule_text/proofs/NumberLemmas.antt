-- The decimal digits of a number are its spelling.
use Rattle.std.proofs.Common.{◌≡◌, ◌<◌, ◌≤◌, ◌+◌, ◌-◌, ◌*◌, ◌/◌, ◌%◌, ◌^◌, ℕ, zero, suc, Bool, true, ◌&&◌, List, []}
use Rattle.std.proofs.Common.{◌∷◌}
use Rattle.std.proofs.Common.{◌++◌, length, refl, sym, ap, ◌∙◌, subst, arith, append-nil, inl, inr}
use Rattle.std.specs.Fmt.{decimal}
use Rattle.std.specs.List.{list_all}
use Rattle.std.proofs.lemmas.Bool.{cases_lt, and_parts}
use Rattle.std.proofs.lemmas.Bool.Decides.{nat_tests}
use Rattle.std.proofs.lemmas.Fmt.{decimal_digit, decimal_step}
use Rattle.std.proofs.lemmas.List.{length-append}
use Rattle.std.proofs.lemmas.List.Folds.{list_all-append}
use Rattle.std.proofs.lemmas.List.Sums.{fold-append}
use Rattle.amdl_tree.specs.Word.{EndsWord, starts_word}
use Rattle.amdl_tree.specs.Token.{is_digit, IsNumber, value_of_digits}
use Rattle.amdl_tree.specs.Lexical.{a_token}
use Rattle.amdl_tree.specs.declared.token.Token.TheVariants.{Number}
use Rattle.amdl_tree.proofs.RunLemmas.{StopsRun}
use Rattle.amdl_tree.proofs.LexemeLemmas.{number_longest}
use Rattle.amdl_tree.proofs.PartLemmas.{Part}
use Rattle.amdl_parser.proofs.Holds.{or_two}
use Rattle.schedule_text.specs.Spelled.{figure}

-- the digits of a number: at least one, at most so many, and their value
record IsDecimal (most n : ℕ) : Type 0 where
  digits : list_all is_digit (decimal n) ≡ true
  value : value_of_digits (decimal n) ≡ n
  some : 1 ≤ length (decimal n)
  short : length (decimal n) ≤ most

digit_test : (d : ℕ) → d < 10 → is_digit (48 + d) ≡ true
digit_test d lt = grind (arith, nat_tests)

abbrev with_digit : ℕ → ℕ → ℕ
with_digit value digit = 10 * value + (digit - 48)

one_digit : (k n : ℕ) → n < 10 → IsDecimal (suc k) n
one_digit k n lt =
    let is = decimal_digit n lt in
    let value : with_digit 0 (48 + n) ≡ n = omega arith in
    record {
      digits = subst (λ t. list_all is_digit t ≡ true) (sym is) (rw (digit_test n lt) refl);
      value = subst (λ t. value_of_digits t ≡ n) (sym is) value;
      some = subst (λ t. 1 ≤ length t) (sym is) (omega arith);
      short = subst (λ t. length t ≤ suc k) (sym is) (omega arith);
    }

both : (a b : Bool) → a ≡ true → b ≡ true → (a && b) ≡ true
both a b p q = rw p q

more_digits : (k n : ℕ) → 10 ≤ n → n < 2 ^ 64 → IsDecimal k (n / 10) → IsDecimal (suc k) n
more_digits k n several fits front =
    let is = decimal_step n several fits in
    let last : List ℕ = (48 + n % 10) ∷ [] in
    let low : n % 10 < 10 = omega arith in
    let size : length (decimal (n / 10) ++ (48 + n % 10) ∷ []) ≡ length (decimal (n / 10)) + 1 =
    length-append (decimal (n / 10)) ((48 + n % 10) ∷ []) in
    let all : list_all is_digit (decimal (n / 10) ++ (48 + n % 10) ∷ []) ≡ true =
    list_all-append is_digit (decimal (n / 10)) ((48 + n % 10) ∷ [])
    ∙ both (list_all is_digit (decimal (n / 10))) (list_all is_digit ((48 + n % 10) ∷ [])) front.digits
    (rw (digit_test (n % 10) low) refl) in
    let whole : with_digit (n / 10) (48 + n % 10) ≡ n = omega arith in
    let value : value_of_digits (decimal (n / 10) ++ (48 + n % 10) ∷ []) ≡ n =
    fold-append with_digit 0 (decimal (n / 10)) ((48 + n % 10) ∷ [])
    ∙ ap (λ v. with_digit v (48 + n % 10)) front.value ∙ whole in
    record {
      digits = subst (λ t. list_all is_digit t ≡ true) (sym is) all;
      value = subst (λ t. value_of_digits t ≡ n) (sym is) value;
      some = subst (λ t. 1 ≤ length t) (sym is) (omega (arith, size));
      short = subst (λ t. length t ≤ suc k) (sym is) (omega (arith, size, front.short));
    }

-- a bound for so many digits and one
abbrev bound : ℕ → ℕ
bound zero = 10
bound (suc k) = 10 * bound k

decimals : (k n : ℕ) → n < bound k → n < 2 ^ 64 → IsDecimal (suc k) n
decimals zero n lt fits = one_digit 0 n lt
decimals (suc k) n lt fits =
    elim (cases_lt n 10) [
      | inl one ↦ one_digit (suc k) n one
      | inr several ↦ more_digits (suc k) n several fits
          (decimals k (n / 10) (omega (arith, lt, several)) (omega (arith, fits, several)))
    ]

of_nine : (n : ℕ) → n < 1000000000 → IsDecimal 9 n
of_nine n lt = decimals 8 n lt (omega (arith, lt))

number_of : (bytes : List ℕ) → list_all is_digit bytes ≡ true → 1 ≤ length bytes → IsNumber bytes
number_of [] all some = absurd (omega (arith, some))
number_of (first ∷ others) all some =
    let parts = and_parts (is_digit first) (list_all is_digit others) all in (parts.0, parts.1)

ends_digits : (rest : List ℕ) → EndsWord rest → StopsRun is_digit rest
ends_digits [] ends = tt
ends_digits (byte ∷ bytes) ends = or_two (starts_word byte) (is_digit byte) ends

pub part_number : (n : ℕ) → n < 1000000000 → Part EndsWord (decimal n) (figure n)
part_number n lt =
    let is = of_nine n lt in
    let number = number_of (decimal n) is.digits is.some in
    record {
      pieces = a_token (Number n) (decimal n) ∷ [];
      whole = append-nil (decimal n);
      made = refl;
      stand = λ rest follows.
          (((number, is.short, sym is.value), number_longest (decimal n) rest number (ends_digits rest follows)), tt);
    }
