-- Words, numbers and signs: the first byte tells which it is, and where it stops there is none longer.
use Rattle.std.proofs.Common.{◌≡◌, ◌≤◌, ◌<◌, ℕ, Bool, true, false, ◌&&◌, ◌||◌, List, [], ◌∷◌, ◌++◌, ◌==◌, nat_le}
use Rattle.std.proofs.Common.{length, drop, refl, sym, ap, ◌∙◌, subst, arith, lit≤, lit<, inl, inr, ◌⊎◌, Option, Some}
use Rattle.std.specs.List.{list_all, find}
use Rattle.std.specs.Str.{bytes_eq}
use Rattle.std.proofs.lemmas.Bool.{and_parts, or_cases, or_right, leb-true, eqb-true, false≢true}
use Rattle.amdl_tree.specs.Word.{IsWord, starts_word, goes_on_with_word, spelling_of_reserved}
use Rattle.amdl_tree.specs.Token.{spelling_of_sign, is_digit, IsNumber, SpellsToken}
use Rattle.amdl_tree.specs.Lexical.{is_blank, IsLexeme, a_word, a_number, a_sign, IsLongest}
use Rattle.amdl_tree.specs.declared.reserved.Reserved.{Reserved}
use Rattle.amdl_tree.specs.declared.reserved.Reserved.TheVariants.{Network}
use Rattle.amdl_tree.specs.declared.token.Sign.{Sign}
use Rattle.amdl_tree.specs.declared.token.Sign.TheVariants.{Semicolon, Colon, Becomes, Comma, Point, OpenBrace}
use Rattle.amdl_tree.specs.declared.token.Sign.TheVariants.{CloseBrace, OpenParen, CloseParen, OpenBracket}
use Rattle.amdl_tree.specs.declared.token.Sign.TheVariants.{CloseBracket, Equals, Differs, Arrow, Dashes, Bar}
use Rattle.amdl_tree.specs.declared.token.Token.{Token}
use Rattle.amdl_tree.specs.declared.token.Token.TheVariants.{Word, Number, Key, Sign as Signed}
use Rattle.amdl_tree.proofs.ReservedWords.{reserved_alike}
use Rattle.amdl_tree.proofs.RunLemmas.{StopsRun, front_le, first, firsts_alike}
use Rattle.amdl_tree.proofs.WordLemmas.{start_goes_on, word-goes_on}

digit_goes_on : (byte : ℕ) → is_digit byte ≡ true → goes_on_with_word byte ≡ true
digit_goes_on byte is = or_right (starts_word byte) (is_digit byte) is

-- no digit starts a word
pub digit_starts_none : (byte : ℕ) → is_digit byte ≡ true → starts_word byte ≡ true → ⊥
digit_starts_none byte digit starts =
    let low : byte ≤ 57 = leb-true byte 57 (and_parts (nat_le 48 byte) (nat_le byte 57) digit).1 in
    elim (or_cases ((nat_le 65 byte && nat_le byte 90) || (nat_le 97 byte && nat_le byte 122)) (byte == 95) starts) [
      | inl letter ↦ elim (or_cases (nat_le 65 byte && nat_le byte 90) (nat_le 97 byte && nat_le byte 122) letter) [
        | inl upper ↦ omega (arith, leb-true 65 byte (and_parts (nat_le 65 byte) (nat_le byte 90) upper).0)
        | inr lower ↦ omega (arith, leb-true 97 byte (and_parts (nat_le 97 byte) (nat_le byte 122) lower).0)
      ]
      | inr line ↦ omega (arith, eqb-true byte 95 line)
    ]

-- which bytes are blank
pub blank_is : (byte : ℕ) → is_blank byte ≡ true → (byte ≡ 32) ⊎ ((byte ≡ 9) ⊎ ((byte ≡ 13) ⊎ (byte ≡ 10)))
blank_is byte is =
    elim (or_cases (((byte == 32) || (byte == 9)) || (byte == 13)) (byte == 10) is) [
      | inl a ↦ elim (or_cases ((byte == 32) || (byte == 9)) (byte == 13) a) [
        | inl b ↦ elim (or_cases (byte == 32) (byte == 9) b) [
          | inl c ↦ inl (eqb-true byte 32 c)
          | inr c ↦ inr (inl (eqb-true byte 9 c))
        ]
        | inr b ↦ inr (inr (inl (eqb-true byte 13 b)))
      ]
      | inr a ↦ inr (inr (inr (eqb-true byte 10 a)))
    ]

-- what holds of the four blanks holds of each
at_blanks : (P : ℕ → Type 0) → P 32 → P 9 → P 13 → P 10 → (byte : ℕ) → is_blank byte ≡ true → P byte
at_blanks P a b c d byte is =
    elim (blank_is byte is) [
      | inl e ↦ subst P (sym e) a
      | inr f ↦ elim f [
        | inl e ↦ subst P (sym e) b
        | inr g ↦ elim g [ inl e ↦ subst P (sym e) c | inr e ↦ subst P (sym e) d ]
      ]
    ]

-- no blank goes on with a word
blank_stops : (byte : ℕ) → is_blank byte ≡ true → goes_on_with_word byte ≡ false
blank_stops byte is = at_blanks (λ b. goes_on_with_word b ≡ false) refl refl refl refl byte is

-- what words, numbers and signs begin with
word_first : (word : List ℕ) → IsWord word → starts_word (first word) ≡ true
word_first [] is = absurd is
word_first (byte ∷ bytes) is = is.0

pub number_first : (number : List ℕ) → IsNumber number → is_digit (first number) ≡ true
number_first [] is = absurd is
number_first (byte ∷ bytes) is = is.0

sign_first : (sign : Sign) → goes_on_with_word (first (spelling_of_sign sign)) ≡ false
sign_first Semicolon = refl
sign_first sign = refl

sign_not_blank : (sign : Sign) → is_blank (first (spelling_of_sign sign)) ≡ false
sign_not_blank Semicolon = refl
sign_not_blank sign = refl

sign_not_comment : (sign : Sign) → (first (spelling_of_sign sign) == 35) ≡ false
sign_not_comment Semicolon = refl
sign_not_comment sign = refl

-- what they go on with
number_goes_on : (number : List ℕ) → IsNumber number → list_all is_digit number ≡ true
number_goes_on [] is = absurd is
number_goes_on (byte ∷ bytes) is = rw is.0 is.1

-- none of them is empty
pub sign_some : (sign : Sign) → 0 < length (spelling_of_sign sign)
sign_some Semicolon = lit< tt
sign_some sign = lit< tt

pub sign_short : (sign : Sign) → length (spelling_of_sign sign) ≤ 2
sign_short Semicolon = lit≤ tt
sign_short sign = lit≤ tt

pub word_some : (word : List ℕ) → IsWord word → 0 < length word
word_some [] is = absurd is
word_some (byte ∷ bytes) is = omega arith

pub number_some : (number : List ℕ) → IsNumber number → 0 < length number
number_some [] is = absurd is
number_some (byte ∷ bytes) is = omega arith

pub lexeme_some : (bytes : List ℕ) → IsLexeme bytes → 0 < length bytes
lexeme_some bytes (a_word is) = word_some bytes is
lexeme_some bytes (a_number is) = number_some bytes is
lexeme_some bytes (a_sign sign e) = rw e (sign_some sign)

-- the first byte tells which it is
pub word_by_first : (bytes : List ℕ) → IsLexeme bytes → starts_word (first bytes) ≡ true → IsWord bytes
word_by_first bytes (a_word is) starts = is
word_by_first bytes (a_number is) starts = absurd (digit_starts_none (first bytes) (number_first bytes is) starts)
word_by_first bytes (a_sign sign e) starts =
    let stops : goes_on_with_word (first bytes) ≡ false = ap (λ b. goes_on_with_word (first b)) e ∙ sign_first sign in
    let goes : goes_on_with_word (first bytes) ≡ true = start_goes_on (first bytes) starts in
    absurd (cc)

pub number_by_first : (bytes : List ℕ) → IsLexeme bytes → is_digit (first bytes) ≡ true → IsNumber bytes
number_by_first bytes (a_word is) digit = absurd (digit_starts_none (first bytes) digit (word_first bytes is))
number_by_first bytes (a_number is) digit = is
number_by_first bytes (a_sign sign e) digit =
    let stops : goes_on_with_word (first bytes) ≡ false = ap (λ b. goes_on_with_word (first b)) e ∙ sign_first sign in
    let goes : goes_on_with_word (first bytes) ≡ true = digit_goes_on (first bytes) digit in
    absurd (cc)

-- none of them begins with a blank or a `#`
pub lexeme_not_blank : (bytes : List ℕ) → IsLexeme bytes → is_blank (first bytes) ≡ true → ⊥
lexeme_not_blank bytes (a_word is) blank =
    let stops : goes_on_with_word (first bytes) ≡ false = blank_stops (first bytes) blank in
    let goes : goes_on_with_word (first bytes) ≡ true = start_goes_on (first bytes) (word_first bytes is) in
    absurd (cc)
lexeme_not_blank bytes (a_number is) blank =
    let stops : goes_on_with_word (first bytes) ≡ false = blank_stops (first bytes) blank in
    let goes : goes_on_with_word (first bytes) ≡ true = digit_goes_on (first bytes) (number_first bytes is) in
    absurd (cc)
lexeme_not_blank bytes (a_sign sign e) blank =
    let none : is_blank (first bytes) ≡ false = ap (λ b. is_blank (first b)) e ∙ sign_not_blank sign in
    absurd (cc)

pub lexeme_not_comment : (bytes : List ℕ) → IsLexeme bytes → first bytes ≡ 35 → ⊥
lexeme_not_comment bytes (a_word is) e =
    let starts : starts_word 35 ≡ true = subst (λ b. starts_word b ≡ true) e (word_first bytes is) in
    absurd (false≢true starts)
lexeme_not_comment bytes (a_number is) e =
    let digit : is_digit 35 ≡ true = subst (λ b. is_digit b ≡ true) e (number_first bytes is) in
    absurd (false≢true digit)
lexeme_not_comment bytes (a_sign sign s) e =
    let none : (first bytes == 35) ≡ false = ap (λ b. first b == 35) s ∙ sign_not_comment sign in
    let same : (35 == 35) ≡ false = subst (λ b. (b == 35) ≡ false) e none in
    absurd (false≢true (sym same))

-- where they stop there is none longer
pub word_longest : (word after : List ℕ) → IsWord word → StopsRun goes_on_with_word after → IsLongest word after
word_longest word after is stops other behind e lexeme =
    let same : first word ≡ first other =
    firsts_alike word after other behind (word_some word is) (lexeme_some other lexeme) e in
    let starts : starts_word (first other) ≡ true = subst (λ b. starts_word b ≡ true) same (word_first word is) in
    front_le goes_on_with_word word after other behind stops (word-goes_on other (word_by_first other lexeme starts)) e

pub number_longest : (number after : List ℕ) → IsNumber number → StopsRun is_digit after → IsLongest number after
number_longest number after is stops other behind e lexeme =
    let same : first number ≡ first other =
    firsts_alike number after other behind (number_some number is) (lexeme_some other lexeme) e in
    let digit : is_digit (first other) ≡ true = subst (λ b. is_digit b ≡ true) same (number_first number is) in
    front_le is_digit number after other behind stops (number_goes_on other (number_by_first other lexeme digit)) e

-- a sign, where no longer sign stands there
pub sign_longest : (sign : Sign) (after : List ℕ) →
    ((other : Sign) (behind : List ℕ) → spelling_of_sign sign ++ after ≡ spelling_of_sign other ++ behind →
    length (spelling_of_sign other) ≤ length (spelling_of_sign sign)) → IsLongest (spelling_of_sign sign) after
sign_longest sign after most other behind e (a_word is) =
    let same : first (spelling_of_sign sign) ≡ first other =
    firsts_alike (spelling_of_sign sign) after other behind (sign_some sign) (word_some other is) e in
    let goes : goes_on_with_word (first other) ≡ true = start_goes_on (first other) (word_first other is) in
    let stops : goes_on_with_word (first other) ≡ false =
    subst (λ b. goes_on_with_word b ≡ false) same (sign_first sign) in
    absurd (cc)
sign_longest sign after most other behind e (a_number is) =
    let same : first (spelling_of_sign sign) ≡ first other =
    firsts_alike (spelling_of_sign sign) after other behind (sign_some sign) (number_some other is) e in
    let goes : goes_on_with_word (first other) ≡ true = digit_goes_on (first other) (number_first other is) in
    let stops : goes_on_with_word (first other) ≡ false =
    subst (λ b. goes_on_with_word b ≡ false) same (sign_first sign) in
    absurd (cc)
sign_longest sign after most other behind e (a_sign longer s) = rw s (most longer behind (e ∙ ap (λ b. b ++ behind) s))

-- the first byte of a sign of two bytes
abbrev begins_two : ℕ → Bool
begins_two byte = (byte == 58) || (byte == 33) || (byte == 45)

long_begins : (sign : Sign) → (length (spelling_of_sign sign) ≤ 1) ⊎ (begins_two (first (spelling_of_sign sign)) ≡ true)
long_begins Becomes = inr refl
long_begins Differs = inr refl
long_begins Arrow = inr refl
long_begins Dashes = inr refl
long_begins sign = inl (lit≤ tt)

-- no sign begins with it, apart from itself
abbrev pub begins_none : Sign → Bool
begins_none Colon = false
begins_none sign = true

short_begins : (sign : Sign) → begins_none sign ≡ true →
    (2 ≤ length (spelling_of_sign sign)) ⊎ (begins_two (first (spelling_of_sign sign)) ≡ false)
short_begins Colon none = absurd (false≢true none)
short_begins Becomes none = inl (lit≤ tt)
short_begins Differs none = inl (lit≤ tt)
short_begins Arrow none = inl (lit≤ tt)
short_begins Dashes none = inl (lit≤ tt)
short_begins sign none = inr refl

-- such a sign is the longest, whatever follows
pub sign_alone : (sign : Sign) (after : List ℕ) → begins_none sign ≡ true → IsLongest (spelling_of_sign sign) after
sign_alone sign after none = sign_longest sign after (λ other behind e.
    let same : first (spelling_of_sign sign) ≡ first (spelling_of_sign other) =
    firsts_alike (spelling_of_sign sign) after (spelling_of_sign other) behind (sign_some sign)
    (sign_some other) e in
    elim (long_begins other) [
      | inl short ↦ omega (arith, sign_some sign)
      | inr two ↦ elim (short_begins sign none) [
        | inl long ↦ omega (arith, sign_short other)
        | inr one ↦ absurd (false≢true (sym one ∙ ap begins_two same ∙ two))
      ]
    ])

colon_most : (other : Sign) (after behind : List ℕ) → 58 ∷ 32 ∷ after ≡ spelling_of_sign other ++ behind →
    length (spelling_of_sign other) ≤ 1
colon_most Becomes after behind e = absurd (omega (arith, ap (λ bytes. first (drop 1 bytes)) e))
colon_most Differs after behind e = absurd (omega (arith, ap first e))
colon_most Arrow after behind e = absurd (omega (arith, ap first e))
colon_most Dashes after behind e = absurd (omega (arith, ap first e))
colon_most other after behind e = lit≤ tt

-- a colon is where a blank follows
pub colon_alone : (after : List ℕ) → IsLongest (spelling_of_sign Colon) (32 ∷ after)
colon_alone after = sign_longest Colon (32 ∷ after) (λ other behind e. colon_most other after behind e)

-- reserved words are words
pub reserved_is_word : (word : Reserved) → IsWord (spelling_of_reserved word)
reserved_is_word Network = (refl, refl)
reserved_is_word word = (refl, refl)

pub token_lexeme : (token : Token) (bytes : List ℕ) → SpellsToken token bytes → IsLexeme bytes
token_lexeme (Word name) bytes spells = a_word (subst IsWord (sym spells.1) spells.0.word)
token_lexeme (Number value) bytes spells = a_number spells.0
token_lexeme (Key word) bytes spells = a_word (subst IsWord (sym spells) (reserved_is_word word))
token_lexeme (Signed sign) bytes spells = a_sign sign spells

pub number_not_word : (bytes : List ℕ) → IsNumber bytes → IsWord bytes → ⊥
number_not_word bytes number word = digit_starts_none (first bytes) (number_first bytes number) (word_first bytes word)

-- one spelling is that of one token
abbrev pub signs : List Sign
signs = Semicolon ∷ Colon ∷ Becomes ∷ Comma ∷ Point ∷ OpenBrace ∷ CloseBrace ∷ OpenParen ∷ CloseParen ∷ OpenBracket
    ∷ CloseBracket ∷ Equals ∷ Differs ∷ Arrow ∷ Dashes ∷ Bar ∷ []

abbrev pub sign_of : List ℕ → Option Sign
sign_of bytes = find (λ sign. bytes_eq bytes (spelling_of_sign sign)) signs

pub sign_found : (sign : Sign) → sign_of (spelling_of_sign sign) ≡ Some sign
sign_found Semicolon = refl
sign_found sign = refl

signs_alike : (sign other : Sign) → spelling_of_sign sign ≡ spelling_of_sign other → sign ≡ other
signs_alike sign other e =
    let same : Some sign ≡ Some other = sym (sign_found sign) ∙ ap sign_of e ∙ sign_found other in
    cc

word_not_sign : (bytes : List ℕ) (sign : Sign) → IsWord bytes → bytes ≡ spelling_of_sign sign → ⊥
word_not_sign bytes sign is e =
    let goes : goes_on_with_word (first bytes) ≡ true = start_goes_on (first bytes) (word_first bytes is) in
    let stops : goes_on_with_word (first bytes) ≡ false = ap (λ b. goes_on_with_word (first b)) e ∙ sign_first sign in
    absurd (cc)

number_not_sign : (bytes : List ℕ) (sign : Sign) → IsNumber bytes → bytes ≡ spelling_of_sign sign → ⊥
number_not_sign bytes sign is e =
    let goes : goes_on_with_word (first bytes) ≡ true = digit_goes_on (first bytes) (number_first bytes is) in
    let stops : goes_on_with_word (first bytes) ≡ false = ap (λ b. goes_on_with_word (first b)) e ∙ sign_first sign in
    absurd (cc)

named_is_word : (name bytes : List ℕ) → SpellsToken (Word name) bytes → IsWord bytes
named_is_word name bytes spells = subst IsWord (sym spells.1) spells.0.word

key_is_word : (word : Reserved) (bytes : List ℕ) → SpellsToken (Key word) bytes → IsWord bytes
key_is_word word bytes spells = subst IsWord (sym spells) (reserved_is_word word)

pub tokens_alike : (one other : Token) (bytes : List ℕ) → SpellsToken one bytes → SpellsToken other bytes → one ≡ other
tokens_alike (Word n) (Word m) bytes p q = ap Word (sym p.1 ∙ q.1)
tokens_alike (Word n) (Number v) bytes p q = absurd (number_not_word bytes q.0 (named_is_word n bytes p))
tokens_alike (Word n) (Key w) bytes p q = absurd (p.0.free w (sym p.1 ∙ q))
tokens_alike (Word n) (Signed s) bytes p q = absurd (word_not_sign bytes s (named_is_word n bytes p) q)
tokens_alike (Number v) (Word m) bytes p q = absurd (number_not_word bytes p.0 (named_is_word m bytes q))
tokens_alike (Number v) (Number w) bytes p q = ap Number (p.2 ∙ sym q.2)
tokens_alike (Number v) (Key w) bytes p q = absurd (number_not_word bytes p.0 (key_is_word w bytes q))
tokens_alike (Number v) (Signed s) bytes p q = absurd (number_not_sign bytes s p.0 q)
tokens_alike (Key w) (Word m) bytes p q = absurd (q.0.free w (sym q.1 ∙ p))
tokens_alike (Key w) (Number v) bytes p q = absurd (number_not_word bytes q.0 (key_is_word w bytes p))
tokens_alike (Key w) (Key u) bytes p q = ap Key (reserved_alike w u (sym p ∙ q))
tokens_alike (Key w) (Signed s) bytes p q = absurd (word_not_sign bytes s (key_is_word w bytes p) q)
tokens_alike (Signed s) (Word m) bytes p q = absurd (word_not_sign bytes s (named_is_word m bytes q) p)
tokens_alike (Signed s) (Number v) bytes p q = absurd (number_not_sign bytes s q.0 p)
tokens_alike (Signed s) (Key w) bytes p q = absurd (word_not_sign bytes s (key_is_word w bytes q) p)
tokens_alike (Signed s) (Signed t) bytes p q = ap Signed (signs_alike s t (sym p ∙ q))
