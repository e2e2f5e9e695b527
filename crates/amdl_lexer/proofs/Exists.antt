-- Each text has an answer.
use Rattle.std.proofs.Common.{◌≡◌, ◌≢◌, ◌≤◌, ◌<◌, ◌+◌, ◌-◌, ℕ, zero, suc, Bool, true, false, List, [], ◌∷◌, ◌++◌}
use Rattle.std.proofs.Common.{length, take, drop, get_or, refl, sym, ap, ◌∙◌, subst, arith, inl, inr, ◌⊎◌, Option, Some}
use Rattle.std.proofs.Common.{None, MatchOption, Result, Ok, Err}
use Rattle.std.specs.List.{find, prefix_len}
use Rattle.std.specs.Str.{bytes_eq}
use Rattle.std.proofs.lemmas.Bool.{cases_Bool, cases_lt, cases_eq}
use Rattle.std.proofs.lemmas.Slice.Eq.{bytes_eq-Decides}
use Rattle.std.proofs.lemmas.List.{length-drop, length_push, take_rest}
use Rattle.amdl_tree.specs.Word.{IsWord, starts_word, goes_on_with_word, spelling_of_reserved}
use Rattle.amdl_tree.specs.Token.{spelling_of_sign, is_digit, IsNumber, value_of_digits, SpellsToken}
use Rattle.amdl_tree.specs.Lexical.{is_blank, Reads, lexed}
use Rattle.amdl_tree.specs.declared.reserved.Reserved.{Reserved}
use Rattle.amdl_tree.specs.declared.token.Sign.{Sign}
use Rattle.amdl_tree.specs.declared.token.Token.{Token}
use Rattle.amdl_tree.specs.declared.token.Token.TheVariants.{Word, Number, Key, Sign as Signed}
use Rattle.amdl_tree.specs.declared.token.Lexed.{Lexed}
use Rattle.amdl_tree.proofs.ReservedWords.{table, word_of, word_of-spelling}
use Rattle.amdl_tree.proofs.LexemeLemmas.{signs, sign_of, sign_found}
use Rattle.amdl_lexer.specs.Answer.{IsOverlong, StartsNothing, StartsOverlong}
use Rattle.amdl_lexer.specs.Sign.{StartsNoSign, IsLongestSign}
use Rattle.amdl_lexer.specs.Front.{IsFront}
use Rattle.amdl_lexer.specs.Laws.{IsAnswer, SomeAnswer}
use Rattle.amdl_lexer.specs.declared.front.Front.{Front}
use Rattle.amdl_lexer.specs.declared.front.Front.TheVariants as fronts
use Rattle.amdl_lexer.specs.declared.lexing.LexRefusal.{LexRefusal}
use Rattle.amdl_lexer.specs.declared.lexing.LexRefusal.TheVariants.{BadByte, WordTooLong, TooManyTokens}
use Rattle.amdl_lexer.proofs.Signs.{two_front, one_front, last_front, sign_front}
use Rattle.amdl_lexer.proofs.Fronts.{in_line, blank_front, comment_front, word_begun, word_good, number_begun}
use Rattle.amdl_lexer.proofs.Fronts.{number_good, overlong_front, nothing_front}
use Rattle.amdl_lexer.proofs.Pieces.{reads_none, step_gap, step_token}

-- what is found passes the test
find_passes : {X : Type 0} (test : X → Bool) (xs : List X) (x : X) → find test xs ≡ Some x → test x ≡ true
find_passes test [] x e = absurd (cc)
find_passes test (y ∷ ys) x e =
    elim (cases_Bool (test y)) [
      | inl passes ↦
          let same : Some y ≡ Some x = sym (rw passes refl) ∙ e in
          let here : y ≡ x = cc in
          subst (λ z. test z ≡ true) here passes
      | inr fails ↦ find_passes test ys x (rw fails at e)
    ]

-- which reserved word, or which sign, the bytes are
word_decided : (bytes : List ℕ) (found : Option Reserved) → word_of bytes ≡ found →
    MatchOption found ((word : Reserved) → bytes ≢ spelling_of_reserved word)
    (λ word. bytes ≡ spelling_of_reserved word)
word_decided bytes None e = λ word s.
    let found : word_of bytes ≡ Some word = ap word_of s ∙ word_of-spelling word in
    cc
word_decided bytes (Some word) e =
    (bytes_eq-Decides bytes (spelling_of_reserved word)).0
    (find_passes (λ w. bytes_eq bytes (spelling_of_reserved w)) table word e)

sign_decided : (bytes : List ℕ) (found : Option Sign) → sign_of bytes ≡ found →
    MatchOption found ((sign : Sign) → spelling_of_sign sign ≢ bytes) (λ sign. spelling_of_sign sign ≡ bytes)
sign_decided bytes None e = λ sign s.
    let found : sign_of bytes ≡ Some sign = ap sign_of (sym s) ∙ sign_found sign in
    cc
sign_decided bytes (Some sign) e =
    sym ((bytes_eq-Decides bytes (spelling_of_sign sign)).0
    (find_passes (λ x. bytes_eq bytes (spelling_of_sign x)) signs sign e))

-- a word or a number is too long, or spells a token
abbrev SpellsSome : List ℕ → Type 0
SpellsSome bytes = (token : Token) × SpellsToken token bytes

word_spells : (word : List ℕ) (found : Option Reserved) → word_of word ≡ found → IsWord word →
    IsOverlong word ⊎ SpellsSome word
word_spells word None e is =
    elim (cases_lt 24 (length word)) [
      | inl long ↦ inl (inl (is, long))
      | inr short ↦ inr (Word word, (record { word = is; short = short; free = word_decided word None e }, refl))
    ]
word_spells word (Some key) e is = inr (Key key, word_decided word (Some key) e)

number_spells : (number : List ℕ) → IsNumber number → IsOverlong number ⊎ SpellsSome number
number_spells number is =
    elim (cases_lt 9 (length number)) [
      | inl long ↦ inl (inr (is, long))
      | inr short ↦ inr (Number (value_of_digits number), (is, short, refl))
    ]

-- the sign at the front, if there is one
abbrev SignAt : List ℕ → Type 0
SignAt text = (found : Option Sign) × MatchOption found (StartsNoSign text) (IsLongestSign text)

sign_of_two : (text : List ℕ) (found : Option Sign) → sign_of (get_or text 0 0 ∷ get_or text 1 0 ∷ []) ≡ found →
    2 ≤ length text → SignAt text
sign_of_two text None e two =
    let one : Option Sign = sign_of (get_or text 0 0 ∷ []) in (
      one,
      one_front text one two (sign_decided (get_or text 0 0 ∷ get_or text 1 0 ∷ []) None e)
          (sign_decided (get_or text 0 0 ∷ []) one refl),
    )
sign_of_two text (Some sign) e two =
    (Some sign, two_front text sign two (sign_decided (get_or text 0 0 ∷ get_or text 1 0 ∷ []) (Some sign) e))

sign_some_at : (text : List ℕ) → 0 < length text → SignAt text
sign_some_at text some =
    elim (cases_lt 1 (length text)) [
      | inl two ↦ sign_of_two text (sign_of (get_or text 0 0 ∷ get_or text 1 0 ∷ [])) refl (omega arith)
      | inr one ↦
          let last : Option Sign = sign_of (get_or text 0 0 ∷ []) in
          (last, last_front text last (omega arith) (sign_decided (get_or text 0 0 ∷ []) last refl))
    ]

-- something stands at the front of a text
abbrev FrontOf : List ℕ → Type 0
FrontOf text = (front : Front) × IsFront text front

word_stands : (text : List ℕ) → 0 < length text → starts_word (get_or text 0 0) ≡ true → FrontOf text
word_stands text some starts =
    let size : ℕ = prefix_len goes_on_with_word text in
    let word : List ℕ = take size text in
    elim (word_spells word (word_of word) refl (word_begun text size some starts refl)) [
      | inl long ↦ (fronts.Overlong, overlong_front text size long)
      | inr good ↦ (fronts.Good good.0 size, word_good text size good.0 some starts refl good.1)
    ]

number_stands : (text : List ℕ) → 0 < length text → is_digit (get_or text 0 0) ≡ true → FrontOf text
number_stands text some digit =
    let size : ℕ = prefix_len is_digit text in
    let number : List ℕ = take size text in
    elim (number_spells number (number_begun text size some digit refl)) [
      | inl long ↦ (fronts.Overlong, overlong_front text size long)
      | inr good ↦ (fronts.Good good.0 size, number_good text size good.0 some digit refl good.1)
    ]

sign_stands : (text : List ℕ) → 0 < length text → is_blank (get_or text 0 0) ≡ false → get_or text 0 0 ≢ 35 →
    starts_word (get_or text 0 0) ≡ false → is_digit (get_or text 0 0) ≡ false → SignAt text → FrontOf text
sign_stands text some blank hash starts digit (None, none) =
    (fronts.Nothing, nothing_front text some blank hash starts digit none)
sign_stands text some blank hash starts digit (Some sign, here) = (
  fronts.Good (Signed sign) (length (spelling_of_sign sign)),
  sign_front text sign (length (spelling_of_sign sign)) here refl,
)

front_stands : (text : List ℕ) → 0 < length text → FrontOf text
front_stands text some =
    elim (cases_Bool (is_blank (get_or text 0 0))) [
      | inl blank ↦ (fronts.Gap 1, blank_front text some blank)
      | inr blank ↦ elim (cases_eq (get_or text 0 0) 35) [
        | inl hash ↦ (fronts.Gap (prefix_len in_line text), comment_front text (prefix_len in_line text) some hash refl)
        | inr hash ↦ elim (cases_Bool (starts_word (get_or text 0 0))) [
          | inl starts ↦ word_stands text some starts
          | inr starts ↦ elim (cases_Bool (is_digit (get_or text 0 0))) [
            | inl digit ↦ number_stands text some digit
            | inr digit ↦ sign_stands text some blank hash starts digit (sign_some_at text some)
          ]
        ]
      ]
    ]

abbrev Answered : List ℕ → Type 0
Answered text = (answer : Result (List Lexed) LexRefusal) × IsAnswer text answer

abbrev rest_at : List ℕ → ℕ → List ℕ
rest_at text at = take (length text - at) (drop at text)

-- one step, from which the text is read further on
one_step : (text : List ℕ) (at : ℕ) (tokens : List Lexed) (front : Front) → Reads text at tokens →
    length tokens ≤ 1000000 → IsFront (rest_at text at) front →
    ((end : ℕ) (more : List Lexed) → at < end → Reads text end more → length more ≤ 1000000 → Answered text) →
    Answered text
one_step text at tokens (fronts.Gap size) read few here on =
    on (at + size) tokens (omega (arith, here.0.some)) (step_gap text at size tokens read here) few
one_step text at tokens (fronts.Good token size) read few here on =
    let put : List Lexed = tokens ++ lexed token at (at + size) ∷ [] in
    let more : Reads text (at + size) put = step_token text at size tokens token read here in
    let longer : length put ≡ length tokens + 1 = length_push tokens (lexed token at (at + size)) in
    elim (cases_eq (length tokens) 1000000) [
      | inl full ↦
          (Err TooManyTokens, (λ e. cc, record { at = at + size; tokens = put; read = more; many = omega arith }))
      | inr room ↦ on (at + size) put (omega (arith, here.0.some)) more (omega arith)
    ]
one_step text at tokens fronts.Overlong read few here on = (
  Err (WordTooLong at),
  (
    λ e. cc,
    record { tokens = tokens; read = read; few = few; fault = subst StartsOverlong (take_rest text at) here },
  ),
)
one_step text at tokens fronts.Nothing read few here on = (
  Err (BadByte at),
  (
    λ e. cc,
    record { tokens = tokens; read = read; few = few; fault = subst StartsNothing (take_rest text at) here },
  ),
)

at_end : (text : List ℕ) (at : ℕ) (tokens : List Lexed) → Reads text at tokens → length tokens ≤ 1000000 →
    length text ≤ at → Answered text
at_end text at tokens read few end =
    let all : at ≡ length text = omega (arith, read.within) in
    (Ok tokens, record { read = subst (λ n. Reads text n tokens) all read; few = few })

answer_within : (left : ℕ) (text : List ℕ) (at : ℕ) (tokens : List Lexed) → length text - at ≤ left →
    Reads text at tokens → length tokens ≤ 1000000 → Answered text
answer_within zero text at tokens enough read few = at_end text at tokens read few (omega arith)
answer_within (suc left) text at tokens enough read few =
    elim (cases_lt at (length text)) [
      | inr end ↦ at_end text at tokens read few end
      | inl more ↦
          let some : 0 < length (rest_at text at) = omega (arith, ap length (take_rest text at), length-drop at text) in
          let front = front_stands (rest_at text at) some in
          one_step text at tokens front.0 read few front.1
          (λ end others further reads fewer. answer_within left text end others (omega arith) reads fewer)
    ]

pub answer_stands : SomeAnswer
answer_stands text = answer_within (length text) text 0 [] (omega arith) (reads_none text) (omega arith)
