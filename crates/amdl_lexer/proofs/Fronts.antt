-- What stands at the front of a text, from the length of the run at its front.
use Rattle.std.proofs.Common.{◌≡◌, ◌≢◌, ◌<◌, ℕ, Bool, true, false, List, [], ◌∷◌, ◌++◌, ◌==◌, not, length, take, drop}
use Rattle.std.proofs.Common.{get_or, refl, sym, ap, ◌∙◌, subst, arith, inl, inr, one-add}
use Rattle.std.specs.List.{prefix_len}
use Rattle.std.proofs.lemmas.Bool.{eqb-true, not-false}
use Rattle.std.proofs.lemmas.List.{take-append-drop}
use Rattle.std.proofs.lemmas.List.Folds.{length-prefix_len}
use Rattle.std.proofs.lemmas.List.Sums.{prefix_len-le-length}
use Rattle.amdl_tree.specs.Word.{IsWord, starts_word, goes_on_with_word}
use Rattle.amdl_tree.specs.Token.{is_digit, IsNumber, SpellsToken}
use Rattle.amdl_tree.specs.Lexical.{is_blank, IsComment, EndsLine, IsLexeme, a_word, a_number, a_sign}
use Rattle.amdl_tree.specs.declared.token.Token.{Token}
use Rattle.amdl_tree.proofs.WordLemmas.{start_goes_on}
use Rattle.amdl_tree.proofs.RunLemmas.{StopsRun, run_passes, run_stops}
use Rattle.amdl_tree.proofs.LexemeLemmas.{word_some, number_some, word_longest, number_longest}
use Rattle.amdl_lexer.specs.Answer.{StartsNothing, StartsOverlong, IsOverlong}
use Rattle.amdl_lexer.specs.Sign.{StartsNoSign}
use Rattle.amdl_lexer.specs.Front.{IsFront}
use Rattle.amdl_lexer.specs.declared.front.Front.TheVariants.{Gap, Good}

pub blank_front : (text : List ℕ) → 0 < length text → is_blank (get_or text 0 0) ≡ true → IsFront text (Gap 1)
blank_front [] some blank = absurd (omega arith)
blank_front (byte ∷ bytes) some blank = (record { some = omega arith; within = omega arith }, inl (byte, refl, blank))

abbrev pub in_line : ℕ → Bool
in_line byte = not (byte == 10)

stops_line : (after : List ℕ) → StopsRun in_line after → EndsLine after
stops_line [] stops = tt
stops_line (byte ∷ bytes) stops = eqb-true byte 10 (not-false (byte == 10) stops)

comment_at : (text : List ℕ) → 0 < length text → get_or text 0 0 ≡ 35 →
    IsComment (take (prefix_len in_line text) text) × (0 < prefix_len in_line text)
comment_at [] some e = absurd (omega arith)
comment_at (byte ∷ bytes) some e =
    let passes : in_line byte ≡ true = rw e refl in
    rw (passes, one-add) ((e, run_passes in_line bytes), omega arith)

pub comment_front : (text : List ℕ) (size : ℕ) → 0 < length text → get_or text 0 0 ≡ 35 →
    size ≡ prefix_len in_line text → IsFront text (Gap size)
comment_front text size some e n =
    let at = comment_at text some e in
    rw n (
      record { some = at.1; within = prefix_len-le-length in_line text },
      inr (at.0, stops_line (drop (prefix_len in_line text) text) (run_stops in_line text)),
    )

word_at : (text : List ℕ) → 0 < length text → starts_word (get_or text 0 0) ≡ true →
    IsWord (take (prefix_len goes_on_with_word text) text)
word_at [] some starts = absurd (omega arith)
word_at (byte ∷ bytes) some starts =
    let goes : goes_on_with_word byte ≡ true = start_goes_on byte starts in
    rw (goes, one-add) (starts, run_passes goes_on_with_word bytes)

pub word_begun : (text : List ℕ) (size : ℕ) → 0 < length text → starts_word (get_or text 0 0) ≡ true →
    size ≡ prefix_len goes_on_with_word text → IsWord (take size text)
word_begun text size some starts n = rw n (word_at text some starts)

pub word_good : (text : List ℕ) (size : ℕ) (token : Token) → 0 < length text → starts_word (get_or text 0 0) ≡ true →
    size ≡ prefix_len goes_on_with_word text → SpellsToken token (take size text) → IsFront text (Good token size)
word_good text size token some starts n spells =
    let is : IsWord (take size text) = word_begun text size some starts n in
    let long : length (take size text) ≡ size = rw n (length-prefix_len goes_on_with_word text) in (
      record {
        some = omega (arith, word_some (take size text) is);
        within = omega
            (arith, prefix_len-le-length goes_on_with_word text);
      },
      spells,
      word_longest (take size text) (drop size text) is
          (subst (λ k. StopsRun goes_on_with_word (drop k text)) (sym n) (run_stops goes_on_with_word text)),
    )

number_at : (text : List ℕ) → 0 < length text → is_digit (get_or text 0 0) ≡ true →
    IsNumber (take (prefix_len is_digit text) text)
number_at [] some digit = absurd (omega arith)
number_at (byte ∷ bytes) some digit = rw (digit, one-add) (digit, run_passes is_digit bytes)

pub number_begun : (text : List ℕ) (size : ℕ) → 0 < length text → is_digit (get_or text 0 0) ≡ true →
    size ≡ prefix_len is_digit text → IsNumber (take size text)
number_begun text size some digit n = rw n (number_at text some digit)

pub number_good : (text : List ℕ) (size : ℕ) (token : Token) → 0 < length text → is_digit (get_or text 0 0) ≡ true →
    size ≡ prefix_len is_digit text → SpellsToken token (take size text) → IsFront text (Good token size)
number_good text size token some digit n spells =
    let is : IsNumber (take size text) = number_begun text size some digit n in
    let long : length (take size text) ≡ size = rw n (length-prefix_len is_digit text) in (
      record {
        some = omega (arith, number_some (take size text) is);
        within = omega
            (arith, prefix_len-le-length is_digit text);
      },
      spells,
      number_longest (take size text) (drop size text) is
          (subst (λ k. StopsRun is_digit (drop k text)) (sym n) (run_stops is_digit text)),
    )

-- a word or a number that is too long at the front
pub overlong_front : (text : List ℕ) (size : ℕ) → IsOverlong (take size text) → StartsOverlong text
overlong_front text size overlong = (take size text, drop size text, sym (take-append-drop size text), overlong)

-- a byte that starts no word, number or sign
no_lexeme : (byte : ℕ) (bytes front rest : List ℕ) → starts_word byte ≡ false → is_digit byte ≡ false →
    StartsNoSign (byte ∷ bytes) → byte ∷ bytes ≡ front ++ rest → ¬ IsLexeme front
no_lexeme byte bytes [] rest starts digit none e (a_word is) = absurd is
no_lexeme byte bytes (b ∷ front) rest starts digit none e (a_word is) =
    let same : byte ≡ b = cc in
    let begun = is.0 in
    absurd (cc)
no_lexeme byte bytes [] rest starts digit none e (a_number is) = absurd is
no_lexeme byte bytes (b ∷ front) rest starts digit none e (a_number is) =
    let same : byte ≡ b = cc in
    let begun = is.0 in
    absurd (cc)
no_lexeme byte bytes front rest starts digit none e (a_sign sign s) = none sign rest (e ∙ ap (λ f. f ++ rest) s)

pub nothing_front : (text : List ℕ) → 0 < length text → is_blank (get_or text 0 0) ≡ false → get_or text 0 0 ≢ 35 →
    starts_word (get_or text 0 0) ≡ false → is_digit (get_or text 0 0) ≡ false → StartsNoSign text → StartsNothing text
nothing_front [] some blank hash starts digit none = absurd (omega arith)
nothing_front (byte ∷ bytes) some blank hash starts digit none =
    (blank, hash, λ front rest e. no_lexeme byte bytes front rest starts digit none e)
