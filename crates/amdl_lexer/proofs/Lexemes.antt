-- Words and numbers that are too long.
use Rattle.std.proofs.Common.{◌≡◌, ◌≤◌, ℕ, true, List, ◌++◌, length, sym, ap, subst, arith, lit≤, inl, inr}
use Rattle.amdl_tree.specs.Word.{IsWord, spelling_of_reserved}
use Rattle.amdl_tree.specs.Token.{is_digit, IsNumber, SpellsToken}
use Rattle.amdl_tree.specs.Lexical.{IsLexeme, a_word, a_number, IsLongest}
use Rattle.amdl_tree.specs.declared.reserved.Reserved.{Reserved}
use Rattle.amdl_tree.specs.declared.reserved.Reserved.TheVariants.{Network}
use Rattle.amdl_tree.specs.declared.token.Token.{Token}
use Rattle.amdl_tree.specs.declared.token.Token.TheVariants.{Word, Number, Key, Sign as Signed}
use Rattle.amdl_tree.proofs.RunLemmas.{first, firsts_alike}
use Rattle.amdl_tree.proofs.LexemeLemmas.{sign_short, number_some, lexeme_some, number_first, number_by_first}
use Rattle.amdl_tree.proofs.LexemeLemmas.{reserved_is_word, token_lexeme, number_not_word}
use Rattle.amdl_lexer.specs.Answer.{IsOverlong, StartsOverlong}

reserved_short : (word : Reserved) → length (spelling_of_reserved word) ≤ 24
reserved_short Network = lit≤ tt
reserved_short word = lit≤ tt

token_not_long : (token : Token) (bytes : List ℕ) → SpellsToken token bytes → length bytes ≤ 24
token_not_long (Word name) bytes spells = rw spells.1 spells.0.short
token_not_long (Number value) bytes spells = omega (arith, spells.1)
token_not_long (Key word) bytes spells = rw spells (reserved_short word)
token_not_long (Signed sign) bytes spells = omega (arith, sign_short sign, ap length spells)

number_not_long : (token : Token) (bytes : List ℕ) → SpellsToken token bytes → IsNumber bytes → length bytes ≤ 9
number_not_long (Word name) bytes spells is =
    absurd (number_not_word bytes is (subst IsWord (sym spells.1) spells.0.word))
number_not_long (Number value) bytes spells is = spells.1
number_not_long (Key word) bytes spells is =
    absurd (number_not_word bytes is (subst IsWord (sym spells) (reserved_is_word word)))
number_not_long (Signed sign) bytes spells is = omega (arith, sign_short sign, ap length spells)

-- where a token stands no word or number that is too long starts
pub good_not_overlong : (token : Token) (bytes after : List ℕ) → SpellsToken token bytes → IsLongest bytes after →
    StartsOverlong (bytes ++ after) → ⊥
good_not_overlong token bytes after spells longest (front, rest, e, inl word) =
    omega (arith, longest front rest e (a_word word.0), token_not_long token bytes spells)
good_not_overlong token bytes after spells longest (front, rest, e, inr number) =
    let lexeme : IsLexeme bytes = token_lexeme token bytes spells in
    let same : first bytes ≡ first front =
    firsts_alike bytes after front rest (lexeme_some bytes lexeme) (number_some front number.0) e in
    let digit : is_digit (first bytes) ≡ true =
    subst (λ b. is_digit b ≡ true) (sym same) (number_first front number.0) in
    omega (
      arith,
      longest front rest e (a_number number.0),
      number_not_long token bytes spells (number_by_first bytes lexeme digit),
    )

pub overlong_lexeme : (bytes : List ℕ) → IsOverlong bytes → IsLexeme bytes
overlong_lexeme bytes (inl word) = a_word word.0
overlong_lexeme bytes (inr number) = a_number number.0
