-- The answers of the lexer, each by what the text has.
use Rattle.std.specs.Prelude.{◌≡◌, ◌≢◌, ◌≤◌, ◌<◌, ℕ, false, List, [], ◌∷◌, ◌++◌, ◌⊎◌, length, drop, Result, Err}
use Rattle.amdl_tree.specs.Word.{IsWord}
use Rattle.amdl_tree.specs.Token.{IsNumber}
use Rattle.amdl_tree.specs.Lexical.{is_blank, IsLexeme, Reads}
use Rattle.amdl_tree.specs.declared.token.Lexed.{Lexed}
use Rattle.amdl_lexer.specs.declared.lexing.LexRefusal.{LexRefusal}
use Rattle.amdl_lexer.specs.declared.lexing.LexRefusal.TheVariants.{BadByte, WordTooLong, TooManyTokens, NoMemory}

-- the first byte is no blank and no `#`, and no word, number or sign starts with it
abbrev pub StartsNothing : List ℕ → Type 0
StartsNothing [] = ⊥
StartsNothing (byte ∷ bytes) =
    (is_blank byte ≡ false) × (byte ≢ 35) × ((front rest : List ℕ) → byte ∷ bytes ≡ front ++ rest → ¬ IsLexeme front)

-- a word of more than 24 bytes or a number of more than 9 digits
abbrev pub IsOverlong : List ℕ → Type 0
IsOverlong bytes = (IsWord bytes × 24 < length bytes) ⊎ (IsNumber bytes × 9 < length bytes)

-- the text begins with one
abbrev pub StartsOverlong : List ℕ → Type 0
StartsOverlong text = (front rest : List ℕ) × (text ≡ front ++ rest) × IsOverlong front

-- the whole text is read as these tokens, which are not too many
pub record IsLexed (text : List ℕ) (tokens : List Lexed) : Type 0 where
  pub read : Reads text (length text) tokens
  pub few : length tokens ≤ 1000000

-- a place that is reached by tokens that are not too many, where the text goes on so
pub record StopsAt (goes_on : List ℕ → Type 0) (text : List ℕ) (at : ℕ) : Type 0 where
  pub tokens : List Lexed
  pub read : Reads text at tokens
  pub few : length tokens ≤ 1000000
  pub fault : goes_on (drop at text)

-- a front of the text is read as too many tokens
pub record IsOverfull (text : List ℕ) : Type 0 where
  pub at : ℕ
  pub tokens : List Lexed
  pub read : Reads text at tokens
  pub many : 1000000 < length tokens

-- why a text is refused, but for want of memory, which no text explains
abbrev pub IsRefused : List ℕ → LexRefusal → Type 0
IsRefused text (BadByte at) = StopsAt StartsNothing text at
IsRefused text (WordTooLong at) = StopsAt StartsOverlong text at
IsRefused text TooManyTokens = IsOverfull text
IsRefused text NoMemory = Unit {0}

-- it is this answer, or memory ran out
abbrev pub IsOrNoMemory : Result (List Lexed) LexRefusal → Result (List Lexed) LexRefusal → Type 0
IsOrNoMemory result answer = (result ≡ answer) ⊎ (result ≡ Err NoMemory)
