-- How a text is read: blanks, comments and tokens in turn, each token the longest that starts at its place.
use Rattle.std.specs.Prelude.{◌≡◌, ◌≤◌, ◌+◌, ℕ, Bool, true, ◌||◌, ◌==◌, not, List, [], ◌∷◌, ◌++◌, ◌⊎◌, length, take}
use Rattle.std.specs.Prelude.{drop, map}
use Rattle.std.specs.List.{list_all, flat_map}
use Rattle.amdl_tree.specs.Word.{IsWord}
use Rattle.amdl_tree.specs.Token.{spelling_of_sign, IsNumber, SpellsToken}
use Rattle.amdl_tree.specs.declared.token.Sign.{Sign}
use Rattle.amdl_tree.specs.declared.token.Token.{Token}
use Rattle.amdl_tree.specs.declared.token.Lexed.{Lexed}

-- space, tab, CR and LF
abbrev pub is_blank : ℕ → Bool
is_blank byte = (byte == 32) || (byte == 9) || (byte == 13) || (byte == 10)

-- a `#` and bytes of its line
abbrev pub IsComment : List ℕ → Type 0
IsComment [] = ⊥
IsComment (first ∷ others) = (first ≡ 35) × (list_all (λ byte. not (byte == 10)) others ≡ true)

-- what stands behind a line: its LF, or nothing
abbrev pub EndsLine : List ℕ → Type 0
EndsLine [] = Unit {0}
EndsLine (byte ∷ bytes) = byte ≡ 10

-- in front of what follows these bytes say nothing: one blank, or a whole comment without its LF
abbrev pub IsGap : List ℕ → List ℕ → Type 0
IsGap bytes after = ((blank : ℕ) × (bytes ≡ blank ∷ []) × (is_blank blank ≡ true)) ⊎ (IsComment bytes × EndsLine after)

-- a word or a number of any length, or a sign
pub data IsLexeme (bytes : List ℕ) : Type 0 where
  a_word : IsWord bytes → IsLexeme bytes
  a_number : IsNumber bytes → IsLexeme bytes
  a_sign : (sign : Sign) → bytes ≡ spelling_of_sign sign → IsLexeme bytes

-- no front of the text is a longer word, number or sign
abbrev pub IsLongest : List ℕ → List ℕ → Type 0
IsLongest bytes after =
    (other behind : List ℕ) → bytes ++ after ≡ other ++ behind → IsLexeme other → length other ≤ length bytes

-- a piece of a text: a blank or a comment, or a token as it is spelled there
pub data Piece : Type 0 where
  a_gap : List ℕ → Piece
  a_token : Token → List ℕ → Piece

abbrev pub bytes_of_piece : Piece → List ℕ
bytes_of_piece (a_gap bytes) = bytes
bytes_of_piece (a_token token bytes) = bytes

abbrev pub bytes_of : List Piece → List ℕ
bytes_of pieces = flat_map bytes_of_piece pieces

-- the piece may stand in front of this text
abbrev pub Stands : Piece → List ℕ → Type 0
Stands (a_gap bytes) after = IsGap bytes after
Stands (a_token token bytes) after = SpellsToken token bytes × IsLongest bytes after

-- each piece may stand in front of the pieces behind it and the rest of the text
abbrev pub AllStand : List Piece → List ℕ → Type 0
AllStand [] rest = Unit {0}
AllStand (piece ∷ pieces) rest = Stands piece (bytes_of pieces ++ rest) × AllStand pieces rest

-- a token with its first place and the place behind its last byte
abbrev pub lexed : Token → ℕ → ℕ → Lexed
lexed token start end = record { token = token; start = start; end = end }

-- the tokens among the pieces, of which the first piece stands at this place
abbrev pub tokens_from : ℕ → List Piece → List Lexed
tokens_from at [] = []
tokens_from at (a_gap bytes ∷ pieces) = tokens_from (at + length bytes) pieces
tokens_from at (a_token token bytes ∷ pieces) =
    lexed token at (at + length bytes) ∷ tokens_from (at + length bytes) pieces

-- the first bytes of the text, as many as are told, are read as these tokens
pub record Reads (text : List ℕ) (at : ℕ) (tokens : List Lexed) : Type 0 where
  pub pieces : List Piece
  pub within : at ≤ length text
  pub front : take at text ≡ bytes_of pieces
  pub stand : AllStand pieces (drop at text)
  pub made : tokens ≡ tokens_from 0 pieces

-- a token without its place
abbrev pub token_of : Lexed → Token
token_of lexed = lexed.token

-- the whole text is read as these tokens, wherever they stand in it
abbrev pub StandsFor : List ℕ → List Token → Type 0
StandsFor text tokens = (lexeds : List Lexed) × Reads text (length text) lexeds × (map token_of lexeds ≡ tokens)
