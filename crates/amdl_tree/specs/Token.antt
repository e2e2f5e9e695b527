-- Tokens and their spellings.
use Rattle.std.specs.Prelude.{◌≡◌, ◌≤◌, ◌+◌, ◌-◌, ◌*◌, ℕ, Bool, true, ◌&&◌, nat_le, List, [], ◌∷◌, length, codes, fold}
use Rattle.std.specs.List.{list_all}
use Rattle.amdl_tree.specs.Word.{IsName, spelling_of_reserved}
use Rattle.amdl_tree.specs.declared.token.Sign.{Sign}
use Rattle.amdl_tree.specs.declared.token.Sign.TheVariants.{Semicolon, Colon, Becomes, Comma, Point, OpenBrace}
use Rattle.amdl_tree.specs.declared.token.Sign.TheVariants.{CloseBrace, OpenParen, CloseParen, OpenBracket}
use Rattle.amdl_tree.specs.declared.token.Sign.TheVariants.{CloseBracket, Equals, Differs, Arrow, Dashes, Bar}
use Rattle.amdl_tree.specs.declared.token.Token.{Token}
use Rattle.amdl_tree.specs.declared.token.Token.TheVariants.{Word, Number, Key, Sign as Signed}

-- how a sign is spelled
abbrev pub spelling_of_sign : Sign → List ℕ
spelling_of_sign Semicolon = codes ";"
spelling_of_sign Colon = codes ":"
spelling_of_sign Becomes = codes ":="
spelling_of_sign Comma = codes ","
spelling_of_sign Point = codes "."
spelling_of_sign OpenBrace = codes "{"
spelling_of_sign CloseBrace = codes "}"
spelling_of_sign OpenParen = codes "("
spelling_of_sign CloseParen = codes ")"
spelling_of_sign OpenBracket = codes "["
spelling_of_sign CloseBracket = codes "]"
spelling_of_sign Equals = codes "="
spelling_of_sign Differs = codes "!="
spelling_of_sign Arrow = codes "->"
spelling_of_sign Dashes = codes "--"
spelling_of_sign Bar = codes "|"

-- a decimal digit
abbrev pub is_digit : ℕ → Bool
is_digit byte = nat_le 48 byte && nat_le byte 57

-- a number of any length: decimal digits, at least one
abbrev pub IsNumber : List ℕ → Type 0
IsNumber [] = ⊥
IsNumber (first ∷ others) = (is_digit first ≡ true) × (list_all is_digit others ≡ true)

-- the value of decimal digits, the first of which counts most
abbrev pub value_of_digits : List ℕ → ℕ
value_of_digits digits = fold (λ value digit. 10 * value + (digit - 48)) 0 digits

-- the token is spelled so: a name and a sign in one way each, a number also with zeros in front, of at most 9 digits in
-- all
abbrev pub SpellsToken : Token → List ℕ → Type 0
SpellsToken (Word name) bytes = IsName name × (bytes ≡ name)
SpellsToken (Number value) bytes = IsNumber bytes × (length bytes ≤ 9) × (value ≡ value_of_digits bytes)
SpellsToken (Key word) bytes = bytes ≡ spelling_of_reserved word
SpellsToken (Signed sign) bytes = bytes ≡ spelling_of_sign sign
