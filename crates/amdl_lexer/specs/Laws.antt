-- Laws over the definitions.
use Rattle.std.specs.Prelude.{◌≡◌, ◌≢◌, List, ℕ, Result, Ok, Err}
use Rattle.amdl_tree.specs.declared.token.Lexed.{Lexed}
use Rattle.amdl_lexer.specs.Answer.{IsLexed, IsRefused}
use Rattle.amdl_lexer.specs.declared.lexing.LexRefusal.{LexRefusal}
use Rattle.amdl_lexer.specs.declared.lexing.LexRefusal.TheVariants.{NoMemory}

-- what the text alone makes the answer
abbrev pub IsAnswer : List ℕ → Result (List Lexed) LexRefusal → Type 0
IsAnswer text (Ok tokens) = IsLexed text tokens
IsAnswer text (Err refusal) = (refusal ≢ NoMemory) × IsRefused text refusal

-- no text has two answers
abbrev pub OneAnswer : Type 0
OneAnswer =
    (text : List ℕ) (one other : Result (List Lexed) LexRefusal) → IsAnswer text one → IsAnswer text other → one ≡ other

-- each text has one
abbrev pub SomeAnswer : Type 0
SomeAnswer = (text : List ℕ) → (answer : Result (List Lexed) LexRefusal) × IsAnswer text answer
