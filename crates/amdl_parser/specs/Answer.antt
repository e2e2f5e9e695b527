-- What it is that tokens are read, for any kind of value that is spelled in tokens.
use Rattle.std.specs.Prelude.{All, ◌≡◌, ◌<◌, ◌≤◌, ◌+◌, ℕ, List, ◌++◌, ◌⊎◌, length, map, take, Result, Ok, Err, ⊤}
use Rattle.amdl_tree.specs.Spelling.{spell}
use Rattle.amdl_tree.specs.WellBuilt.{IsWellBuilt, IsShaped}
pub use Rattle.amdl_tree.specs.Lexical.{token_of}
use Rattle.amdl_tree.specs.declared.token.Lexed.{Lexed}
use Rattle.amdl_tree.specs.Word.{IsName}
use Rattle.amdl_tree.specs.declared.token.Token.{Token}
use Rattle.amdl_tree.specs.declared.token.Token.TheVariants.{Word}
use Rattle.amdl_tree.specs.declared.tree.Tree.{Tree}
use Rattle.amdl_parser.specs.declared.refusal.SyntaxRefusal.{SyntaxRefusal}
use Rattle.amdl_parser.specs.declared.refusal.SyntaxRefusal.TheVariants.{Syntax, Deep, NoMemory}

-- the tokens without their places
abbrev pub tokens_of : List Lexed → List Token
tokens_of = map token_of

-- a word among the tokens is a name
abbrev pub IsNamed : Token → Type 0
IsNamed (Word name) = IsName name
IsNamed token = ⊤

-- the tokens are the spelling of a value of this kind
abbrev pub Spells : {X : Type 0} → (X → List Token) → (X → Type 0) → List Token → Type 0
Spells {X} spelled Kind tokens = (x : X) × Kind x × (spelled x ≡ tokens)

-- the tokens begin the spelling of a value of this kind
abbrev pub Begins : {X : Type 0} → (X → List Token) → (X → Type 0) → List Token → Type 0
Begins spelled Kind tokens = (more : List Token) × Spells spelled Kind (tokens ++ more)

-- k tokens begin a value that is shaped; with the next token they begin none that is built; and where they are all the
-- tokens, no value is spelled so
pub record IsSyntaxAt {X : Type 0} (spelled : X → List Token) (Built Shaped : X → Type 0) (tokens : List Token)
    (k : ℕ) : Type 0 where
  pub within : k ≤ length tokens
  pub begun : Begins spelled Shaped (take k tokens)
  pub wrong : k < length tokens → Begins spelled Built (take (k + 1) tokens) → ⊥
  pub ended : k ≡ length tokens → Spells spelled Built tokens → ⊥

-- k tokens begin a value that is shaped; with the next token they begin values that are built, but none that is shaped
pub record IsDeepAt {X : Type 0} (spelled : X → List Token) (Built Shaped : X → Type 0) (tokens : List Token)
    (k : ℕ) : Type 0 where
  pub within : k < length tokens
  pub begun : Begins spelled Shaped (take k tokens)
  pub deeper : Begins spelled Built (take (k + 1) tokens)
  pub only : Begins spelled Shaped (take (k + 1) tokens) → ⊥

-- what the tokens are read as; want of memory is tied to no cause
abbrev pub IsAnswer : {X : Type 0} → (X → List Token) → (X → Type 0) → (X → Type 0) → List Token →
    Result X SyntaxRefusal → Type 0
IsAnswer spelled Built Shaped tokens (Ok x) = Shaped x × (spelled x ≡ tokens)
IsAnswer spelled Built Shaped tokens (Err (Syntax k)) = IsSyntaxAt spelled Built Shaped tokens k
IsAnswer spelled Built Shaped tokens (Err (Deep k)) = IsDeepAt spelled Built Shaped tokens k
IsAnswer spelled Built Shaped tokens (Err NoMemory) = ⊤

-- as trees
abbrev pub IsTreeAnswer : List Token → Result Tree SyntaxRefusal → Type 0
IsTreeAnswer = IsAnswer spell IsWellBuilt IsShaped

abbrev pub WantsMemory : {X : Type 0} → Result X SyntaxRefusal → Type 0
WantsMemory answer = answer ≡ Err NoMemory

-- it is this answer, or memory was wanting
abbrev pub IsOrNoMemory : {X : Type 0} → Result X SyntaxRefusal → Result X SyntaxRefusal → Type 0
IsOrNoMemory result answer = (result ≡ answer) ⊎ WantsMemory result

-- what the tokens alone make the answer
abbrev pub IsFullAnswer : List Token → Result Tree SyntaxRefusal → Type 0
IsFullAnswer tokens answer = IsTreeAnswer tokens answer × ¬ WantsMemory answer

-- no token list has two answers
abbrev pub OneAnswer : Type 0
OneAnswer =
    (tokens : List Token) (one two : Result Tree SyntaxRefusal) → IsFullAnswer tokens one → IsFullAnswer tokens two →
    one ≡ two

-- each token list has one; the words of a list are names
abbrev pub SomeAnswer : Type 0
SomeAnswer =
    (tokens : List Token) → All IsNamed tokens → (answer : Result Tree SyntaxRefusal) × IsFullAnswer tokens answer
