-- What the text of a network is read as.
use Rattle.std.specs.Prelude.{◌≡◌, ◌≤◌, ℕ, List, length, Result, Ok, Err}
use Rattle.amdl_tree.specs.Lexical.{StandsFor}
use Rattle.amdl_tree.specs.NetworkFile.{IsFileOf}
use Rattle.amdl_tree.specs.Spelling.{spell}
use Rattle.amdl_tree.specs.WellBuilt.{IsWellBuilt, IsShaped}
use Rattle.amdl_tree.specs.declared.token.Token.{Token}
use Rattle.amdl_tree.specs.declared.tree.Tree.{Tree}
use Rattle.amdl_lexer.specs.Answer.{StartsNothing, StartsOverlong, StopsAt, IsOverfull}
use Rattle.amdl_parser.specs.Answer.{IsSyntaxAt, IsDeepAt}
use Rattle.network_file.specs.declared.reading.ReadRefusal.{ReadRefusal}
use Rattle.network_file.specs.declared.reading.ReadRefusal.TheVariants.{BadByte, WordTooLong, TooManyTokens, Syntax}
use Rattle.network_file.specs.declared.reading.ReadRefusal.TheVariants.{Deep}

-- the text stands for these tokens, which are not too many
pub record HasTokens (text : List ℕ) (tokens : List Token) : Type 0 where
  pub stands : StandsFor text tokens
  pub few : length tokens ≤ 1000000

-- the tokens are the spelling of the tree, or have a fault at this place
abbrev pub IsParsedAs : List Token → Result Tree ReadRefusal → Type 0
IsParsedAs tokens (Ok tree) = IsShaped tree × (spell tree ≡ tokens)
IsParsedAs tokens (Err (Syntax at)) = IsSyntaxAt spell IsWellBuilt IsShaped tokens at
IsParsedAs tokens (Err (Deep at)) = IsDeepAt spell IsWellBuilt IsShaped tokens at
IsParsedAs tokens (Err refusal) = ⊥

-- the text has tokens that are read so
abbrev pub HasTokensReadAs : List ℕ → Result Tree ReadRefusal → Type 0
HasTokensReadAs text reading = (tokens : List Token) × HasTokens text tokens × IsParsedAs tokens reading

-- the text is the file of the tree and has not too many tokens, or has this fault
abbrev pub IsReadAs : List ℕ → Result Tree ReadRefusal → Type 0
IsReadAs text (Ok tree) = IsFileOf text tree × (length (spell tree) ≤ 1000000)
IsReadAs text (Err (BadByte at)) = StopsAt StartsNothing text at
IsReadAs text (Err (WordTooLong at)) = StopsAt StartsOverlong text at
IsReadAs text (Err TooManyTokens) = IsOverfull text
IsReadAs text (Err (Syntax at)) = HasTokensReadAs text (Err (Syntax at))
IsReadAs text (Err (Deep at)) = HasTokensReadAs text (Err (Deep at))
