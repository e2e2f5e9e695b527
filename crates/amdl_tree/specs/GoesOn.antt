-- Which tokens go on with a part of a tree that was spelled, and what it is that a part is spelled in one way.
use Rattle.std.specs.Prelude.{◌≡◌, Bool, true, false, ◌||◌, List, [], ◌∷◌, ◌++◌, ⊤}
use Rattle.amdl_tree.specs.declared.token.Token.{Token}
use Rattle.amdl_tree.specs.declared.token.Token.TheVariants.{Key, Sign as Signed}
use Rattle.amdl_tree.specs.declared.token.Sign.TheVariants as signs
use Rattle.amdl_tree.specs.declared.reserved.Reserved.TheVariants as words
use Rattle.amdl_tree.specs.declared.guard.Atom.{Atom}
use Rattle.amdl_tree.specs.declared.tree.Equal.{Equal}
use Rattle.amdl_tree.specs.declared.tree.End.{End}
use Rattle.amdl_tree.specs.declared.tree.End.TheVariants.{Host as AtHost, Port as AtPort}

-- what follows does not begin with such a token
abbrev pub Past : (Token → Bool) → List Token → Type 0
Past goes [] = ⊤
Past goes (token ∷ tokens) = goes token ≡ false

-- Of the values that W asks for: a token list begins with the spelling of at most one of them, where what follows does
-- not
-- go on with it. So what follows is settled too.
pub record Once {X : Type 0} (spelled : X → List Token) (W : X → Type 0) (goes : X → Token → Bool) : Type 0 where
  pub once : (x y : X) (a b : List Token) → W x → W y → Past (goes x) a → Past (goes y) b →
      spelled x ++ a ≡ spelled y ++ b → (x ≡ y) × (a ≡ b)

-- each spelling has a first token, of this kind
pub record Begins {X : Type 0} (spelled : X → List Token) (W : X → Type 0) (starts : Token → Bool) : Type 0 where
  pub begins : (x : X) → W x →
      (token : Token) × (tokens : List Token) × (spelled x ≡ token ∷ tokens) × (starts token ≡ true)

-- no token
abbrev pub never : Token → Bool
never token = false

abbrev pub is_comma : Token → Bool
is_comma (Signed signs.Comma) = true
is_comma token = false

abbrev pub is_bar : Token → Bool
is_bar (Signed signs.Bar) = true
is_bar token = false

abbrev pub is_point : Token → Bool
is_point (Signed signs.Point) = true
is_point token = false

abbrev pub is_open_bracket : Token → Bool
is_open_bracket (Signed signs.OpenBracket) = true
is_open_bracket token = false

abbrev pub is_and : Token → Bool
is_and (Key words.And) = true
is_and token = false

abbrev pub is_or : Token → Bool
is_or (Key words.Or) = true
is_or token = false

abbrev pub is_with : Token → Bool
is_with (Key words.With) = true
is_with token = false

-- the first words of statements, relations, handlers and items
abbrev pub starts_statement : Token → Bool
starts_statement (Key words.Insert) = true
starts_statement (Key words.Remove) = true
starts_statement (Key words.Output) = true
starts_statement (Key words.Abort) = true
starts_statement (Key words.If) = true
starts_statement (Key words.Pick) = true
starts_statement token = false

abbrev pub starts_relation : Token → Bool
starts_relation (Key words.Relation) = true
starts_relation token = false

abbrev pub starts_handler : Token → Bool
starts_handler (Key words.On) = true
starts_handler token = false

abbrev pub starts_item : Token → Bool
starts_item (Key words.Kind) = true
starts_item (Key words.Field) = true
starts_item (Key words.Middlebox) = true
starts_item (Key words.Host) = true
starts_item (Key words.Box) = true
starts_item (Key words.Link) = true
starts_item (Key words.Sends) = true
starts_item (Key words.Forbid) = true
starts_item token = false

-- a list goes on with its separator, and with what goes on with a part of it
abbrev pub goes_list : (Token → Bool) → (Token → Bool) → Token → Bool
goes_list separates goes token = separates token || goes token

-- a list with `and` between, and a guard
abbrev pub goes_conj : Token → Bool
goes_conj = goes_list is_and never

abbrev pub goes_guard : Token → Bool
goes_guard = goes_list is_or goes_conj

abbrev pub goes_commas : Token → Bool
goes_commas = goes_list is_comma never

-- a host as an end may go on to a port
abbrev pub goes_end : End → Token → Bool
goes_end (AtHost host) = is_point
goes_end (AtPort box port) = never

-- `true` is a whole pattern
abbrev pub goes_pattern : List Equal → Token → Bool
goes_pattern [] = never
goes_pattern (equal ∷ equals) = goes_commas

abbrev pub goes_changes : List Equal → Token → Bool
goes_changes [] = is_open_bracket
goes_changes (change ∷ changes) = never

abbrev pub goes_first : List Atom → Token → Bool
goes_first [] = is_with
goes_first (atom ∷ atoms) = goes_commas
