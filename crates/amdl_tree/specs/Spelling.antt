-- How a tree is spelled, as a list of tokens.
use Rattle.std.specs.Prelude.{ℕ, List, [], ◌∷◌, ◌++◌}
use Rattle.std.specs.List.{flat_map}
use Rattle.amdl_tree.specs.declared.token.Token.{Token}
use Rattle.amdl_tree.specs.declared.token.Token.TheVariants.{Word, Key, Sign as Signed}
use Rattle.amdl_tree.specs.declared.token.Sign.{Sign}
use Rattle.amdl_tree.specs.declared.token.Sign.TheVariants as signs
use Rattle.amdl_tree.specs.declared.reserved.Reserved.{Reserved}
use Rattle.amdl_tree.specs.declared.reserved.Reserved.TheVariants as words
use Rattle.amdl_tree.specs.declared.guard.Atom.{Atom}
use Rattle.amdl_tree.specs.declared.guard.Guard.{Guard}
use Rattle.amdl_tree.specs.declared.guard.Lit.{Lit}
use Rattle.amdl_tree.specs.declared.guard.Lit.TheOpen.{Lit-F, Guard-F}
use Rattle.amdl_tree.specs.declared.guard.Lit.TheFolds.{fold-Lit, fold-Guard}
use Rattle.amdl_tree.specs.declared.statement.Alternative.{Alternative}
use Rattle.amdl_tree.specs.declared.statement.Stmt.{Stmt}
use Rattle.amdl_tree.specs.declared.statement.Stmt.TheOpen.{Stmt-F, Alternative-F}
use Rattle.amdl_tree.specs.declared.statement.Stmt.TheFolds.{fold-Stmt, fold-Alternative}
use Rattle.amdl_tree.specs.declared.class.Class.{Class}
use Rattle.amdl_tree.specs.declared.class.Handler.{Handler}
use Rattle.amdl_tree.specs.declared.class.Relation.{Relation}
use Rattle.amdl_tree.specs.declared.tree.Equal.{Equal}
use Rattle.amdl_tree.specs.declared.tree.End.{End}
use Rattle.amdl_tree.specs.declared.tree.End.TheVariants.{Host as AtHost, Port as AtPort}
use Rattle.amdl_tree.specs.declared.tree.Item.{Item}
use Rattle.amdl_tree.specs.declared.tree.Item.TheVariants.{Kind, Field, Class as OfClass, Host, Instance, Link, Sends}
use Rattle.amdl_tree.specs.declared.tree.Item.TheVariants.{Forbid}
use Rattle.amdl_tree.specs.declared.tree.Tree.{Tree}

-- a name, a reserved word and a sign, each a list of one token
abbrev pub word : List ℕ → List Token
word name = Word name ∷ []

abbrev pub key : Reserved → List Token
key reserved = Key reserved ∷ []

abbrev pub mark : Sign → List Token
mark sign = Signed sign ∷ []

-- a part with a token in front of it
abbrev pub led : {A : Type 0} → Token → (A → List Token) → A → List Token
led token spelled part = token ∷ spelled part

-- the parts, with a token between
abbrev pub listed : {A : Type 0} → Token → (A → List Token) → List A → List Token
listed token spelled [] = []
listed token spelled (part ∷ parts) = spelled part ++ flat_map (led token spelled) parts

-- the parts, with commas between
abbrev pub with_commas : {A : Type 0} → (A → List Token) → List A → List Token
with_commas = listed (Signed signs.Comma)

-- what is spelled already
abbrev pub as_it_is : List Token → List Token
as_it_is tokens = tokens

-- R(E, E)
abbrev pub spell_of_atom : Atom → List Token
spell_of_atom atom =
    Word atom.relation ∷ Signed signs.OpenParen ∷ with_commas word atom.args ++ Signed signs.CloseParen ∷ []

-- F = V
abbrev pub spell_of_equal : Equal → List Token
spell_of_equal equal = Word equal.field ∷ Signed signs.Equals ∷ Word equal.value ∷ []

-- F := E
abbrev pub spell_of_change : Equal → List Token
spell_of_change change = Word change.field ∷ Signed signs.Becomes ∷ Word change.value ∷ []

-- a pattern without equations is spelled `true`
abbrev pub spell_of_pattern : List Equal → List Token
spell_of_pattern [] = key words.True
spell_of_pattern (equal ∷ equals) = with_commas spell_of_equal (equal ∷ equals)

abbrev pub spell_of_end : End → List Token
spell_of_end (AtHost host) = word host
spell_of_end (AtPort box port) = Word box ∷ Signed signs.Point ∷ Word port ∷ []

-- a literal, given how the literal behind a `not` and the guard of a group are spelled
abbrev pub lit_spelled : {L G : Type 0} → (L → List Token) → (G → List Token) → Lit-F L G → List Token
lit_spelled literal guarded Lit-F.True = key words.True
lit_spelled literal guarded (Lit-F.Has atom) = Key words.Has ∷ spell_of_atom atom
lit_spelled literal guarded (Lit-F.Same one two) = Word one ∷ Signed signs.Equals ∷ Word two ∷ []
lit_spelled literal guarded (Lit-F.Differ one two) = Word one ∷ Signed signs.Differs ∷ Word two ∷ []
lit_spelled literal guarded (Lit-F.Not lit) = Key words.Not ∷ literal lit
lit_spelled literal guarded (Lit-F.Group guard) = Signed signs.OpenParen ∷ guarded guard ++ Signed signs.CloseParen ∷ []

-- the literals of each list with `and` between, the lists with `or` between
abbrev pub guard_spelled : {L : Type 0} → (L → List Token) → List (List L) → List Token
guard_spelled literal any = listed (Key words.Or) (listed (Key words.And) literal) any

-- one layer, whose parts are spelled already
abbrev pub lit_layer : Lit-F (List Token) (List Token) → List Token
lit_layer = lit_spelled as_it_is as_it_is

abbrev pub guard_layer : Guard-F (List Token) (List Token) → List Token
guard_layer guard = guard_spelled as_it_is guard.any

unfoldable pub spell_of_lit : Lit → List Token
spell_of_lit = fold-Lit (List Token) (List Token) lit_layer guard_layer

unfoldable pub spell_of_guard : Guard → List Token
spell_of_guard = fold-Guard (List Token) (List Token) lit_layer guard_layer

-- { statements }
abbrev pub block_spelled : {S : Type 0} → (S → List Token) → List S → List Token
block_spelled stated body = Signed signs.OpenBrace ∷ flat_map stated body ++ Signed signs.CloseBrace ∷ []

-- without changes the brackets are left out
abbrev pub spell_of_changes : List Equal → List Token
spell_of_changes [] = []
spell_of_changes (change ∷ changes) =
    Signed signs.OpenBracket ∷ with_commas spell_of_change (change ∷ changes) ++ Signed signs.CloseBracket ∷ []

-- a statement, given how the statements of a block and the alternatives of an `if` are spelled
abbrev pub stmt_spelled : {S A : Type 0} → (S → List Token) → (A → List Token) → Stmt-F S A → List Token
stmt_spelled stated branched (Stmt-F.Insert atom) = Key words.Insert ∷ spell_of_atom atom ++ Signed signs.Semicolon ∷ []
stmt_spelled stated branched (Stmt-F.Remove atom) = Key words.Remove ∷ spell_of_atom atom ++ Signed signs.Semicolon ∷ []
stmt_spelled stated branched Stmt-F.Abort = Key words.Abort ∷ Signed signs.Semicolon ∷ []
stmt_spelled stated branched (Stmt-F.Output port changes) =
    Key words.Output ∷ Word port ∷ spell_of_changes changes ++ Signed signs.Semicolon ∷ []
stmt_spelled stated branched (Stmt-F.Choose alternatives) =
    Key words.If ∷ listed (Signed signs.Bar) branched alternatives ++ Key words.Fi ∷ []
stmt_spelled stated branched (Stmt-F.Pick name kind body) =
    Key words.Pick ∷ Word name ∷ Signed signs.Colon ∷ Word kind ∷ Key words.In ∷ block_spelled stated body

-- guard -> block
abbrev pub branch_spelled : {S : Type 0} → (S → List Token) → Guard → List S → List Token
branch_spelled stated guard body = spell_of_guard guard ++ Signed signs.Arrow ∷ block_spelled stated body

-- one layer, whose parts are spelled already
abbrev pub stmt_layer : Stmt-F (List Token) (List Token) → List Token
stmt_layer = stmt_spelled as_it_is as_it_is

abbrev pub alternative_layer : Alternative-F (List Token) (List Token) → List Token
alternative_layer alternative = branch_spelled as_it_is alternative.guard alternative.body

unfoldable pub spell_of_statement : Stmt → List Token
spell_of_statement = fold-Stmt (List Token) (List Token) stmt_layer alternative_layer

unfoldable pub spell_of_alternative : Alternative → List Token
spell_of_alternative = fold-Alternative (List Token) (List Token) stmt_layer alternative_layer

-- the statements of a block, without its braces
abbrev pub spell_of_statements : List Stmt → List Token
spell_of_statements = flat_map spell_of_statement

-- { statements }
abbrev pub spell_of_block : List Stmt → List Token
spell_of_block = block_spelled spell_of_statement

abbrev pub spell_of_relation : Relation → List Token
spell_of_relation relation =
    Key words.Relation ∷ Word relation.name ∷ Signed signs.OpenParen ∷ with_commas word relation.kinds
    ++ Signed signs.CloseParen ∷ Signed signs.Semicolon ∷ []

abbrev pub spell_of_handler : Handler → List Token
spell_of_handler handler = Key words.On ∷ Word handler.port ∷ Signed signs.Colon ∷ spell_of_block handler.body

-- the relations, then the handlers
abbrev pub spell_of_class : Class → List Token
spell_of_class class =
    Key words.Middlebox ∷ Word class.name ∷ Signed signs.OpenBrace
    ∷ Key words.Port ∷ with_commas word class.ports ++ (Signed signs.Semicolon
    ∷ flat_map spell_of_relation class.relations
    ++ (flat_map spell_of_handler class.handlers ++ Signed signs.CloseBrace ∷ []))

-- the tuples that a box starts with; without any, `with` is left out
abbrev pub spell_of_first : List Atom → List Token
spell_of_first [] = []
spell_of_first (atom ∷ atoms) = Key words.With ∷ with_commas spell_of_atom (atom ∷ atoms)

abbrev pub spell_of_item : Item → List Token
spell_of_item (Kind name values) =
    Key words.Kind ∷ Word name ∷ Signed signs.Equals ∷ Signed signs.OpenBrace ∷ with_commas word values
    ++ Signed signs.CloseBrace ∷ Signed signs.Semicolon ∷ []
spell_of_item (Field name kind) =
    Key words.Field ∷ Word name ∷ Signed signs.Colon ∷ Word kind ∷ Signed signs.Semicolon ∷ []
spell_of_item (OfClass class) = spell_of_class class
spell_of_item (Host name) = Key words.Host ∷ Word name ∷ Signed signs.Semicolon ∷ []
spell_of_item (Instance name class first) =
    Key words.Box ∷ Word name ∷ Signed signs.Colon ∷ Word class ∷ spell_of_first first ++ Signed signs.Semicolon ∷ []
spell_of_item (Link one two) =
    Key words.Link ∷ spell_of_end one ++ (Signed signs.Dashes ∷ spell_of_end two ++ Signed signs.Semicolon ∷ [])
spell_of_item (Sends host pattern) =
    Key words.Sends ∷ Word host ∷ Signed signs.Colon ∷ spell_of_pattern pattern ++ Signed signs.Semicolon ∷ []
spell_of_item (Forbid host pattern) =
    Key words.Forbid ∷ Word host ∷ Signed signs.Colon ∷ spell_of_pattern pattern ++ Signed signs.Semicolon ∷ []

-- the head, then the items in order
abbrev pub spell : Tree → List Token
spell tree = Key words.Network ∷ Word tree.name ∷ Signed signs.Semicolon ∷ flat_map spell_of_item tree.items
