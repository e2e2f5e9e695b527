-- The parts of a tree as readings, each put together as the part is spelled.
use Rattle.std.specs.Prelude.{ℕ, zero, suc, Bool, true, false, List, [], Option, Some, None, if◌then◌else◌, ⊤}
use Rattle.amdl_tree.specs.GoesOn.{starts_statement, starts_relation, starts_handler, starts_item}
use Rattle.amdl_tree.specs.declared.token.Token.{Token}
use Rattle.amdl_tree.specs.declared.token.Token.TheVariants.{Key, Sign as Signed}
use Rattle.amdl_tree.specs.declared.token.Sign.TheVariants as signs
use Rattle.amdl_tree.specs.declared.reserved.Reserved.TheVariants as words
use Rattle.amdl_tree.specs.declared.guard.Atom.{Atom}
use Rattle.amdl_tree.specs.declared.guard.Guard.{Guard}
use Rattle.amdl_tree.specs.declared.guard.Lit.{Lit}
use Rattle.amdl_tree.specs.declared.guard.Lit.TheVariants as lits
use Rattle.amdl_tree.specs.declared.reserved.Reserved.{Reserved}
use Rattle.amdl_tree.specs.declared.statement.Alternative.{Alternative}
use Rattle.amdl_tree.specs.declared.statement.Stmt.{Stmt}
use Rattle.amdl_tree.specs.declared.statement.Stmt.TheVariants as stmts
use Rattle.amdl_tree.specs.declared.class.Class.{Class}
use Rattle.amdl_tree.specs.declared.class.Handler.{Handler}
use Rattle.amdl_tree.specs.declared.tree.Tree.{Tree}
use Rattle.amdl_tree.specs.declared.class.Relation.{Relation}
use Rattle.amdl_tree.specs.declared.tree.Equal.{Equal}
use Rattle.amdl_tree.specs.declared.tree.End.{End}
use Rattle.amdl_tree.specs.declared.tree.End.TheVariants.{Host as AtHost, Port as AtPort}
use Rattle.amdl_tree.specs.declared.tree.Item.{Item}
use Rattle.amdl_tree.specs.declared.tree.Item.TheVariants.{Kind, Field, Class as OfClass, Host, Instance, Link, Sends}
use Rattle.amdl_tree.specs.declared.tree.Item.TheVariants.{Forbid}
use Rattle.amdl_parser.specs.Reading.{Answer, refused, too_deep, begins, word_at, fixed_at, then_at, made_at, after_at}
use Rattle.amdl_parser.specs.Reading.{before_at, listed_at, maybe_at, all_at}

-- names with commas between
unfoldable pub names_at : List Token → Answer (List (List ℕ))
names_at = listed_at (Signed signs.Comma) word_at

abbrev pub atom_of : List ℕ × List (List ℕ) → Atom
atom_of parts = record { relation = parts.0; args = parts.1 }

unfoldable pub atom_at : List Token → Answer Atom
atom_at =
    made_at atom_of (then_at word_at (after_at (Signed signs.OpenParen) (before_at names_at (Signed signs.CloseParen))))

abbrev pub equal_of : List ℕ × List ℕ → Equal
equal_of parts = record { field = parts.0; value = parts.1 }

unfoldable pub equal_at : List Token → Answer Equal
equal_at = made_at equal_of (then_at word_at (after_at (Signed signs.Equals) word_at))

unfoldable pub change_at : List Token → Answer Equal
change_at = made_at equal_of (then_at word_at (after_at (Signed signs.Becomes) word_at))

-- equations with commas between, and changes
unfoldable pub equals_at : List Token → Answer (List Equal)
equals_at = listed_at (Signed signs.Comma) equal_at

unfoldable pub some_changes_at : List Token → Answer (List Equal)
some_changes_at = listed_at (Signed signs.Comma) change_at

unfoldable pub atoms_at : List Token → Answer (List Atom)
atoms_at = listed_at (Signed signs.Comma) atom_at

abbrev pub no_equals : ⊤ → List Equal
no_equals u = []

abbrev pub as_list : {A : Type 0} → List A → List A
as_list parts = parts

unfoldable pub pattern_at : List Token → Answer (List Equal)
pattern_at tokens =
    if begins (Key words.True) tokens then made_at no_equals (fixed_at (Key words.True)) tokens
    else made_at as_list equals_at tokens

abbrev pub end_of : List ℕ × Option (List ℕ) → End
end_of (host, None) = AtHost host
end_of (box, Some port) = AtPort box port

unfoldable pub end_at : List Token → Answer End
end_at = made_at end_of (then_at word_at (maybe_at (Signed signs.Point) word_at))

-- a list that may be left out
abbrev pub list_of : {A : Type 0} → Option (List A) → List A
list_of None = []
list_of (Some parts) = parts

unfoldable pub first_at : List Token → Answer (List Atom)
first_at = made_at list_of (maybe_at (Key words.With) atoms_at)

abbrev pub relation_of : List ℕ × List (List ℕ) → Relation
relation_of parts = record { name = parts.0; kinds = parts.1 }

unfoldable pub relation_at : List Token → Answer Relation
relation_at =
    made_at relation_of
    (after_at (Key words.Relation)
    (then_at word_at
    (after_at (Signed signs.OpenParen)
    (before_at (before_at names_at (Signed signs.CloseParen)) (Signed signs.Semicolon)))))

-- the forms of items, each with what it is made of

abbrev pub kind_of : List ℕ × List (List ℕ) → Item
kind_of parts = Kind parts.0 parts.1

abbrev pub field_of : List ℕ × List ℕ → Item
field_of parts = Field parts.0 parts.1

abbrev pub box_of : List ℕ × (List ℕ × List Atom) → Item
box_of parts = Instance parts.0 parts.1.0 parts.1.1

abbrev pub link_of : End × End → Item
link_of parts = Link parts.0 parts.1

abbrev pub sends_of : List ℕ × List Equal → Item
sends_of parts = Sends parts.0 parts.1

abbrev pub forbid_of : List ℕ × List Equal → Item
forbid_of parts = Forbid parts.0 parts.1

unfoldable pub kind_at : List Token → Answer Item
kind_at =
    made_at kind_of
    (after_at (Key words.Kind)
    (then_at word_at
    (after_at (Signed signs.Equals)
    (after_at (Signed signs.OpenBrace)
    (before_at (before_at names_at (Signed signs.CloseBrace)) (Signed signs.Semicolon))))))

unfoldable pub field_at : List Token → Answer Item
field_at =
    made_at field_of
    (after_at (Key words.Field)
    (then_at word_at (after_at (Signed signs.Colon) (before_at word_at (Signed signs.Semicolon)))))

unfoldable pub host_at : List Token → Answer Item
host_at = made_at Host (after_at (Key words.Host) (before_at word_at (Signed signs.Semicolon)))

unfoldable pub box_at : List Token → Answer Item
box_at = made_at box_of
    (after_at (Key words.Box)
    (then_at word_at (after_at (Signed signs.Colon) (then_at word_at (before_at first_at (Signed signs.Semicolon))))))

unfoldable pub link_at : List Token → Answer Item
link_at =
    made_at link_of
    (after_at (Key words.Link)
    (then_at end_at (after_at (Signed signs.Dashes) (before_at end_at (Signed signs.Semicolon)))))

-- a host with a pattern, behind the word of the item
unfoldable pub claim_at : Token → List Token → Answer (List ℕ × List Equal)
claim_at word =
    after_at word (then_at word_at (after_at (Signed signs.Colon) (before_at pattern_at (Signed signs.Semicolon))))

abbrev pub sends_at : List Token → Answer Item
sends_at = made_at sends_of (claim_at (Key words.Sends))

abbrev pub forbid_at : List Token → Answer Item
forbid_at = made_at forbid_of (claim_at (Key words.Forbid))

-- literals and guards

abbrev pub true_of : ⊤ → Lit
true_of u = lits.True

abbrev pub has_of : Atom → Lit
has_of atom = lits.Has atom

abbrev pub not_of : Lit → Lit
not_of lit = lits.Not lit

abbrev pub group_of : Guard → Lit
group_of guard = lits.Group guard

-- a comparison behind its first name: whether the two are to be the same, and the second name
abbrev pub Comparison : Type 0
Comparison = Bool × List ℕ

abbrev pub same_as : List ℕ → Comparison
same_as name = (true, name)

abbrev pub differs_from : List ℕ → Comparison
differs_from name = (false, name)

unfoldable pub comparison_at : List Token → Answer Comparison
comparison_at tokens =
    if begins (Signed signs.Equals) tokens then made_at same_as (after_at (Signed signs.Equals) word_at) tokens
    else (if begins (Signed signs.Differs) tokens then made_at differs_from
    (after_at (Signed signs.Differs) word_at) tokens
    else refused tokens)

abbrev pub compared_of : List ℕ × Comparison → Lit
compared_of (one, (true, two)) = lits.Same one two
compared_of (one, (false, two)) = lits.Differ one two

abbrev pub guard_of : List (List Lit) → Guard
guard_of any = record { any = any }

-- literals with `and` between
abbrev pub conj_by : (List Token → Answer Lit) → List Token → Answer (List Lit)
conj_by literal = listed_at (Key words.And) literal

abbrev pub guard_by : (List Token → Answer Lit) → List Token → Answer Guard
guard_by literal = made_at guard_of (listed_at (Key words.Or) (conj_by literal))

-- a literal, given how the literal behind a `not` and the guard of a group are read
abbrev pub lit_by : (List Token → Answer Lit) → (List Token → Answer Lit) → List Token → Answer Lit
lit_by denied grouped tokens =
    if begins (Key words.True) tokens then made_at true_of (fixed_at (Key words.True)) tokens
    else (if begins (Key words.Has) tokens then made_at has_of (after_at (Key words.Has) atom_at) tokens
    else (if begins (Key words.Not) tokens then denied tokens
    else (if begins (Signed signs.OpenParen) tokens then grouped tokens
    else made_at compared_of (then_at word_at comparison_at) tokens)))

-- a literal at n more levels
unfoldable pub lit_at : ℕ → List Token → Answer Lit
lit_at zero = lit_by too_deep too_deep
lit_at (suc n) =
    lit_by (made_at not_of (after_at (Key words.Not) (lit_at n)))
    (made_at group_of (after_at (Signed signs.OpenParen) (before_at (guard_by (lit_at n)) (Signed signs.CloseParen))))

unfoldable pub conj_at : ℕ → List Token → Answer (List Lit)
conj_at n = conj_by (lit_at n)

unfoldable pub any_at : ℕ → List Token → Answer (List (List Lit))
any_at n = listed_at (Key words.Or) (conj_at n)

unfoldable pub guard_at : ℕ → List Token → Answer Guard
guard_at n = made_at guard_of (any_at n)

unfoldable pub has_at : List Token → Answer Lit
has_at = made_at has_of (after_at (Key words.Has) atom_at)

unfoldable pub compared_at : List Token → Answer Lit
compared_at = made_at compared_of (then_at word_at comparison_at)

-- a `not` and a group, whose inside has n more levels
unfoldable pub denied_at : ℕ → List Token → Answer Lit
denied_at n = made_at not_of (after_at (Key words.Not) (lit_at n))

unfoldable pub grouped_at : ℕ → List Token → Answer Lit
grouped_at n = made_at group_of (after_at (Signed signs.OpenParen) (before_at (guard_at n) (Signed signs.CloseParen)))

-- a `not` and a group, each with n more levels
unfoldable pub not_at : ℕ → List Token → Answer Lit
not_at zero = too_deep
not_at (suc n) = denied_at n

unfoldable pub group_at : ℕ → List Token → Answer Lit
group_at zero = too_deep
group_at (suc n) = grouped_at n

-- statements

abbrev pub insert_of : Atom → Stmt
insert_of atom = stmts.Insert atom

abbrev pub remove_of : Atom → Stmt
remove_of atom = stmts.Remove atom

abbrev pub abort_of : ⊤ → Stmt
abort_of u = stmts.Abort

abbrev pub output_of : List ℕ × List Equal → Stmt
output_of parts = stmts.Output parts.0 parts.1

abbrev pub choose_of : List Alternative → Stmt
choose_of alternatives = stmts.Choose alternatives

abbrev pub pick_of : List ℕ × (List ℕ × List Stmt) → Stmt
pick_of parts = stmts.Pick parts.0 parts.1.0 parts.1.1

abbrev pub alternative_of : Guard × List Stmt → Alternative
alternative_of parts = record { guard = parts.0; body = parts.1 }

-- changes in brackets, or nothing
unfoldable pub changes_at : List Token → Answer (List Equal)
changes_at =
    made_at list_of (maybe_at (Signed signs.OpenBracket) (before_at some_changes_at (Signed signs.CloseBracket)))

-- a change of a relation, behind this word
unfoldable pub update_at : Reserved → List Token → Answer Atom
update_at word = after_at (Key word) (before_at atom_at (Signed signs.Semicolon))

unfoldable pub abort_at : List Token → Answer Stmt
abort_at = made_at abort_of (after_at (Key words.Abort) (fixed_at (Signed signs.Semicolon)))

unfoldable pub output_at : List Token → Answer Stmt
output_at =
    made_at output_of (after_at (Key words.Output) (then_at word_at (before_at changes_at (Signed signs.Semicolon))))

-- { statements }
abbrev pub block_by : (List Token → Answer Stmt) → List Token → Answer (List Stmt)
block_by stated =
    after_at (Signed signs.OpenBrace) (before_at (all_at starts_statement stated) (Signed signs.CloseBrace))

abbrev pub branch_by : (List Token → Answer Guard) → (List Token → Answer Stmt) → List Token → Answer Alternative
branch_by guarded stated = made_at alternative_of (then_at guarded (after_at (Signed signs.Arrow) (block_by stated)))

abbrev pub choose_by : (List Token → Answer Alternative) → List Token → Answer Stmt
choose_by branched =
    made_at choose_of (after_at (Key words.If) (before_at (listed_at (Signed signs.Bar) branched) (Key words.Fi)))

abbrev pub pick_by : (List Token → Answer Stmt) → List Token → Answer Stmt
pick_by stated =
    made_at pick_of
    (after_at (Key words.Pick)
    (then_at word_at (after_at (Signed signs.Colon) (then_at word_at (after_at (Key words.In) (block_by stated))))))

-- a statement, given how an `if` and a `pick` are read
abbrev pub stmt_by : (List Token → Answer Stmt) → (List Token → Answer Stmt) → List Token → Answer Stmt
stmt_by chosen picked tokens =
    if begins (Key words.Insert) tokens then made_at insert_of (update_at words.Insert) tokens
    else (if begins (Key words.Remove) tokens then made_at remove_of (update_at words.Remove) tokens
    else (if begins (Key words.Output) tokens then output_at tokens
    else (if begins (Key words.Abort) tokens then abort_at tokens
    else (if begins (Key words.If) tokens then chosen tokens
    else (if begins (Key words.Pick) tokens then picked tokens
    else refused tokens)))))

-- a statement at n more levels
unfoldable pub stmt_at : ℕ → List Token → Answer Stmt
stmt_at zero = stmt_by too_deep too_deep
stmt_at (suc n) = stmt_by (choose_by (branch_by (guard_at n) (stmt_at n))) (pick_by (stmt_at n))

unfoldable pub statements_at : ℕ → List Token → Answer (List Stmt)
statements_at n = all_at starts_statement (stmt_at n)

unfoldable pub block_at : ℕ → List Token → Answer (List Stmt)
block_at n = after_at (Signed signs.OpenBrace) (before_at (statements_at n) (Signed signs.CloseBrace))

unfoldable pub branch_at : ℕ → List Token → Answer Alternative
branch_at n = made_at alternative_of (then_at (guard_at n) (after_at (Signed signs.Arrow) (block_at n)))

unfoldable pub branches_at : ℕ → List Token → Answer (List Alternative)
branches_at n = listed_at (Signed signs.Bar) (branch_at n)

-- an `if` and a `pick`, whose inside has n more levels
unfoldable pub chosen_at : ℕ → List Token → Answer Stmt
chosen_at n = made_at choose_of (after_at (Key words.If) (before_at (branches_at n) (Key words.Fi)))

unfoldable pub picked_at : ℕ → List Token → Answer Stmt
picked_at n =
    made_at pick_of
    (after_at (Key words.Pick)
    (then_at word_at (after_at (Signed signs.Colon) (then_at word_at (after_at (Key words.In) (block_at n))))))

-- an `if` and a `pick`, each with n more levels
unfoldable pub choose_at : ℕ → List Token → Answer Stmt
choose_at zero = too_deep
choose_at (suc n) = chosen_at n

unfoldable pub pick_at : ℕ → List Token → Answer Stmt
pick_at zero = too_deep
pick_at (suc n) = picked_at n

-- classes

abbrev pub handler_of : List ℕ × List Stmt → Handler
handler_of parts = record { port = parts.0; body = parts.1 }

unfoldable pub handler_at : ℕ → List Token → Answer Handler
handler_at n =
    made_at handler_of (after_at (Key words.On) (then_at word_at (after_at (Signed signs.Colon) (block_at n))))

unfoldable pub relations_at : List Token → Answer (List Relation)
relations_at = all_at starts_relation relation_at

unfoldable pub handlers_at : ℕ → List Token → Answer (List Handler)
handlers_at n = all_at starts_handler (handler_at n)

abbrev pub ClassParts : Type 0
ClassParts = List ℕ × (List (List ℕ) × (List Relation × List Handler))

abbrev pub class_of : ClassParts → Class
class_of parts = record { name = parts.0; ports = parts.1.0; relations = parts.1.1.0; handlers = parts.1.1.1 }

-- the relations and handlers of a class, up to its last brace
unfoldable pub body_at : ℕ → List Token → Answer (List Relation × List Handler)
body_at n = then_at relations_at (before_at (handlers_at n) (Signed signs.CloseBrace))

unfoldable pub class_at : ℕ → List Token → Answer Class
class_at n =
    made_at class_of
    (after_at (Key words.Middlebox)
    (then_at word_at
    (after_at (Signed signs.OpenBrace)
    (after_at (Key words.Port) (then_at names_at (after_at (Signed signs.Semicolon) (body_at n)))))))

-- items and trees, with statements of n levels

unfoldable pub item_at : ℕ → List Token → Answer Item
item_at n tokens =
    if begins (Key words.Kind) tokens then kind_at tokens
    else (if begins (Key words.Field) tokens then field_at tokens
    else (if begins (Key words.Middlebox) tokens then made_at OfClass (class_at n) tokens
    else (if begins (Key words.Host) tokens then host_at tokens
    else (if begins (Key words.Box) tokens then box_at tokens
    else (if begins (Key words.Link) tokens then link_at tokens
    else (if begins (Key words.Sends) tokens then sends_at tokens
    else (if begins (Key words.Forbid) tokens then forbid_at tokens
    else refused tokens)))))))

unfoldable pub items_at : ℕ → List Token → Answer (List Item)
items_at n = all_at starts_item (item_at n)

abbrev pub tree_of : List ℕ × List Item → Tree
tree_of parts = record { name = parts.0; items = parts.1 }

unfoldable pub tree_at : ℕ → List Token → Answer Tree
tree_at n =
    made_at tree_of (after_at (Key words.Network) (then_at word_at (after_at (Signed signs.Semicolon) (items_at n))))
