-- The canonical layout: how each part of a network text is written.
use Rattle.std.specs.Prelude.{ℕ, List, [], ◌∷◌, ◌++◌, codes, map}
use Rattle.std.specs.List.{flat_map}
use Rattle.amdl_tree.specs.declared.guard.Atom.{Atom}
use Rattle.amdl_tree.specs.declared.guard.Guard.{Guard}
use Rattle.amdl_tree.specs.declared.guard.Lit.{Lit}
use Rattle.amdl_tree.specs.declared.guard.Lit.TheOpen.{Lit-F, Guard-F}
use Rattle.amdl_tree.specs.declared.guard.Lit.TheFolds.{fold-Lit, fold-Guard}
use Rattle.amdl_tree.specs.declared.statement.Alternative.{Alternative}
use Rattle.amdl_tree.specs.declared.statement.Stmt.{Stmt}
use Rattle.amdl_tree.specs.declared.statement.Stmt.TheOpen.{Stmt-F, Alternative-F}
use Rattle.amdl_tree.specs.declared.statement.Stmt.TheFolds.{fold-Stmt, fold-Alternative}
use Rattle.amdl_tree.specs.declared.class.Class.{Class}
use Rattle.amdl_tree.specs.declared.class.Handler.{Handler}
use Rattle.amdl_tree.specs.declared.class.Relation.{Relation}
use Rattle.amdl_tree.specs.declared.tree.Equal.{Equal}
use Rattle.amdl_tree.specs.declared.tree.End.{End}
use Rattle.amdl_tree.specs.declared.tree.End.TheVariants.{Host as AtHost, Port as AtPort}
use Rattle.amdl_tree.specs.declared.tree.Item.{Item}
use Rattle.amdl_tree.specs.declared.tree.Item.TheVariants.{Kind, Field, Class as OfClass, Host, Instance, Link, Sends}
use Rattle.amdl_tree.specs.declared.tree.Item.TheVariants.{Forbid}
use Rattle.amdl_tree.specs.declared.tree.Tree.{Tree}

-- a line of text: each ends with a line feed
abbrev pub line : List ℕ → List ℕ
line text = text ++ 10 ∷ []

-- a line two blanks further in
abbrev pub further_in : List ℕ → List ℕ
further_in text = codes "  " ++ text

-- each line two blanks further in
abbrev pub indented : List (List ℕ) → List (List ℕ)
indented = map further_in

-- a part with a text in front of it
abbrev pub behind_text : {A : Type 0} → List ℕ → (A → List ℕ) → A → List ℕ
behind_text text written part = text ++ written part

-- the parts, with a text between
abbrev pub joined : {A : Type 0} → List ℕ → (A → List ℕ) → List A → List ℕ
joined text written [] = []
joined text written (part ∷ parts) = written part ++ flat_map (behind_text text written) parts

-- the pieces, with a comma and a blank between
abbrev pub listed : List (List ℕ) → List ℕ
listed [] = []
listed (piece ∷ pieces) = piece ++ flat_map (λ p. codes ", " ++ p) pieces

abbrev pub layout_of_equal : Equal → List ℕ
layout_of_equal equal = equal.field ++ codes " = " ++ equal.value

-- a pattern without equations is written `true`
abbrev pub layout_of_pattern : List Equal → List ℕ
layout_of_pattern [] = codes "true"
layout_of_pattern (equal ∷ equals) = listed (map layout_of_equal (equal ∷ equals))

abbrev pub layout_of_end : End → List ℕ
layout_of_end (AtHost host) = host
layout_of_end (AtPort box port) = box ++ codes "." ++ port

abbrev pub layout_of_atom : Atom → List ℕ
layout_of_atom atom = atom.relation ++ codes "(" ++ listed atom.args ++ codes ")"

abbrev pub layout_of_change : Equal → List ℕ
layout_of_change change = change.field ++ codes " := " ++ change.value

-- a literal, given how the literal behind a `not` and the guard of a group are written
abbrev pub lit_written : {L G : Type 0} → (L → List ℕ) → (G → List ℕ) → Lit-F L G → List ℕ
lit_written literal guarded Lit-F.True = codes "true"
lit_written literal guarded (Lit-F.Has atom) = codes "has " ++ layout_of_atom atom
lit_written literal guarded (Lit-F.Same one two) = one ++ codes " = " ++ two
lit_written literal guarded (Lit-F.Differ one two) = one ++ codes " != " ++ two
lit_written literal guarded (Lit-F.Not lit) = codes "not " ++ literal lit
lit_written literal guarded (Lit-F.Group guard) = codes "(" ++ guarded guard ++ codes ")"

abbrev pub guard_written : {L : Type 0} → (L → List ℕ) → List (List L) → List ℕ
guard_written literal any = joined (codes " or ") (joined (codes " and ") literal) any

-- what is written already
abbrev pub as_written : {A : Type 0} → A → A
as_written text = text

-- one layer, whose parts are written already
abbrev pub written_lit : Lit-F (List ℕ) (List ℕ) → List ℕ
written_lit = lit_written as_written as_written

abbrev pub written_guard : Guard-F (List ℕ) (List ℕ) → List ℕ
written_guard guard = guard_written as_written guard.any

unfoldable pub layout_of_lit : Lit → List ℕ
layout_of_lit = fold-Lit (List ℕ) (List ℕ) written_lit written_guard

unfoldable pub layout_of_guard : Guard → List ℕ
layout_of_guard = fold-Guard (List ℕ) (List ℕ) written_lit written_guard

-- a guard, and the lines of the block behind it
pub record Branch : Type 0 where
  pub guard : List ℕ
  pub block : List (List ℕ)

-- without changes the brackets are left out
abbrev pub layout_of_changes : List Equal → List ℕ
layout_of_changes [] = []
layout_of_changes (change ∷ changes) = codes " [" ++ listed (map layout_of_change (change ∷ changes)) ++ codes "]"

-- one more alternative, behind the brace that ends the block before it
abbrev pub lines_of_branch : Branch → List (List ℕ)
lines_of_branch branch = (codes "} | " ++ branch.guard ++ codes " -> {") ∷ indented branch.block

-- an `if`, which begins with its first alternative; one without alternatives stands in no text
abbrev pub lines_of_choice : List Branch → List (List ℕ)
lines_of_choice [] = codes "if fi" ∷ []
lines_of_choice (branch ∷ branches) =
    (codes "if " ++ branch.guard ++ codes " -> {") ∷ indented branch.block ++ flat_map lines_of_branch branches
    ++ codes "} fi" ∷ []

-- the lines of a statement, given those of the statements of a block and of the alternatives of an `if`
abbrev pub stmt_lines : {S A : Type 0} → (S → List (List ℕ)) → (A → Branch) → Stmt-F S A → List (List ℕ)
stmt_lines stated branched (Stmt-F.Insert atom) = (codes "insert " ++ layout_of_atom atom ++ codes ";") ∷ []
stmt_lines stated branched (Stmt-F.Remove atom) = (codes "remove " ++ layout_of_atom atom ++ codes ";") ∷ []
stmt_lines stated branched Stmt-F.Abort = codes "abort;" ∷ []
stmt_lines stated branched (Stmt-F.Output port changes) =
    (codes "output " ++ port ++ layout_of_changes changes ++ codes ";") ∷ []
stmt_lines stated branched (Stmt-F.Choose alternatives) = lines_of_choice (map branched alternatives)
stmt_lines stated branched (Stmt-F.Pick name kind body) =
    (codes "pick " ++ name ++ codes " : " ++ kind ++ codes " in {") ∷ indented (flat_map stated body) ++ codes "}" ∷ []

abbrev pub branch_lines : {S : Type 0} → (S → List (List ℕ)) → Guard → List S → Branch
branch_lines stated guard body = record { guard = layout_of_guard guard; block = flat_map stated body }

-- one layer, whose parts are written already
abbrev pub written_stmt : Stmt-F (List (List ℕ)) Branch → List (List ℕ)
written_stmt = stmt_lines as_written as_written

abbrev pub written_alternative : Alternative-F (List (List ℕ)) Branch → Branch
written_alternative alternative = branch_lines as_written alternative.guard alternative.body

unfoldable pub lines_of_statement : Stmt → List (List ℕ)
lines_of_statement = fold-Stmt (List (List ℕ)) Branch written_stmt written_alternative

unfoldable pub branch_of_alternative : Alternative → Branch
branch_of_alternative = fold-Alternative (List (List ℕ)) Branch written_stmt written_alternative

abbrev pub layout_of_relation : Relation → List ℕ
layout_of_relation relation = codes "relation " ++ relation.name ++ codes "(" ++ listed relation.kinds ++ codes ");"

abbrev pub lines_of_handler : Handler → List (List ℕ)
lines_of_handler handler =
    (codes "on " ++ handler.port ++ codes " : {") ∷ indented (flat_map lines_of_statement handler.body) ++ codes "}"
    ∷ []

-- the lines between the head of a class and its last brace
abbrev pub lines_within_class : Class → List (List ℕ)
lines_within_class class =
    (codes "port " ++ listed class.ports ++ codes ";") ∷ map layout_of_relation class.relations
    ++ flat_map lines_of_handler class.handlers

-- the last line of a class, as of each item, is without its line feed here
abbrev pub layout_of_class : Class → List ℕ
layout_of_class class =
    line
    (codes "middlebox " ++ class.name ++ codes " {") ++ flat_map line (indented (lines_within_class class)) ++ codes "}"

-- the tuples that a box starts with; without any, `with` is left out
abbrev pub layout_of_first : List Atom → List ℕ
layout_of_first [] = []
layout_of_first (atom ∷ atoms) = codes " with " ++ listed (map layout_of_atom (atom ∷ atoms))

abbrev pub layout_of_item : Item → List ℕ
layout_of_item (Kind name values) = codes "type " ++ name ++ codes " = {" ++ listed values ++ codes "};"
layout_of_item (Field name kind) = codes "field " ++ name ++ codes " : " ++ kind ++ codes ";"
layout_of_item (OfClass class) = layout_of_class class
layout_of_item (Host name) = codes "host " ++ name ++ codes ";"
layout_of_item (Instance name class first) =
    codes "box " ++ name ++ codes " : " ++ class ++ layout_of_first first ++ codes ";"
layout_of_item (Link one two) = codes "link " ++ layout_of_end one ++ codes " -- " ++ layout_of_end two ++ codes ";"
layout_of_item (Sends host pattern) = codes "sends " ++ host ++ codes " : " ++ layout_of_pattern pattern ++ codes ";"
layout_of_item (Forbid host pattern) = codes "forbid " ++ host ++ codes " : " ++ layout_of_pattern pattern ++ codes ";"

-- the head line, then each item in order, of which all but a class are one line
abbrev pub layout_of_tree : Tree → List ℕ
layout_of_tree tree =
    line (codes "network " ++ tree.name ++ codes ";") ++ flat_map (λ item. line (layout_of_item item)) tree.items
