-- The layout of each part of a tree stands for its spelling.
use Rattle.std.proofs.Common.{◌≡◌, ℕ, true, zero, suc, List, [], ◌∷◌, ◌++◌, map, codes, refl, sym, ap, ◌∙◌}
use Rattle.std.proofs.Common.{append_assoc, append-nil}
use Rattle.std.specs.List.{flat_map, All}
use Rattle.std.proofs.lemmas.List.Elements.{All-head, All-tail}
use Rattle.amdl_tree.specs.Word.{IsName, EndsWord, spelling_of_reserved}
use Rattle.amdl_tree.specs.Token.{spelling_of_sign}
use Rattle.amdl_tree.specs.Layout.{line, indented, joined, layout_of_equal, layout_of_pattern, layout_of_end}
use Rattle.amdl_tree.specs.Layout.{layout_of_atom, layout_of_change, layout_of_changes, lit_written, layout_of_lit}
use Rattle.amdl_tree.specs.Layout.{layout_of_guard, Branch, lines_of_branch, lines_of_choice, stmt_lines}
use Rattle.amdl_tree.specs.Layout.{lines_of_statement, branch_of_alternative, layout_of_relation, lines_of_handler}
use Rattle.amdl_tree.specs.Layout.{layout_of_class, layout_of_first, layout_of_item}
use Rattle.amdl_tree.specs.Layout.{listed as written_list}
use Rattle.amdl_tree.specs.Spelling.{key, mark, word, led, listed, with_commas, spell_of_equal, spell_of_pattern}
use Rattle.amdl_tree.specs.Spelling.{spell_of_end, spell_of_atom, spell_of_change, spell_of_changes, lit_spelled}
use Rattle.amdl_tree.specs.Spelling.{spell_of_lit, spell_of_guard, stmt_spelled, spell_of_statement}
use Rattle.amdl_tree.specs.Spelling.{spell_of_alternative, spell_of_relation, spell_of_handler, spell_of_class}
use Rattle.amdl_tree.specs.Spelling.{spell_of_first, spell_of_item}
use Rattle.amdl_tree.specs.WellBuilt.{OneOrMore, IsBuiltEqual, IsBuiltEnd, IsBuiltAtom, LitLayer, GuardLayer, LitFits}
use Rattle.amdl_tree.specs.WellBuilt.{GuardFits, StmtLayer, AlternativeLayer, StmtFits, IsBuiltRelation, HandlerFits}
use Rattle.amdl_tree.specs.WellBuilt.{ClassFits, IsBuiltItem}
use Rattle.amdl_tree.specs.Laws.{LayoutStands}
use Rattle.amdl_tree.specs.declared.token.Token.{Token}
use Rattle.amdl_tree.specs.declared.token.Token.TheVariants.{Key, Sign as Signed}
use Rattle.amdl_tree.specs.declared.token.Sign.{Sign}
use Rattle.amdl_tree.specs.declared.token.Sign.TheVariants as signs
use Rattle.amdl_tree.specs.declared.reserved.Reserved.{Reserved}
use Rattle.amdl_tree.specs.declared.reserved.Reserved.TheVariants as words
use Rattle.amdl_tree.specs.declared.guard.Atom.{Atom}
use Rattle.amdl_tree.specs.declared.guard.Guard.{Guard}
use Rattle.amdl_tree.specs.declared.guard.Lit.{Lit}
use Rattle.amdl_tree.specs.declared.guard.Lit.TheOpen.{Lit-F}
use Rattle.amdl_tree.specs.declared.guard.Lit.TheViews.{out-Lit}
use Rattle.amdl_tree.specs.declared.statement.Alternative.{Alternative}
use Rattle.amdl_tree.specs.declared.statement.Stmt.{Stmt}
use Rattle.amdl_tree.specs.declared.statement.Stmt.TheOpen.{Stmt-F}
use Rattle.amdl_tree.specs.declared.statement.Stmt.TheViews.{out-Stmt}
use Rattle.amdl_tree.specs.declared.class.Class.{Class}
use Rattle.amdl_tree.specs.declared.class.Handler.{Handler}
use Rattle.amdl_tree.specs.declared.class.Relation.{Relation}
use Rattle.amdl_tree.specs.declared.tree.Equal.{Equal}
use Rattle.amdl_tree.specs.declared.tree.End.{End}
use Rattle.amdl_tree.specs.declared.tree.End.TheVariants.{Host as AtHost, Port as AtPort}
use Rattle.amdl_tree.specs.declared.tree.Item.{Item}
use Rattle.amdl_tree.specs.declared.tree.Item.TheVariants.{Kind, Field, Class as OfClass, Host, Instance, Link, Sends}
use Rattle.amdl_tree.specs.declared.tree.Item.TheVariants.{Forbid}
use Rattle.amdl_tree.proofs.LexemeLemmas.{begins_none}
use Rattle.amdl_tree.proofs.SpellingLemmas.{lit_spelling, guard_spelling, statement_spelling, alternative_spelling}
use Rattle.amdl_tree.proofs.LineLemmas.{lit_layout, guard_layout, statement_lines, alternative_lines}
use Rattle.amdl_tree.proofs.PartLemmas.{Part, Anything, part_then, part_on, part_closed, part_as, part_none, part_blank}
use Rattle.amdl_tree.proofs.PartLemmas.{part_feed, part_name, part_key, part_lead, part_between, part_sign, part_spaced}
use Rattle.amdl_tree.proofs.PartLemmas.{part_colon, part_joined, part_listed, part_names, part_many, part_stands, Lines}
use Rattle.amdl_tree.proofs.PartLemmas.{lines_none, lines_next, lines_one, lines_then, lines_indented, lines_as}
use Rattle.amdl_tree.proofs.PartLemmas.{lines_many, lines_text}

abbrev T : Type 0
T = List Token

-- A part that ends with a word stands where what follows goes on with no word, one that ends with a sign in front of
-- anything.

semicolon : Part Anything (codes ";") (mark signs.Semicolon)
semicolon = part_sign signs.Semicolon refl

open_brace : Part Anything (codes "{") (mark signs.OpenBrace)
open_brace = part_sign signs.OpenBrace refl

close_brace : Part Anything (codes "}") (mark signs.CloseBrace)
close_brace = part_sign signs.CloseBrace refl

open_paren : Part Anything (codes "(") (mark signs.OpenParen)
open_paren = part_sign signs.OpenParen refl

close_paren : Part Anything (codes ")") (mark signs.CloseParen)
close_paren = part_sign signs.CloseParen refl

-- a reserved word and a name
called : (reserved : Reserved) (name : List ℕ) → IsName name →
    Part EndsWord (spelling_of_reserved reserved ++ codes " " ++ name) (key reserved ++ word name)
called reserved name is = part_on (part_lead reserved) (part_name name is)

-- a part up to its semicolon
ended : {a : List ℕ} {k : T} → Part EndsWord a k → Part Anything (a ++ codes ";") (k ++ mark signs.Semicolon)
ended one = part_then one semicolon (λ rest follows. refl)

-- two names with a sign between
paired : (sign : Sign) → begins_none sign ≡ true → (one two : List ℕ) → IsName one → IsName two →
    Part EndsWord (one ++ (codes " " ++ spelling_of_sign sign ++ codes " ") ++ two) (word one ++ mark sign ++ word two)
paired sign none one two p q =
    part_on (part_then (part_name one p) (part_spaced sign none) (λ rest follows. refl)) (part_name two q)

equal_part : (equal : Equal) → IsBuiltEqual equal → Part EndsWord (layout_of_equal equal) (spell_of_equal equal)
equal_part equal p = paired signs.Equals refl equal.field equal.value p.0 p.1

change_part : (change : Equal) → IsBuiltEqual change → Part EndsWord (layout_of_change change) (spell_of_change change)
change_part change p = paired signs.Becomes refl change.field change.value p.0 p.1

pattern_part : (pattern : List Equal) → All IsBuiltEqual pattern →
    Part EndsWord (layout_of_pattern pattern) (spell_of_pattern pattern)
pattern_part [] p = part_key words.True
pattern_part (equal ∷ equals) p = part_listed IsBuiltEqual layout_of_equal spell_of_equal equal_part (equal ∷ equals) p

end_part : (end : End) → IsBuiltEnd end → Part EndsWord (layout_of_end end) (spell_of_end end)
end_part (AtHost host) p = part_name host p
end_part (AtPort box port) p =
    part_on (part_then (part_name box p.0) (part_sign signs.Point refl) (λ rest follows. refl)) (part_name port p.1)

-- names in parentheses behind a part
in_parens : {a : List ℕ} {k : T} (names : List (List ℕ)) → Part EndsWord a k → All IsName names →
    Part Anything (a ++ codes "(" ++ written_list names ++ codes ")")
    (k ++ mark signs.OpenParen ++ with_commas word names ++ mark signs.CloseParen)
in_parens names one p =
    part_then (part_on (part_then one open_paren (λ rest follows. refl)) (part_names names p)) close_paren
    (λ rest follows. refl)

atom_part : (atom : Atom) → IsBuiltAtom atom → Part Anything (layout_of_atom atom) (spell_of_atom atom)
atom_part atom p = in_parens atom.args (part_name atom.relation p.0) p.1.1

-- one layer of a literal, where the literal behind a `not` and the guard of a group stand so
module _ (inner : Lit → Type 0) (group : Guard → Type 0)
    (one : (lit : Lit) → inner lit → Part EndsWord (layout_of_lit lit) (spell_of_lit lit))
    (two : (guard : Guard) → group guard → Part EndsWord (layout_of_guard guard) (spell_of_guard guard)) where
  lit_layer_part : (layer : Lit-F Lit Guard) → LitLayer inner group layer →
      Part EndsWord (lit_written layout_of_lit layout_of_guard layer) (lit_spelled spell_of_lit spell_of_guard layer)
  lit_layer_part Lit-F.True p = part_key words.True
  lit_layer_part (Lit-F.Has atom) p = part_on (part_lead words.Has) (part_closed (atom_part atom p))
  lit_layer_part (Lit-F.Same a b) p = paired signs.Equals refl a b p.0 p.1
  lit_layer_part (Lit-F.Differ a b) p = paired signs.Differs refl a b p.0 p.1
  lit_layer_part (Lit-F.Not lit) p = part_on (part_lead words.Not) (one lit p)
  lit_layer_part (Lit-F.Group guard) p =
      part_closed (part_then (part_on open_paren (two guard p)) close_paren (λ rest follows. refl))

  lit_part_by : (lit : Lit) → LitLayer inner group (out-Lit lit) → Part EndsWord (layout_of_lit lit) (spell_of_lit lit)
  lit_part_by lit p = part_as (lit_layer_part (out-Lit lit) p) (sym (lit_layout lit)) (sym (lit_spelling lit))

guard_part_by : (W : Lit → Type 0) → ((lit : Lit) → W lit → Part EndsWord (layout_of_lit lit) (spell_of_lit lit)) →
    (guard : Guard) → GuardLayer W guard → Part EndsWord (layout_of_guard guard) (spell_of_guard guard)
guard_part_by W one guard p =
    let all =
    λ (lits : List Lit) (q : OneOrMore W lits). part_joined W layout_of_lit spell_of_lit one (codes " and ")
    (Key words.And) (part_between words.And) (λ rest. refl) lits q.1 in
    part_as
    (part_joined (OneOrMore W) (joined (codes " and ") layout_of_lit) (listed (Key words.And) spell_of_lit) all
    (codes " or ") (Key words.Or) (part_between words.Or) (λ rest. refl) guard.any p.1)
    (sym (guard_layout guard)) (sym (guard_spelling guard))

lit_part : (n : ℕ) (lit : Lit) → LitFits n lit → Part EndsWord (layout_of_lit lit) (spell_of_lit lit)
unfolding LitFits
lit_part zero lit p = lit_part_by (λ inner. ⊥) (λ group. ⊥) (λ x no. absurd no) (λ x no. absurd no) lit p
lit_part (suc n) lit p =
    lit_part_by (LitFits n) (GuardLayer (LitFits n)) (lit_part n) (guard_part_by (LitFits n) (lit_part n)) lit p

guard_part : (n : ℕ) (guard : Guard) → GuardFits n guard → Part EndsWord (layout_of_guard guard) (spell_of_guard guard)
guard_part n = guard_part_by (LitFits n) (lit_part n)

changes_part : (changes : List Equal) → All IsBuiltEqual changes →
    Part EndsWord (layout_of_changes changes) (spell_of_changes changes)
changes_part [] p = part_none
changes_part (change ∷ changes) p =
    part_closed
    (part_then
    (part_on (part_on part_blank (part_sign signs.OpenBracket refl))
    (part_listed IsBuiltEqual layout_of_change spell_of_change change_part (change ∷ changes) p))
    (part_sign signs.CloseBracket refl) (λ rest follows. refl))

-- changes begin with a blank, where there are any
changes_end : (changes : List Equal) (rest : List ℕ) → EndsWord rest → EndsWord (layout_of_changes changes ++ rest)
changes_end [] rest follows = follows
changes_end (change ∷ changes) rest follows = refl

-- ` -> {`
arrow : Part Anything (codes " -> {") (mark signs.Arrow ++ mark signs.OpenBrace)
arrow = part_on (part_spaced signs.Arrow refl) open_brace

-- the spelling of an alternative up to its last brace
abbrev opened : Alternative → T
opened alternative =
    spell_of_guard alternative.guard ++ Signed signs.Arrow ∷ Signed signs.OpenBrace
    ∷ flat_map spell_of_statement alternative.body

opened_closed : (alternative : Alternative) →
    spell_of_alternative alternative ≡ opened alternative ++ Signed signs.CloseBrace ∷ []
opened_closed alternative =
    alternative_spelling alternative
    ∙ sym
    (append_assoc (spell_of_guard alternative.guard)
    (Signed signs.Arrow ∷ Signed signs.OpenBrace ∷ flat_map spell_of_statement alternative.body)
    (Signed signs.CloseBrace ∷ []))

-- the alternatives of an `if`, where guards and statements stand so
module _ (V : Guard → Type 0) (W : Stmt → Type 0)
    (guarded : (guard : Guard) → V guard → Part EndsWord (layout_of_guard guard) (spell_of_guard guard))
    (stated : (stmt : Stmt) → W stmt → Lines (lines_of_statement stmt) (spell_of_statement stmt)) where
  -- an alternative behind a text in front of its guard
  branch_stands : (text : List ℕ) (tokens : T) → Part Anything text tokens → (alternative : Alternative) →
      AlternativeLayer V W alternative →
      Lines ((text ++ (branch_of_alternative alternative).guard ++ codes " -> {")
      ∷ indented (branch_of_alternative alternative).block) (tokens ++ opened alternative)
  branch_stands text tokens front alternative p =
      lines_as
      (lines_next
      (part_closed (part_then (part_on front (guarded alternative.guard p.0)) arrow (λ rest follows. refl)))
      (lines_indented (lines_many W lines_of_statement spell_of_statement stated alternative.body p.1)))
      (ap (λ (branch : Branch). (text ++ branch.guard ++ codes " -> {") ∷ indented branch.block)
      (sym (alternative_lines alternative)))
      (simp append_assoc)

  -- the further alternatives, behind the brace that ends the block before them
  others_stand : (alternatives : List Alternative) → All (AlternativeLayer V W) alternatives →
      Lines (flat_map lines_of_branch (map branch_of_alternative alternatives) ++ codes "} fi" ∷ [])
      (Signed signs.CloseBrace ∷ flat_map (led (Signed signs.Bar) spell_of_alternative) alternatives ++ Key words.Fi
      ∷ [])
  others_stand [] p = lines_one (part_on (part_on close_brace part_blank) (part_key words.Fi))
  others_stand (alternative ∷ alternatives) p =
      let front : Part Anything (codes "} | ") (mark signs.CloseBrace ++ mark signs.Bar) = part_on close_brace
      (part_spaced signs.Bar refl) in
      lines_as
      (lines_then
      (branch_stands (codes "} | ") (mark signs.CloseBrace ++ mark signs.Bar) front alternative
      (All-head (AlternativeLayer V W) alternative alternatives p))
      (others_stand alternatives (All-tail (AlternativeLayer V W) alternative alternatives p)))
      (sym (append_assoc (lines_of_branch (branch_of_alternative alternative))
      (flat_map lines_of_branch (map branch_of_alternative alternatives)) (codes "} fi" ∷ [])))
      (rw (opened_closed alternative) (simp append_assoc))

  choice_stands : (alternatives : List Alternative) → All (AlternativeLayer V W) alternatives →
      Lines (lines_of_choice (map branch_of_alternative alternatives))
      (Key words.If ∷ listed (Signed signs.Bar) spell_of_alternative alternatives ++ Key words.Fi ∷ [])
  choice_stands [] p = lines_one (part_on (part_lead words.If) (part_key words.Fi))
  choice_stands (alternative ∷ alternatives) p =
      lines_as
      (lines_then
      (branch_stands (codes "if ") (key words.If) (part_lead words.If) alternative
      (All-head (AlternativeLayer V W) alternative alternatives p))
      (others_stand alternatives (All-tail (AlternativeLayer V W) alternative alternatives p)))
      (sym (append_assoc
      ((codes "if " ++ (branch_of_alternative alternative).guard ++ codes " -> {")
      ∷ indented (branch_of_alternative alternative).block)
      (flat_map lines_of_branch (map branch_of_alternative alternatives)) (codes "} fi" ∷ [])))
      (rw (opened_closed alternative) (simp append_assoc))

-- one layer of a statement, where the alternatives of an `if` and the statements of a block stand so
module _ (branches : List Alternative → Type 0) (block : List Stmt → Type 0)
    (one : (alternatives : List Alternative) → branches alternatives →
    Lines (lines_of_choice (map branch_of_alternative alternatives))
    (Key words.If ∷ listed (Signed signs.Bar) spell_of_alternative alternatives ++ Key words.Fi ∷ []))
    (two : (body : List Stmt) → block body →
    Lines (flat_map lines_of_statement body) (flat_map spell_of_statement body)) where
  stmt_layer_stands : (layer : Stmt-F Stmt Alternative) → StmtLayer branches block layer →
      Lines (stmt_lines lines_of_statement branch_of_alternative layer)
      (stmt_spelled spell_of_statement spell_of_alternative layer)
  stmt_layer_stands (Stmt-F.Insert atom) p =
      lines_one (part_closed (part_on (part_on (part_lead words.Insert) (atom_part atom p)) semicolon))
  stmt_layer_stands (Stmt-F.Remove atom) p =
      lines_one (part_closed (part_on (part_on (part_lead words.Remove) (atom_part atom p)) semicolon))
  stmt_layer_stands Stmt-F.Abort p = lines_one (part_closed (ended (part_key words.Abort)))
  stmt_layer_stands (Stmt-F.Output port changes) p =
      lines_one
      (part_closed (ended (part_then (called words.Output port p.0) (changes_part changes p.1) (changes_end changes))))
  stmt_layer_stands (Stmt-F.Choose alternatives) p = one alternatives p
  stmt_layer_stands (Stmt-F.Pick name kind body) p =
      let picked =
      part_on (part_then (called words.Pick name p.0) part_colon (λ rest follows. refl)) (part_name kind p.1) in
      let head = part_closed (part_then picked (part_on (part_between words.In) open_brace) (λ rest follows. refl)) in
      lines_then (lines_next head (lines_indented (two body p.2))) (lines_one (part_closed close_brace))

  stmt_stands_by : (stmt : Stmt) → StmtLayer branches block (out-Stmt stmt) →
      Lines (lines_of_statement stmt) (spell_of_statement stmt)
  stmt_stands_by stmt p =
      lines_as (stmt_layer_stands (out-Stmt stmt) p) (sym (statement_lines stmt)) (sym (statement_spelling stmt))

stmt_stands : (n : ℕ) (stmt : Stmt) → StmtFits n stmt → Lines (lines_of_statement stmt) (spell_of_statement stmt)
unfolding StmtFits
stmt_stands zero stmt p = stmt_stands_by (λ branches. ⊥) (λ block. ⊥) (λ x no. absurd no) (λ x no. absurd no) stmt p
stmt_stands (suc n) stmt p =
    stmt_stands_by (OneOrMore (AlternativeLayer (GuardFits n) (StmtFits n))) (All (StmtFits n))
    (λ alternatives q. choice_stands (GuardFits n) (StmtFits n) (guard_part n) (stmt_stands n) alternatives q.1)
    (lines_many (StmtFits n) lines_of_statement spell_of_statement (stmt_stands n)) stmt p

-- Classes.

relation_part : (relation : Relation) → IsBuiltRelation relation →
    Part EndsWord (layout_of_relation relation) (spell_of_relation relation)
relation_part relation p =
    let head = part_then (called words.Relation relation.name p.0) open_paren (λ rest follows. refl) in
    part_closed
    (part_then (part_on head (part_names relation.kinds p.1.1)) (part_on close_paren semicolon)
    (λ rest follows. refl))

relations_stand : (relations : List Relation) → All IsBuiltRelation relations →
    Lines (map layout_of_relation relations) (flat_map spell_of_relation relations)
relations_stand [] p = lines_none
relations_stand (relation ∷ relations) p =
    lines_next (relation_part relation (All-head IsBuiltRelation relation relations p))
    (relations_stand relations (All-tail IsBuiltRelation relation relations p))

handler_stands : (n : ℕ) (handler : Handler) → HandlerFits n handler →
    Lines (lines_of_handler handler) (spell_of_handler handler)
handler_stands n handler p =
    let head =
    part_closed
    (part_then (called words.On handler.port p.0) (part_on part_colon open_brace) (λ rest follows. refl)) in
    lines_then
    (lines_next head
    (lines_indented
    (lines_many (StmtFits n) lines_of_statement spell_of_statement (stmt_stands n) handler.body p.1)))
    (lines_one (part_closed close_brace))

class_part : (n : ℕ) (class : Class) → ClassFits n class → Part Anything (layout_of_class class) (spell_of_class class)
class_part n class p =
    let head =
    part_on
    (part_then (called words.Middlebox class.name p.named) (part_on part_blank open_brace)
    (λ rest follows. refl)) part_feed in
    let ports = part_closed (ended (part_on (part_lead words.Port) (part_names class.ports p.ports.1))) in
    let handlers =
    lines_many (HandlerFits n) lines_of_handler spell_of_handler (handler_stands n) class.handlers p.handlers in
    let within = lines_then (lines_next ports (relations_stand class.relations p.relations)) handlers in
    part_as (part_on (part_on head (lines_text (lines_indented within))) close_brace) refl (simp append_assoc)

-- Items.

first_part : (first : List Atom) → All IsBuiltAtom first → Part EndsWord (layout_of_first first) (spell_of_first first)
first_part [] p = part_none
first_part (atom ∷ atoms) p =
    part_on (part_between words.With)
    (part_listed IsBuiltAtom layout_of_atom spell_of_atom (λ x q. part_closed (atom_part x q)) (atom ∷ atoms) p)

first_ends : (first : List Atom) (rest : List ℕ) → EndsWord rest → EndsWord (layout_of_first first ++ rest)
first_ends [] rest follows = follows
first_ends (atom ∷ atoms) rest follows = refl

-- a host and a pattern
claim_part : (reserved : Reserved) (host : List ℕ) (pattern : List Equal) → IsName host → All IsBuiltEqual pattern →
    Part Anything
    (spelling_of_reserved reserved ++ codes " " ++ host ++ codes " : " ++ layout_of_pattern pattern ++ codes ";")
    (key reserved ++ word host ++ mark signs.Colon ++ spell_of_pattern pattern ++ mark signs.Semicolon)
claim_part reserved host pattern p q =
    ended (part_on (part_then (called reserved host p) part_colon (λ rest follows. refl)) (pattern_part pattern q))

item_part : (item : Item) → IsBuiltItem item → Part Anything (layout_of_item item) (spell_of_item item)
item_part (Kind name values) p =
    let head =
    part_then (called words.Kind name p.0) (part_on (part_spaced signs.Equals refl) open_brace)
    (λ rest follows. refl) in
    part_then (part_on head (part_names values p.2)) (part_on close_brace semicolon) (λ rest follows. refl)
item_part (Field name kind) p =
    ended (part_on (part_then (called words.Field name p.0) part_colon (λ rest follows. refl)) (part_name kind p.1))
item_part (OfClass class) p = class_part p.0 class p.1
item_part (Host name) p = ended (called words.Host name p)
item_part (Instance name class first) p =
    let head =
    part_on (part_then (called words.Box name p.0) part_colon (λ rest follows. refl)) (part_name class p.1) in
    ended (part_then head (first_part first p.2) (first_ends first))
item_part (Link one two) p =
    let head =
    part_then (part_on (part_lead words.Link) (end_part one p.0)) (part_spaced signs.Dashes refl)
    (λ rest follows. refl) in
    part_as (ended (part_on head (end_part two p.1))) refl (simp append_assoc)
item_part (Sends host pattern) p = claim_part words.Sends host pattern p.0 p.1
item_part (Forbid host pattern) p = claim_part words.Forbid host pattern p.0 p.1

-- The tree.

item_line : (item : Item) → IsBuiltItem item → Part Anything (line (layout_of_item item)) (spell_of_item item)
item_line item p = part_as (part_on (item_part item p) part_feed) refl (append-nil (spell_of_item item))

pub tree_stands : LayoutStands
tree_stands tree p =
    let head = part_on (ended (called words.Network tree.name p.named)) part_feed in
    part_stands
    (part_on head
    (part_many IsBuiltItem (λ item. line (layout_of_item item)) spell_of_item item_line tree.items p.items))
