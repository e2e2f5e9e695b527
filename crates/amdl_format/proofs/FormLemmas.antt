-- How each form of a literal and of a statement is written.
use Rattle.std.proofs.Common.{◌≡◌, ℕ, ◌+◌, ◌<◌, ◌≤◌, false, nat_eq, List, [], ◌∷◌, ◌++◌, length, drop, get_or, map}
use Rattle.std.proofs.Common.{codes, refl, sym, ap, ◌∙◌, append_assoc, append-nil}
use Rattle.std.specs.List.{flat_map}
use Rattle.std.proofs.lemmas.List.{drop_all}
use Rattle.amdl_tree.specs.Layout.{Branch, indented, lines_of_branch, lit_written, layout_of_atom, layout_of_changes}
use Rattle.amdl_tree.specs.Layout.{layout_of_lit, layout_of_guard, lines_of_choice, stmt_lines, lines_of_statement}
use Rattle.amdl_tree.specs.Layout.{branch_of_alternative}
use Rattle.amdl_tree.specs.declared.guard.Atom.{Atom}
use Rattle.amdl_tree.specs.declared.guard.Guard.{Guard}
use Rattle.amdl_tree.specs.declared.guard.Lit.{Lit}
use Rattle.amdl_tree.specs.declared.guard.Lit.TheVariants.{True, Has, Same, Differ, Not, Group}
use Rattle.amdl_tree.specs.declared.guard.Lit.TheOpen.{Lit-F}
use Rattle.amdl_tree.specs.declared.guard.Lit.TheViews.{outs-True, outs-Has, outs-Same, outs-Differ, outs-Not}
use Rattle.amdl_tree.specs.declared.guard.Lit.TheViews.{outs-Group}
use Rattle.amdl_tree.specs.declared.statement.Alternative.{Alternative}
use Rattle.amdl_tree.specs.declared.statement.Stmt.{Stmt}
use Rattle.amdl_tree.specs.declared.statement.Stmt.TheVariants.{Insert, Remove, Abort, Output, Choose, Pick}
use Rattle.amdl_tree.specs.declared.statement.Stmt.TheOpen.{Stmt-F}
use Rattle.amdl_tree.specs.declared.statement.Stmt.TheViews.{outs-Insert, outs-Remove, outs-Abort, outs-Output}
use Rattle.amdl_tree.specs.declared.statement.Stmt.TheViews.{outs-Choose, outs-Pick}
use Rattle.amdl_tree.specs.declared.tree.Equal.{Equal}
use Rattle.amdl_tree.proofs.LineLemmas.{lit_layout, statement_lines, alternative_lines}
use Rattle.amdl_format.specs.Lines.{line_at, text_at, branch_behind, branches_behind}
use Rattle.amdl_format.proofs.LineLemmas.{text_append}
use Rattle.amdl_format.proofs.ListLemmas.{next_part}

abbrev written : Lit-F Lit Guard → List ℕ
written = lit_written layout_of_lit layout_of_guard

pub true_text : layout_of_lit True ≡ codes "true"
true_text = lit_layout True ∙ ap written outs-True

pub has_text : (atom : Atom) → layout_of_lit (Has atom) ≡ codes "has " ++ layout_of_atom atom
has_text atom = lit_layout (Has atom) ∙ ap written (outs-Has atom)

pub same_text : (one two : List ℕ) → layout_of_lit (Same one two) ≡ one ++ codes " = " ++ two
same_text one two = lit_layout (Same one two) ∙ ap written (outs-Same one two)

pub differ_text : (one two : List ℕ) → layout_of_lit (Differ one two) ≡ one ++ codes " != " ++ two
differ_text one two = lit_layout (Differ one two) ∙ ap written (outs-Differ one two)

pub not_text : (lit : Lit) → layout_of_lit (Not lit) ≡ codes "not " ++ layout_of_lit lit
not_text lit = lit_layout (Not lit) ∙ ap written (outs-Not lit)

pub group_text : (guard : Guard) → layout_of_lit (Group guard) ≡ codes "(" ++ layout_of_guard guard ++ codes ")"
group_text guard = lit_layout (Group guard) ∙ ap written (outs-Group guard)

-- the text of a statement of which this is one layer
abbrev laid : ℕ → Stmt-F Stmt Alternative → List ℕ
laid level layer = text_at level (stmt_lines lines_of_statement branch_of_alternative layer)

pub insert_text : (level : ℕ) (atom : Atom) →
    text_at level (lines_of_statement (Insert atom))
    ≡ line_at level (codes "insert " ++ layout_of_atom atom ++ codes ";")
insert_text level atom =
    ap (text_at level) (statement_lines (Insert atom)) ∙ ap (laid level) (outs-Insert atom)
    ∙ append-nil (line_at level (codes "insert " ++ layout_of_atom atom ++ codes ";"))

pub remove_text : (level : ℕ) (atom : Atom) →
    text_at level (lines_of_statement (Remove atom))
    ≡ line_at level (codes "remove " ++ layout_of_atom atom ++ codes ";")
remove_text level atom =
    ap (text_at level) (statement_lines (Remove atom)) ∙ ap (laid level) (outs-Remove atom)
    ∙ append-nil (line_at level (codes "remove " ++ layout_of_atom atom ++ codes ";"))

pub abort_text : (level : ℕ) → text_at level (lines_of_statement Abort) ≡ line_at level (codes "abort;")
abort_text level =
    ap (text_at level) (statement_lines Abort) ∙ ap (laid level) outs-Abort
    ∙ append-nil (line_at level (codes "abort;"))

pub output_text : (level : ℕ) (port : List ℕ) (changes : List Equal) →
    text_at level (lines_of_statement (Output port changes))
    ≡ line_at level (codes "output " ++ port ++ layout_of_changes changes ++ codes ";")
output_text level port changes =
    ap (text_at level) (statement_lines (Output port changes)) ∙ ap (laid level) (outs-Output port changes)
    ∙ append-nil (line_at level (codes "output " ++ port ++ layout_of_changes changes ++ codes ";"))

pub choose_text : (level : ℕ) (alternatives : List Alternative) →
    text_at level (lines_of_statement (Choose alternatives))
    ≡ text_at level (lines_of_choice (map branch_of_alternative alternatives))
choose_text level alternatives =
    ap (text_at level) (statement_lines (Choose alternatives)) ∙ ap (laid level) (outs-Choose alternatives)

pub pick_text : (level : ℕ) (name kind : List ℕ) (body : List Stmt) →
    text_at level (lines_of_statement (Pick name kind body))
    ≡ text_at level
    ((codes "pick " ++ name ++ codes " : " ++ kind ++ codes " in {") ∷ indented (flat_map lines_of_statement body)
    ++ codes "}" ∷ [])
pick_text level name kind body =
    ap (text_at level) (statement_lines (Pick name kind body)) ∙ ap (laid level) (outs-Pick name kind body)

pub branch_text : (level : ℕ) (first : List ℕ) (alternative : Alternative) →
    text_at level (branch_behind first (branch_of_alternative alternative))
    ≡ line_at level
    (first ++ layout_of_guard alternative.guard ++ codes " -> {")
    ++ text_at level (indented (flat_map lines_of_statement alternative.body))
branch_text level first alternative =
    ap (λ branch. text_at level (branch_behind first branch)) (alternative_lines alternative)

-- behind the first alternative each begins with the brace that ends the block before it
branches_alike : (branches : List Branch) → branches_behind (codes "} | ") branches ≡ flat_map lines_of_branch branches
branches_alike [] = refl
branches_alike (branch ∷ branches) = refl

-- the next alternative is written
pub branches_step : (level : ℕ) (first : List ℕ) (parts : List Alternative) (i : ℕ) (part : Alternative)
    (out new whole : List ℕ) →
    i < length parts → part ≡ get_or parts i part →
    out ++ text_at level (branches_behind first (map branch_of_alternative (drop i parts))) ≡ whole →
    new ≡ out ++ text_at level (branch_behind first (branch_of_alternative part)) →
    new ++ text_at level (branches_behind (codes "} | ") (map branch_of_alternative (drop (i + 1) parts))) ≡ whole
branches_step level first parts i part out new whole inside here before appended =
    let head = branch_behind first (branch_of_alternative part) in
    let branches = map branch_of_alternative (drop (i + 1) parts) in
    let others = flat_map lines_of_branch branches in
    ap (λ t. new ++ text_at level t) (branches_alike branches) ∙ ap (λ t. t ++ text_at level others) appended
    ∙ append_assoc out (text_at level head) (text_at level others)
    ∙ ap (λ t. out ++ t) (sym (text_append level head others))
    ∙ ap (λ t. out ++ text_at level (branches_behind first (map branch_of_alternative t)))
    (sym (next_part parts i part inside here)) ∙ before

-- when all alternatives are written, nothing is left
pub branches_done : (level : ℕ) (first : List ℕ) (parts : List Alternative) (i : ℕ) (out whole : List ℕ) →
    length parts ≤ i →
    out ++ text_at level (branches_behind first (map branch_of_alternative (drop i parts))) ≡ whole → out ≡ whole
branches_done level first parts i out whole all before =
    sym (append-nil out)
    ∙ ap (λ t. out ++ text_at level (branches_behind first (map branch_of_alternative t)))
    (sym (drop_all i parts all)) ∙ before

-- an `if` is its alternatives and its last line
pub choice_parts : (level : ℕ) (alternatives : List Alternative) → nat_eq (length alternatives) 0 ≡ false →
    text_at level (lines_of_choice (map branch_of_alternative alternatives))
    ≡ text_at level (branches_behind (codes "if ") (map branch_of_alternative alternatives))
    ++ line_at level (codes "} fi")
choice_parts level [] some = absurd (cc)
choice_parts level (alternative ∷ alternatives) some =
    let branches = branches_behind (codes "if ") (map branch_of_alternative (alternative ∷ alternatives)) in
    text_append level branches (codes "} fi" ∷ [])
    ∙ ap (λ t. text_at level branches ++ t) (append-nil (line_at level (codes "} fi")))
