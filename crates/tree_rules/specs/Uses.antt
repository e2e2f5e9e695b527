-- What the handlers of a class use, in the order of the text, each with the picks that are open around it.
pub use Rattle.tree_rules.specs.declared.opened.Opened.{Opened}
use Rattle.std.specs.Prelude.{ℕ, List, [], ◌∷◌, ◌++◌, flat_map}
use Rattle.amdl_tree.specs.declared.guard.Atom.{Atom}
use Rattle.amdl_tree.specs.declared.guard.Guard.{Guard}
use Rattle.amdl_tree.specs.declared.guard.Lit.{Lit}
use Rattle.amdl_tree.specs.declared.guard.Lit.TheOpen.{Lit-F, Guard-F}
use Rattle.amdl_tree.specs.declared.guard.Lit.TheFolds.{fold-Lit, fold-Guard}
use Rattle.amdl_tree.specs.declared.statement.Alternative.{Alternative}
use Rattle.amdl_tree.specs.declared.statement.Stmt.{Stmt}
use Rattle.amdl_tree.specs.declared.statement.Stmt.TheOpen.{Stmt-F, Alternative-F}
use Rattle.amdl_tree.specs.declared.statement.Stmt.TheFolds.{fold-Stmt, fold-Alternative}
use Rattle.amdl_tree.specs.declared.class.Handler.{Handler}
use Rattle.amdl_tree.specs.declared.tree.Equal.{Equal}

-- one use, within these picks, the outermost first
pub data Use : Type 0 where
  -- a relation with its arguments
  OfAtom : List Opened → Atom → Use
  -- two expressions that are compared
  OfPair : List Opened → List ℕ → List ℕ → Use
  -- the port of an output, with the changes
  OfOutput : List Opened → List ℕ → List Equal → Use
  -- a pick with its type
  OfPick : List Opened → List ℕ → List ℕ → Use

-- what a part uses within some picks
abbrev pub Uses : Type 0
Uses = List Opened → List Use

-- the uses of parts in a row
abbrev pub all_uses : {A : Type 0} → (A → Uses) → List A → Uses
all_uses part parts opened = flat_map (λ one. part one opened) parts

-- a literal, given the uses of the literal behind a `not` and of the guard of a group
abbrev pub lit_uses : {L G : Type 0} → (L → Uses) → (G → Uses) → Lit-F L G → Uses
lit_uses literal guarded Lit-F.True opened = []
lit_uses literal guarded (Lit-F.Has atom) opened = OfAtom opened atom ∷ []
lit_uses literal guarded (Lit-F.Same one two) opened = OfPair opened one two ∷ []
lit_uses literal guarded (Lit-F.Differ one two) opened = OfPair opened one two ∷ []
lit_uses literal guarded (Lit-F.Not lit) opened = literal lit opened
lit_uses literal guarded (Lit-F.Group guard) opened = guarded guard opened

abbrev pub guard_uses : {L : Type 0} → (L → Uses) → List (List L) → Uses
guard_uses literal any opened = all_uses (all_uses literal) any opened

-- a statement, given the uses of the statements of a block and of the alternatives of an `if`
abbrev pub stmt_uses : {S A : Type 0} → (S → Uses) → (A → Uses) → Stmt-F S A → Uses
stmt_uses stated branched (Stmt-F.Insert atom) opened = OfAtom opened atom ∷ []
stmt_uses stated branched (Stmt-F.Remove atom) opened = OfAtom opened atom ∷ []
stmt_uses stated branched Stmt-F.Abort opened = []
stmt_uses stated branched (Stmt-F.Output port changes) opened = OfOutput opened port changes ∷ []
stmt_uses stated branched (Stmt-F.Choose alternatives) opened = all_uses branched alternatives opened
stmt_uses stated branched (Stmt-F.Pick name kind body) opened =
    OfPick opened name kind ∷ all_uses stated body (opened ++ record { name = name; kind = kind } ∷ [])

-- what is a list of uses already
abbrev pub as_they_are : Uses → Uses
as_they_are uses = uses

-- one layer, the uses of whose parts are known
abbrev pub lit_used : Lit-F Uses Uses → Uses
lit_used = lit_uses as_they_are as_they_are

abbrev pub guard_used : Guard-F Uses Uses → Uses
guard_used guard = guard_uses as_they_are guard.any

unfoldable pub uses_of_lit : Lit → Uses
uses_of_lit = fold-Lit Uses Uses lit_used guard_used

unfoldable pub uses_of_guard : Guard → Uses
uses_of_guard = fold-Guard Uses Uses lit_used guard_used

-- the guard of an alternative comes before its block
abbrev pub branch_uses : {S : Type 0} → (S → Uses) → Guard → List S → Uses
branch_uses stated guard body opened = uses_of_guard guard opened ++ all_uses stated body opened

abbrev pub stmt_used : Stmt-F Uses Uses → Uses
stmt_used = stmt_uses as_they_are as_they_are

abbrev pub alternative_used : Alternative-F Uses Uses → Uses
alternative_used alternative = branch_uses as_they_are alternative.guard alternative.body

unfoldable pub uses_of_statement : Stmt → Uses
uses_of_statement = fold-Stmt Uses Uses stmt_used alternative_used

unfoldable pub uses_of_alternative : Alternative → Uses
uses_of_alternative = fold-Alternative Uses Uses stmt_used alternative_used

-- the uses of a block, of a handler and of all handlers of a class, with no pick around them
abbrev pub uses_of_body : List Stmt → Uses
uses_of_body body = all_uses uses_of_statement body

abbrev pub uses_of_handlers : List Handler → List Use
uses_of_handlers handlers = flat_map (λ handler. uses_of_body handler.body []) handlers
