-- What each part of a handler uses, one equation for each kind of part.
use Rattle.std.proofs.Common.{◌≡◌, List, [], ◌∷◌, ◌++◌, map, refl, ap, ◌∙◌}
use Rattle.amdl_tree.specs.declared.guard.Guard.{Guard}
use Rattle.amdl_tree.specs.declared.guard.Lit.{Lit}
use Rattle.amdl_tree.specs.declared.guard.Lit.TheOpen.{Lit-F}
use Rattle.amdl_tree.specs.declared.guard.Lit.TheViews.{out-Lit}
use Rattle.amdl_tree.specs.declared.guard.Lit.TheFolds.{map-Lit, fold_out-Lit, fold_out-Guard}
use Rattle.amdl_tree.specs.declared.statement.Alternative.{Alternative}
use Rattle.amdl_tree.specs.declared.statement.Stmt.{Stmt}
use Rattle.amdl_tree.specs.declared.statement.Stmt.TheOpen.{Stmt-F}
use Rattle.amdl_tree.specs.declared.statement.Stmt.TheViews.{out-Stmt}
use Rattle.amdl_tree.specs.declared.statement.Stmt.TheFolds.{map-Stmt, fold_out-Stmt, fold_out-Alternative}
use Rattle.tree_rules.specs.Uses.{Opened, OfPick, Uses, all_uses, as_they_are, lit_uses, guard_uses, stmt_uses}
use Rattle.tree_rules.specs.Uses.{branch_uses, lit_used, guard_used, stmt_used, alternative_used, uses_of_lit}
use Rattle.tree_rules.specs.Uses.{uses_of_guard, uses_of_statement, uses_of_alternative}
use Rattle.tree_rules.specs.Laws.{UsesAreRead}

-- parts whose uses are taken first, and then those of all together
all_uses-map : {A B : Type 0} (g : B → Uses) (f : A → B) (xs : List A) (opened : List Opened) →
    all_uses g (map f xs) opened ≡ all_uses (λ x. g (f x)) xs opened
all_uses-map g f [] opened = refl
all_uses-map g f (x ∷ xs) opened = ap (λ uses. g (f x) opened ++ uses) (all_uses-map g f xs opened)

all_uses-same : {A : Type 0} (g h : A → Uses) (opened : List Opened) → ((x : A) → g x opened ≡ h x opened) →
    (xs : List A) → all_uses g xs opened ≡ all_uses h xs opened
all_uses-same g h opened same [] = refl
all_uses-same g h opened same (x ∷ xs) = λ i. same x i ++ all_uses-same g h opened same xs i

lit_laid : (layer : Lit-F Lit Guard) (opened : List Opened) →
    lit_used (map-Lit Lit Guard Uses Uses uses_of_lit uses_of_guard layer) opened
    ≡ lit_uses uses_of_lit uses_of_guard layer opened
lit_laid Lit-F.True opened = refl
lit_laid (Lit-F.Has atom) opened = refl
lit_laid (Lit-F.Same one two) opened = refl
lit_laid (Lit-F.Differ one two) opened = refl
lit_laid (Lit-F.Not lit) opened = refl
lit_laid (Lit-F.Group guard) opened = refl

pub literal_uses : (lit : Lit) (opened : List Opened) →
    uses_of_lit lit opened ≡ lit_uses uses_of_lit uses_of_guard (out-Lit lit) opened
unfolding uses_of_lit uses_of_guard
literal_uses lit opened =
    ap (λ uses. uses opened) (fold_out-Lit Uses Uses lit_used guard_used lit) ∙ lit_laid (out-Lit lit) opened

lists_laid : (any : List (List Lit)) (opened : List Opened) →
    all_uses (all_uses as_they_are) (map (map uses_of_lit) any) opened ≡ all_uses (all_uses uses_of_lit) any opened
lists_laid any opened =
    all_uses-map (all_uses as_they_are) (map uses_of_lit) any opened
    ∙ all_uses-same (λ lits. all_uses as_they_are (map uses_of_lit lits)) (all_uses uses_of_lit) opened
    (λ lits. all_uses-map as_they_are uses_of_lit lits opened) any

pub guard_uses_are : (guard : Guard) (opened : List Opened) →
    uses_of_guard guard opened ≡ guard_uses uses_of_lit guard.any opened
unfolding uses_of_lit uses_of_guard
guard_uses_are guard opened =
    ap (λ uses. uses opened) (fold_out-Guard Uses Uses lit_used guard_used guard) ∙ lists_laid guard.any opened

stmt_laid : (layer : Stmt-F Stmt Alternative) (opened : List Opened) →
    stmt_used (map-Stmt Stmt Alternative Uses Uses uses_of_statement uses_of_alternative layer) opened
    ≡ stmt_uses uses_of_statement uses_of_alternative layer opened
stmt_laid (Stmt-F.Insert atom) opened = refl
stmt_laid (Stmt-F.Remove atom) opened = refl
stmt_laid Stmt-F.Abort opened = refl
stmt_laid (Stmt-F.Output port changes) opened = refl
stmt_laid (Stmt-F.Choose alternatives) opened = all_uses-map as_they_are uses_of_alternative alternatives opened
stmt_laid (Stmt-F.Pick name kind body) opened =
    ap (λ uses. OfPick opened name kind ∷ uses)
    (all_uses-map as_they_are uses_of_statement body (opened ++ record { name = name; kind = kind } ∷ []))

pub statement_uses : (stmt : Stmt) (opened : List Opened) →
    uses_of_statement stmt opened ≡ stmt_uses uses_of_statement uses_of_alternative (out-Stmt stmt) opened
unfolding uses_of_statement uses_of_alternative
statement_uses stmt opened =
    ap (λ uses. uses opened) (fold_out-Stmt Uses Uses stmt_used alternative_used stmt)
    ∙ stmt_laid (out-Stmt stmt) opened

pub alternative_uses : (alternative : Alternative) (opened : List Opened) →
    uses_of_alternative alternative opened ≡ branch_uses uses_of_statement alternative.guard alternative.body opened
unfolding uses_of_statement uses_of_alternative
alternative_uses alternative opened =
    ap (λ uses. uses opened) (fold_out-Alternative Uses Uses stmt_used alternative_used alternative)
    ∙ ap (λ uses. uses_of_guard alternative.guard opened ++ uses)
    (all_uses-map as_they_are uses_of_statement alternative.body opened)

pub uses_are_read : UsesAreRead
uses_are_read = record {
  literal = literal_uses;
  guard = guard_uses_are;
  statement = statement_uses;
  alternative = alternative_uses;
}
