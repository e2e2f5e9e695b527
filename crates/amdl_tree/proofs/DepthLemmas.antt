-- What the folds over guards and statements say of depths, one equation for each of them.
use Rattle.std.proofs.Common.{◌≡◌, ℕ, suc, List, [], ◌∷◌, map, max, refl, ap, ◌∙◌}
use Rattle.amdl_tree.specs.Depth.{deepest, same_depth, lit_depth, guard_depth, lit_deep, guard_deep, depth_of_lit}
use Rattle.amdl_tree.specs.Depth.{depth_of_guard, stmt_depth, branch_depth, stmt_deep, alternative_deep}
use Rattle.amdl_tree.specs.Depth.{depth_of_statement, depth_of_alternative}
use Rattle.amdl_tree.specs.declared.guard.Guard.{Guard}
use Rattle.amdl_tree.specs.declared.guard.Lit.{Lit}
use Rattle.amdl_tree.specs.declared.guard.Lit.TheOpen.{Lit-F}
use Rattle.amdl_tree.specs.declared.guard.Lit.TheViews.{out-Lit}
use Rattle.amdl_tree.specs.declared.guard.Lit.TheFolds.{map-Lit, fold_out-Lit, fold_out-Guard}
use Rattle.amdl_tree.specs.declared.statement.Alternative.{Alternative}
use Rattle.amdl_tree.specs.declared.statement.Stmt.{Stmt}
use Rattle.amdl_tree.specs.declared.statement.Stmt.TheOpen.{Stmt-F}
use Rattle.amdl_tree.specs.declared.statement.Stmt.TheViews.{out-Stmt, out-Alternative}
use Rattle.amdl_tree.specs.declared.statement.Stmt.TheFolds.{map-Stmt, map-Alternative, fold_out-Stmt}
use Rattle.amdl_tree.specs.declared.statement.Stmt.TheFolds.{fold_out-Alternative}

module _ {A B : Type 0} (s : B → ℕ) (f : A → B) (g : A → ℕ) (same : (x : A) → s (f x) ≡ g x) where
  deepest_of : (xs : List A) → deepest s (map f xs) ≡ deepest g xs
  deepest_of [] = refl
  deepest_of (x ∷ xs) = λ i. max (same x i) (deepest_of xs i)

deepest_as : {A : Type 0} (f : A → ℕ) (xs : List A) → deepest same_depth (map f xs) ≡ deepest f xs
deepest_as f = deepest_of same_depth f f (λ x. refl)

lit_laid : (layer : Lit-F Lit Guard) →
    lit_deep (map-Lit Lit Guard ℕ ℕ depth_of_lit depth_of_guard layer) ≡ lit_depth depth_of_lit depth_of_guard layer
lit_laid Lit-F.True = refl
lit_laid (Lit-F.Has atom) = refl
lit_laid (Lit-F.Same one two) = refl
lit_laid (Lit-F.Differ one two) = refl
lit_laid (Lit-F.Not lit) = refl
lit_laid (Lit-F.Group guard) = refl

pub lit_depth_is : (lit : Lit) → depth_of_lit lit ≡ lit_depth depth_of_lit depth_of_guard (out-Lit lit)
unfolding depth_of_lit depth_of_guard
lit_depth_is lit = fold_out-Lit ℕ ℕ lit_deep guard_deep lit ∙ lit_laid (out-Lit lit)

pub guard_depth_is : (guard : Guard) → depth_of_guard guard ≡ guard_depth depth_of_lit guard.any
unfolding depth_of_lit depth_of_guard
guard_depth_is guard =
    fold_out-Guard ℕ ℕ lit_deep guard_deep guard
    ∙ deepest_of (deepest same_depth) (map depth_of_lit) (deepest depth_of_lit) (deepest_as depth_of_lit) guard.any

stmt_laid : (layer : Stmt-F Stmt Alternative) →
    stmt_deep (map-Stmt Stmt Alternative ℕ ℕ depth_of_statement depth_of_alternative layer)
    ≡ stmt_depth depth_of_statement depth_of_alternative layer
stmt_laid (Stmt-F.Insert atom) = refl
stmt_laid (Stmt-F.Remove atom) = refl
stmt_laid Stmt-F.Abort = refl
stmt_laid (Stmt-F.Output port changes) = refl
stmt_laid (Stmt-F.Choose alternatives) = ap suc (deepest_as depth_of_alternative alternatives)
stmt_laid (Stmt-F.Pick name kind body) = ap suc (deepest_as depth_of_statement body)

pub statement_depth_is : (stmt : Stmt) →
    depth_of_statement stmt ≡ stmt_depth depth_of_statement depth_of_alternative (out-Stmt stmt)
unfolding depth_of_statement depth_of_alternative
statement_depth_is stmt = fold_out-Stmt ℕ ℕ stmt_deep alternative_deep stmt ∙ stmt_laid (out-Stmt stmt)

alternative_laid : (alternative : Alternative) →
    alternative_deep
    (map-Alternative Stmt Alternative ℕ ℕ depth_of_statement depth_of_alternative (out-Alternative alternative))
    ≡ branch_depth depth_of_statement alternative.guard alternative.body
alternative_laid alternative =
    ap (max (depth_of_guard alternative.guard)) (deepest_as depth_of_statement alternative.body)

pub alternative_depth_is : (alternative : Alternative) →
    depth_of_alternative alternative ≡ branch_depth depth_of_statement alternative.guard alternative.body
unfolding depth_of_statement depth_of_alternative
alternative_depth_is alternative =
    fold_out-Alternative ℕ ℕ stmt_deep alternative_deep alternative ∙ alternative_laid alternative
