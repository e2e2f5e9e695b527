-- What the folds over guards and statements say of their layout, one equation for each of them.
use Rattle.std.proofs.Common.{◌≡◌, ℕ, List, [], ◌∷◌, ◌++◌, map, codes, refl, ap, ◌∙◌}
use Rattle.std.specs.List.{flat_map}
use Rattle.std.proofs.lemmas.List.{map-id}
use Rattle.amdl_tree.specs.Layout.{behind_text, joined, indented, as_written, lit_written, guard_written, written_lit}
use Rattle.amdl_tree.specs.Layout.{written_guard, layout_of_lit, layout_of_guard, Branch, lines_of_choice, stmt_lines}
use Rattle.amdl_tree.specs.Layout.{branch_lines, written_stmt, written_alternative, lines_of_statement}
use Rattle.amdl_tree.specs.Layout.{branch_of_alternative}
use Rattle.amdl_tree.specs.declared.guard.Guard.{Guard}
use Rattle.amdl_tree.specs.declared.guard.Lit.{Lit}
use Rattle.amdl_tree.specs.declared.guard.Lit.TheOpen.{Lit-F}
use Rattle.amdl_tree.specs.declared.guard.Lit.TheViews.{out-Lit}
use Rattle.amdl_tree.specs.declared.guard.Lit.TheFolds.{map-Lit, fold_out-Lit, fold_out-Guard}
use Rattle.amdl_tree.specs.declared.statement.Alternative.{Alternative}
use Rattle.amdl_tree.specs.declared.statement.Stmt.{Stmt}
use Rattle.amdl_tree.specs.declared.statement.Stmt.TheOpen.{Stmt-F}
use Rattle.amdl_tree.specs.declared.statement.Stmt.TheViews.{out-Stmt, out-Alternative}
use Rattle.amdl_tree.specs.declared.statement.Stmt.TheFolds.{map-Stmt, map-Alternative, fold_out-Stmt}
use Rattle.amdl_tree.specs.declared.statement.Stmt.TheFolds.{fold_out-Alternative}

-- parts that are written first, then joined, are written as they are joined
module _ {A B : Type 0} (text : List ℕ) (s : B → List ℕ) (f : A → B) (g : A → List ℕ)
    (same : (x : A) → s (f x) ≡ g x) where
  behind_of : (xs : List A) → flat_map (behind_text text s) (map f xs) ≡ flat_map (behind_text text g) xs
  behind_of [] = refl
  behind_of (x ∷ xs) = λ i. (text ++ same x i) ++ behind_of xs i

  joined_of : (xs : List A) → joined text s (map f xs) ≡ joined text g xs
  joined_of [] = refl
  joined_of (x ∷ xs) = λ i. same x i ++ behind_of xs i

-- the lines of parts that are written first
flat_as : {A : Type 0} (f : A → List (List ℕ)) (xs : List A) → flat_map as_written (map f xs) ≡ flat_map f xs
flat_as f [] = refl
flat_as f (x ∷ xs) = λ i. f x ++ flat_as f xs i

lit_laid : (layer : Lit-F Lit Guard) →
    written_lit (map-Lit Lit Guard (List ℕ) (List ℕ) layout_of_lit layout_of_guard layer)
    ≡ lit_written layout_of_lit layout_of_guard layer
lit_laid Lit-F.True = refl
lit_laid (Lit-F.Has atom) = refl
lit_laid (Lit-F.Same one two) = refl
lit_laid (Lit-F.Differ one two) = refl
lit_laid (Lit-F.Not lit) = refl
lit_laid (Lit-F.Group guard) = refl

pub lit_layout : (lit : Lit) → layout_of_lit lit ≡ lit_written layout_of_lit layout_of_guard (out-Lit lit)
unfolding layout_of_lit layout_of_guard
lit_layout lit = fold_out-Lit (List ℕ) (List ℕ) written_lit written_guard lit ∙ lit_laid (out-Lit lit)

pub guard_layout : (guard : Guard) → layout_of_guard guard ≡ guard_written layout_of_lit guard.any
unfolding layout_of_lit layout_of_guard
guard_layout guard =
    fold_out-Guard (List ℕ) (List ℕ) written_lit written_guard guard
    ∙ joined_of (codes " or ") (joined (codes " and ") as_written) (map layout_of_lit)
    (joined (codes " and ") layout_of_lit)
    (joined_of (codes " and ") as_written layout_of_lit layout_of_lit (λ x. refl)) guard.any

stmt_laid : (layer : Stmt-F Stmt Alternative) →
    written_stmt (map-Stmt Stmt Alternative (List (List ℕ)) Branch lines_of_statement branch_of_alternative layer)
    ≡ stmt_lines lines_of_statement branch_of_alternative layer
stmt_laid (Stmt-F.Insert atom) = refl
stmt_laid (Stmt-F.Remove atom) = refl
stmt_laid Stmt-F.Abort = refl
stmt_laid (Stmt-F.Output port changes) = refl
stmt_laid (Stmt-F.Choose alternatives) = ap lines_of_choice (map-id (map branch_of_alternative alternatives))
stmt_laid (Stmt-F.Pick name kind body) =
    ap (λ lines. (codes "pick " ++ name ++ codes " : " ++ kind ++ codes " in {") ∷ indented lines ++ codes "}" ∷ [])
    (flat_as lines_of_statement body)

pub statement_lines : (stmt : Stmt) →
    lines_of_statement stmt ≡ stmt_lines lines_of_statement branch_of_alternative (out-Stmt stmt)
unfolding lines_of_statement branch_of_alternative
statement_lines stmt =
    fold_out-Stmt (List (List ℕ)) Branch written_stmt written_alternative stmt ∙ stmt_laid (out-Stmt stmt)

alternative_laid : (alternative : Alternative) →
    written_alternative
    (map-Alternative Stmt Alternative (List (List ℕ)) Branch lines_of_statement branch_of_alternative
    (out-Alternative alternative)) ≡ branch_lines lines_of_statement alternative.guard alternative.body
alternative_laid alternative =
    λ i. record { guard = layout_of_guard alternative.guard; block = flat_as lines_of_statement alternative.body i }

pub alternative_lines : (alternative : Alternative) →
    branch_of_alternative alternative ≡ branch_lines lines_of_statement alternative.guard alternative.body
unfolding lines_of_statement branch_of_alternative
alternative_lines alternative =
    fold_out-Alternative (List (List ℕ)) Branch written_stmt written_alternative alternative
    ∙ alternative_laid alternative
