-- Induction over statements and literals that are well built.
use Rattle.std.proofs.Common.{ℕ, zero, suc, List}
use Rattle.std.specs.Bool.{⊤}
use Rattle.std.specs.List.{All, AllByRecursion}
use Rattle.std.proofs.lemmas.List.Elements.{recursion_from_All}
use Rattle.amdl_tree.specs.declared.guard.Guard.{Guard}
use Rattle.amdl_tree.specs.declared.guard.Lit.{Lit}
use Rattle.amdl_tree.specs.declared.guard.Lit.TheOpen.{Lit-F}
use Rattle.amdl_tree.specs.declared.guard.Lit.TheViews.{out-Lit}
use Rattle.amdl_tree.specs.declared.statement.Alternative.{Alternative}
use Rattle.amdl_tree.specs.declared.statement.Stmt.{Stmt}
use Rattle.amdl_tree.specs.declared.statement.Stmt.TheOpen.{Stmt-F}
use Rattle.amdl_tree.specs.declared.statement.Stmt.TheViews.{out-Stmt}
use Rattle.amdl_tree.specs.WellBuilt.{
  OneOrMore,
  LitLayer,
  GuardLayer,
  LitFits,
  GuardFits,
  StmtLayer,
  AlternativeLayer,
  StmtFits,
}
use Rattle.tree_soundness.proofs.Lists.{each_weaker}

-- the parts of a literal, and of a statement
abbrev pub LitParts : (Lit → Type 0) → (Guard → Type 0) → Lit-F Lit Guard → Type 0
LitParts L G Lit-F.True = ⊤
LitParts L G (Lit-F.Has atom) = ⊤
LitParts L G (Lit-F.Same one two) = ⊤
LitParts L G (Lit-F.Differ one two) = ⊤
LitParts L G (Lit-F.Not lit) = L lit
LitParts L G (Lit-F.Group guard) = G guard

abbrev pub StmtParts : (Stmt → Type 0) → (Alternative → Type 0) → Stmt-F Stmt Alternative → Type 0
StmtParts S B (Stmt-F.Insert atom) = ⊤
StmtParts S B (Stmt-F.Remove atom) = ⊤
StmtParts S B Stmt-F.Abort = ⊤
StmtParts S B (Stmt-F.Output port changes) = ⊤
StmtParts S B (Stmt-F.Choose alternatives) = AllByRecursion B alternatives
StmtParts S B (Stmt-F.Pick name kind body) = AllByRecursion S body

-- what holds of all members by one list's members holds by the other's
each_from : {A : Type 0} (P Q : A → Type 0) (xs : List A) → ((x : A) → P x → Q x) → All P xs → AllByRecursion Q xs
each_from P Q xs step all = each_weaker P Q xs step (recursion_from_All P xs all)

module _ (L : Lit → Type 0) (G : Guard → Type 0) (lit_step : (lit : Lit) → LitParts L G (out-Lit lit) → L lit)
    (guard_step : (guard : Guard) → AllByRecursion (AllByRecursion L) guard.any → G guard) where
  lit_parts : (inner : Lit → Type 0) (group : Guard → Type 0) → ((lit : Lit) → inner lit → L lit) →
      ((guard : Guard) → group guard → G guard) →
      (layer : Lit-F Lit Guard) → LitLayer inner group layer → LitParts L G layer
  lit_parts inner group one many Lit-F.True fits = tt
  lit_parts inner group one many (Lit-F.Has atom) fits = tt
  lit_parts inner group one many (Lit-F.Same first second) fits = tt
  lit_parts inner group one many (Lit-F.Differ first second) fits = tt
  lit_parts inner group one many (Lit-F.Not lit) fits = one lit fits
  lit_parts inner group one many (Lit-F.Group guard) fits = many guard fits

  guard_by : (inner : Lit → Type 0) → ((lit : Lit) → inner lit → L lit) → (guard : Guard) → GuardLayer inner guard →
      G guard
  guard_by inner one guard fits =
      guard_step guard
      (each_from (OneOrMore inner) (AllByRecursion L) guard.any
      (λ lits some. each_from inner L lits one some.1) fits.1)

  pub lit_holds : (n : ℕ) (lit : Lit) → LitFits n lit → L lit
  unfolding LitFits
  lit_holds zero lit fits =
      lit_step lit
      (lit_parts (λ inner. ⊥) (λ group. ⊥) (λ lit none. absurd none) (λ guard none. absurd none) (out-Lit lit) fits)
  lit_holds (suc n) lit fits =
      lit_step lit
      (lit_parts (LitFits n) (GuardLayer (LitFits n)) (lit_holds n) (guard_by (LitFits n) (lit_holds n))
      (out-Lit lit) fits)

  pub guard_holds : (n : ℕ) (guard : Guard) → GuardFits n guard → G guard
  guard_holds n guard fits = guard_by (LitFits n) (lit_holds n) guard fits

module _ (G : Guard → Type 0) (S : Stmt → Type 0) (B : Alternative → Type 0)
    (guarded : (n : ℕ) (guard : Guard) → GuardFits n guard → G guard)
    (stmt_step : (stmt : Stmt) → StmtParts S B (out-Stmt stmt) → S stmt)
    (branch_step : (alternative : Alternative) → G alternative.guard → AllByRecursion S alternative.body →
    B alternative) where
  stmt_parts : (branches : List Alternative → Type 0) (block : List Stmt → Type 0) →
      ((alternatives : List Alternative) → branches alternatives → AllByRecursion B alternatives) →
      ((body : List Stmt) → block body → AllByRecursion S body) →
      (layer : Stmt-F Stmt Alternative) → StmtLayer branches block layer → StmtParts S B layer
  stmt_parts branches block one many (Stmt-F.Insert atom) fits = tt
  stmt_parts branches block one many (Stmt-F.Remove atom) fits = tt
  stmt_parts branches block one many Stmt-F.Abort fits = tt
  stmt_parts branches block one many (Stmt-F.Output port changes) fits = tt
  stmt_parts branches block one many (Stmt-F.Choose alternatives) fits = one alternatives fits
  stmt_parts branches block one many (Stmt-F.Pick name kind body) fits = many body fits.2

  branch_by : (n : ℕ) → ((stmt : Stmt) → StmtFits n stmt → S stmt) → (alternative : Alternative) →
      AlternativeLayer (GuardFits n) (StmtFits n) alternative → B alternative
  branch_by n each alternative fits =
      branch_step alternative (guarded n alternative.guard fits.0)
      (each_from (StmtFits n) S alternative.body each fits.1)

  pub stmt_holds : (n : ℕ) (stmt : Stmt) → StmtFits n stmt → S stmt
  unfolding StmtFits
  stmt_holds zero stmt fits =
      stmt_step stmt
      (stmt_parts (λ branches. ⊥) (λ block. ⊥) (λ alternatives none. absurd none) (λ body none. absurd none)
      (out-Stmt stmt) fits)
  stmt_holds (suc n) stmt fits =
      stmt_step stmt
      (stmt_parts (OneOrMore (AlternativeLayer (GuardFits n) (StmtFits n))) (All (StmtFits n))
      (λ alternatives some. each_from (AlternativeLayer (GuardFits n) (StmtFits n)) B alternatives
      (branch_by n (stmt_holds n)) some.1)
      (λ body all. each_from (StmtFits n) S body (stmt_holds n) all) (out-Stmt stmt) fits)

  pub body_holds : (n : ℕ) (body : List Stmt) → All (StmtFits n) body → AllByRecursion S body
  body_holds n body fits = each_from (StmtFits n) S body (stmt_holds n) fits
