-- What the depth of a statement leaves to its blocks.
use Rattle.std.proofs.Common.{◌≡◌, ◌<◌, ◌-◌, ℕ, zero, suc, List, subst, arith}
use Rattle.std.specs.List.{All}
use Rattle.amdl_tree.specs.WellBuilt.{OneOrMore, GuardFits, StmtLayer, AlternativeLayer, AlternativeFits, StmtFits}
use Rattle.amdl_tree.specs.declared.statement.Alternative.{Alternative}
use Rattle.amdl_tree.specs.declared.statement.Stmt.{Stmt}
use Rattle.amdl_tree.specs.declared.statement.Stmt.TheVariants.{Choose, Pick}
use Rattle.amdl_tree.specs.declared.statement.Stmt.TheViews.{outs-Choose, outs-Pick}

-- an `if` has a level, and its alternatives have one less
pub choose_level : (n : ℕ) (alternatives : List Alternative) → StmtFits n (Choose alternatives) → 0 < n
unfolding StmtFits
choose_level zero alternatives fits =
    absurd (subst (StmtLayer (λ branches. ⊥) (λ block. ⊥)) (outs-Choose alternatives) fits)
choose_level (suc n) alternatives fits = omega arith

pub choose_inside : (n m : ℕ) (alternatives : List Alternative) → n - 1 ≡ m → StmtFits n (Choose alternatives) →
    All (AlternativeFits m) alternatives
unfolding StmtFits
choose_inside zero m alternatives e fits =
    absurd (subst (StmtLayer (λ branches. ⊥) (λ block. ⊥)) (outs-Choose alternatives) fits)
choose_inside (suc n) m alternatives e fits =
    let same : n ≡ m = omega arith in
    let layer =
    subst (StmtLayer (OneOrMore (AlternativeLayer (GuardFits n) (StmtFits n))) (All (StmtFits n)))
    (outs-Choose alternatives) fits in
    subst (λ k. All (AlternativeFits k) alternatives) same layer.1

-- a `pick` has a level, and its block has one less
pub pick_level : (n : ℕ) (name kind : List ℕ) (body : List Stmt) → StmtFits n (Pick name kind body) → 0 < n
unfolding StmtFits
pick_level zero name kind body fits =
    absurd (subst (StmtLayer (λ branches. ⊥) (λ block. ⊥)) (outs-Pick name kind body) fits).2
pick_level (suc n) name kind body fits = omega arith

pub pick_inside : (n m : ℕ) (name kind : List ℕ) (body : List Stmt) → n - 1 ≡ m → StmtFits n (Pick name kind body) →
    All (StmtFits m) body
unfolding StmtFits
pick_inside zero m name kind body e fits =
    absurd (subst (StmtLayer (λ branches. ⊥) (λ block. ⊥)) (outs-Pick name kind body) fits).2
pick_inside (suc n) m name kind body e fits =
    let same : n ≡ m = omega arith in
    let layer =
    subst (StmtLayer (OneOrMore (AlternativeLayer (GuardFits n) (StmtFits n))) (All (StmtFits n)))
    (outs-Pick name kind body) fits in
    subst (λ k. All (StmtFits k) body) same layer.2
