-- Parts that are well built at any depth: what they are made of, and that they are spelled in one way.
use Rattle.std.proofs.Common.{◌≤◌, ℕ, Bool, zero, suc, max, List, [], ◌∷◌, arith}
use Rattle.std.specs.List.{All}
use Rattle.std.proofs.lemmas.List.Elements.{All-nil, All-cons, All-head, All-tail, All-weaker}
use Rattle.amdl_tree.specs.Word.{IsName}
use Rattle.amdl_tree.specs.WellBuilt.{OneOrMore, LitLayer, GuardLayer, LitFits, GuardFits, StmtLayer, AlternativeLayer}
use Rattle.amdl_tree.specs.WellBuilt.{StmtFits, AlternativeFits, HandlerFits, IsBuiltLit, IsBuiltGuard, IsBuiltStmt}
use Rattle.amdl_tree.specs.WellBuilt.{IsBuiltAlternative, IsBuiltHandler}
use Rattle.amdl_tree.specs.Spelling.{spell_of_lit, spell_of_guard, spell_of_statement, spell_of_alternative}
use Rattle.amdl_tree.specs.Spelling.{spell_of_handler}
use Rattle.amdl_tree.specs.GoesOn.{Once, never, goes_guard}
use Rattle.amdl_tree.specs.declared.token.Token.{Token}
use Rattle.amdl_tree.specs.declared.guard.Guard.{Guard}
use Rattle.amdl_tree.specs.declared.guard.Lit.{Lit}
use Rattle.amdl_tree.specs.declared.guard.Lit.TheOpen.{Lit-F}
use Rattle.amdl_tree.specs.declared.guard.Lit.TheViews.{out-Lit}
use Rattle.amdl_tree.specs.declared.statement.Alternative.{Alternative}
use Rattle.amdl_tree.specs.declared.statement.Stmt.{Stmt}
use Rattle.amdl_tree.specs.declared.statement.Stmt.TheOpen.{Stmt-F}
use Rattle.amdl_tree.specs.declared.statement.Stmt.TheViews.{out-Stmt}
use Rattle.amdl_tree.specs.declared.class.Handler.{Handler}
use Rattle.amdl_tree.proofs.FitsLemmas.{some-weaker, lit_layer-weaker, guard_layer-weaker, stmt_layer-weaker}
use Rattle.amdl_tree.proofs.FitsLemmas.{alternative_layer-weaker, lit-rises, guard-rises, stmt-rises, alternative-rises}
use Rattle.amdl_tree.proofs.FitsLemmas.{handler-rises}
use Rattle.amdl_tree.proofs.SpellingOnce.{lit_once, guard_once, stmt_once, alternative_once}
use Rattle.amdl_tree.proofs.TreeOnce.{handler_once}

-- a greater bound asks less
abbrev Rises : {A : Type 0} → (ℕ → A → Type 0) → Type 0
Rises {A} Fits = (n m : ℕ) → n ≤ m → (x : A) → Fits n x → Fits m x

-- it fits within some bound
abbrev AtSome : {A : Type 0} → (ℕ → A → Type 0) → A → Type 0
AtSome Fits x = (n : ℕ) × Fits n x

module _ {A : Type 0} (Fits : ℕ → A → Type 0) (rises : Rises Fits) where
  -- where each part has a bound, one bound serves them all
  pub common-each : (xs : List A) → All (AtSome Fits) xs → (n : ℕ) × All (Fits n) xs
  common-each [] p = (0, All-nil (Fits 0))
  common-each (x ∷ xs) p =
      let head = All-head (AtSome Fits) x xs p in
      let tail = common-each xs (All-tail (AtSome Fits) x xs p) in
      let here : head.0 ≤ max head.0 tail.0 = omega arith in
      let there : tail.0 ≤ max head.0 tail.0 = omega arith in (
        max head.0 tail.0,
        All-cons (Fits (max head.0 tail.0)) x xs (rises head.0 (max head.0 tail.0) here x head.1)
            (All-weaker (Fits tail.0) (Fits (max head.0 tail.0)) (rises tail.0 (max head.0 tail.0) there) xs tail.1),
      )

  pub common-some : (xs : List A) → OneOrMore (AtSome Fits) xs → (n : ℕ) × OneOrMore (Fits n) xs
  common-some xs p = let each = common-each xs p.1 in (each.0, (p.0, each.1))

  pub each-of : (n : ℕ) (xs : List A) → All (Fits n) xs → All (AtSome Fits) xs
  each-of n = All-weaker (Fits n) (AtSome Fits) (λ x p. (n, p))

  pub some-of : (n : ℕ) (xs : List A) → OneOrMore (Fits n) xs → OneOrMore (AtSome Fits) xs
  some-of n xs p = (p.0, each-of n xs p.1)

  some-rises : (n m : ℕ) → n ≤ m → (xs : List A) → OneOrMore (Fits n) xs → OneOrMore (Fits m) xs
  some-rises n m le = some-weaker (Fits n) (Fits m) (rises n m le)

  -- what is spelled in one way within each bound is so within any
  pub once_at_some : {s : A → List Token} {goes : A → Token → Bool} → ((n : ℕ) → Once s (Fits n) goes) →
      Once s (AtSome Fits) goes
  once_at_some parts = record {
    once = λ x y a b p q u v e.
        let here : p.0 ≤ max p.0 q.0 = omega arith in
        let there : q.0 ≤ max p.0 q.0 = omega arith in
        (parts (max p.0 q.0)).once x y a b (rises p.0 (max p.0 q.0) here x p.1)
        (rises q.0 (max p.0 q.0) there y q.1) u v e;
  }

-- A guard is well built exactly where its literals are.

pub guard-built : (guard : Guard) → GuardLayer IsBuiltLit guard → IsBuiltGuard guard
guard-built guard p =
    let each =
    All-weaker (OneOrMore IsBuiltLit) (AtSome (λ n. OneOrMore (LitFits n)))
    (common-some LitFits lit-rises) guard.any p.1 in
    common-some (λ n. OneOrMore (LitFits n)) (some-rises LitFits lit-rises) guard.any (p.0, each)

pub guard-open : (guard : Guard) → IsBuiltGuard guard → GuardLayer IsBuiltLit guard
guard-open guard p = guard_layer-weaker (LitFits p.0) IsBuiltLit (λ lit q. (p.0, q)) guard p.1

-- A literal is well built exactly where its parts are.

lit_layer-built : (layer : Lit-F Lit Guard) → LitLayer IsBuiltLit IsBuiltGuard layer →
    (n : ℕ) × LitLayer (LitFits n) (GuardFits n) layer
lit_layer-built Lit-F.True p = (0, p)
lit_layer-built (Lit-F.Has atom) p = (0, p)
lit_layer-built (Lit-F.Same one two) p = (0, p)
lit_layer-built (Lit-F.Differ one two) p = (0, p)
lit_layer-built (Lit-F.Not lit) p = p
lit_layer-built (Lit-F.Group guard) p = p

pub lit-built : (lit : Lit) → LitLayer IsBuiltLit IsBuiltGuard (out-Lit lit) → IsBuiltLit lit
unfolding LitFits
lit-built lit p = let layer = lit_layer-built (out-Lit lit) p in (suc layer.0, layer.1)

lit-open_at : (n : ℕ) (lit : Lit) → LitFits n lit → LitLayer IsBuiltLit IsBuiltGuard (out-Lit lit)
unfolding LitFits
lit-open_at zero lit p =
    lit_layer-weaker (λ inner. ⊥) IsBuiltLit (λ group. ⊥) IsBuiltGuard (λ x no. absurd no) (λ x no. absurd no)
    (out-Lit lit) p
lit-open_at (suc n) lit p =
    lit_layer-weaker (LitFits n) IsBuiltLit (GuardFits n) IsBuiltGuard (λ x q. (n, q)) (λ x q. (n, q)) (out-Lit lit) p

pub lit-open : (lit : Lit) → IsBuiltLit lit → LitLayer IsBuiltLit IsBuiltGuard (out-Lit lit)
lit-open lit p = lit-open_at p.0 lit p.1

-- An alternative is well built exactly where its guard and its statements are.

pub alternative-built : (alternative : Alternative) → AlternativeLayer IsBuiltGuard IsBuiltStmt alternative →
    IsBuiltAlternative alternative
alternative-built alternative p =
    let body = common-each StmtFits stmt-rises alternative.body p.1 in
    let here : p.0.0 ≤ max p.0.0 body.0 = omega arith in
    let there : body.0 ≤ max p.0.0 body.0 = omega arith in (
      max p.0.0 body.0,
      (
        guard-rises p.0.0 (max p.0.0 body.0) here alternative.guard p.0.1,
        All-weaker (StmtFits body.0) (StmtFits (max p.0.0 body.0))
            (stmt-rises body.0 (max p.0.0 body.0) there) alternative.body body.1,
      ),
    )

pub alternative-open : (alternative : Alternative) → IsBuiltAlternative alternative →
    AlternativeLayer IsBuiltGuard IsBuiltStmt alternative
alternative-open alternative p =
    alternative_layer-weaker (GuardFits p.0) IsBuiltGuard (StmtFits p.0) IsBuiltStmt (λ x q. (p.0, q))
    (λ x q. (p.0, q)) alternative p.1

-- A statement is well built exactly where its parts are.

stmt_layer-built : (layer : Stmt-F Stmt Alternative) →
    StmtLayer (OneOrMore IsBuiltAlternative) (All IsBuiltStmt) layer →
    (n : ℕ) × StmtLayer (OneOrMore (AlternativeFits n)) (All (StmtFits n)) layer
stmt_layer-built (Stmt-F.Insert atom) p = (0, p)
stmt_layer-built (Stmt-F.Remove atom) p = (0, p)
stmt_layer-built Stmt-F.Abort p = (0, p)
stmt_layer-built (Stmt-F.Output port changes) p = (0, p)
stmt_layer-built (Stmt-F.Choose alternatives) p = common-some AlternativeFits alternative-rises alternatives p
stmt_layer-built (Stmt-F.Pick name kind body) p =
    let each = common-each StmtFits stmt-rises body p.2 in (each.0, (p.0, p.1, each.1))

pub stmt-built : (stmt : Stmt) → StmtLayer (OneOrMore IsBuiltAlternative) (All IsBuiltStmt) (out-Stmt stmt) →
    IsBuiltStmt stmt
unfolding StmtFits
stmt-built stmt p = let layer = stmt_layer-built (out-Stmt stmt) p in (suc layer.0, layer.1)

stmt-open_at : (n : ℕ) (stmt : Stmt) → StmtFits n stmt →
    StmtLayer (OneOrMore IsBuiltAlternative) (All IsBuiltStmt) (out-Stmt stmt)
unfolding StmtFits
stmt-open_at zero stmt p =
    stmt_layer-weaker (λ branches. ⊥) (OneOrMore IsBuiltAlternative) (λ block. ⊥) (All IsBuiltStmt) (λ x no. absurd no)
    (λ x no. absurd no) (out-Stmt stmt) p
stmt-open_at (suc n) stmt p =
    stmt_layer-weaker (OneOrMore (AlternativeFits n)) (OneOrMore IsBuiltAlternative) (All (StmtFits n))
    (All IsBuiltStmt)
    (some-of AlternativeFits alternative-rises n) (each-of StmtFits stmt-rises n) (out-Stmt stmt) p

pub stmt-open : (stmt : Stmt) → IsBuiltStmt stmt →
    StmtLayer (OneOrMore IsBuiltAlternative) (All IsBuiltStmt) (out-Stmt stmt)
stmt-open stmt p = stmt-open_at p.0 stmt p.1

pub handler-built : (handler : Handler) → IsName handler.port × All IsBuiltStmt handler.body → IsBuiltHandler handler
handler-built handler p = let each = common-each StmtFits stmt-rises handler.body p.1 in (each.0, (p.0, each.1))

-- Each is spelled in one way.

pub built_lit_once : Once spell_of_lit IsBuiltLit (λ lit. never)
built_lit_once = once_at_some LitFits lit-rises lit_once

pub built_guard_once : Once spell_of_guard IsBuiltGuard (λ guard. goes_guard)
built_guard_once = once_at_some GuardFits guard-rises guard_once

pub built_stmt_once : Once spell_of_statement IsBuiltStmt (λ stmt. never)
built_stmt_once = once_at_some StmtFits stmt-rises stmt_once

pub built_alternative_once : Once spell_of_alternative IsBuiltAlternative (λ alternative. never)
built_alternative_once = once_at_some AlternativeFits alternative-rises alternative_once

pub built_handler_once : Once spell_of_handler IsBuiltHandler (λ handler. never)
built_handler_once = once_at_some HandlerFits handler-rises handler_once
