-- A greater bound on the depth asks less.
use Rattle.std.proofs.Common.{◌≤◌, ℕ, zero, suc, List, arith}
use Rattle.std.specs.List.{All}
use Rattle.std.proofs.lemmas.List.Elements.{All-weaker}
use Rattle.amdl_tree.specs.WellBuilt.{OneOrMore, LitLayer, GuardLayer, LitFits, GuardFits, StmtLayer, AlternativeLayer}
use Rattle.amdl_tree.specs.WellBuilt.{StmtFits, AlternativeFits, HandlerFits, ClassFits}
use Rattle.amdl_tree.specs.declared.guard.Guard.{Guard}
use Rattle.amdl_tree.specs.declared.guard.Lit.{Lit}
use Rattle.amdl_tree.specs.declared.guard.Lit.TheOpen.{Lit-F}
use Rattle.amdl_tree.specs.declared.guard.Lit.TheViews.{out-Lit}
use Rattle.amdl_tree.specs.declared.statement.Alternative.{Alternative}
use Rattle.amdl_tree.specs.declared.statement.Stmt.{Stmt}
use Rattle.amdl_tree.specs.declared.statement.Stmt.TheOpen.{Stmt-F}
use Rattle.amdl_tree.specs.declared.statement.Stmt.TheViews.{out-Stmt}
use Rattle.amdl_tree.specs.declared.class.Class.{Class}
use Rattle.amdl_tree.specs.declared.class.Handler.{Handler}

pub some-weaker : {A : Type 0} (P Q : A → Type 0) → ((x : A) → P x → Q x) → (xs : List A) → OneOrMore P xs →
    OneOrMore Q xs
some-weaker P Q from xs p = (p.0, All-weaker P Q from xs p.1)

pub lit_layer-weaker : (P Q : Lit → Type 0) (R S : Guard → Type 0) → ((x : Lit) → P x → Q x) →
    ((x : Guard) → R x → S x) → (layer : Lit-F Lit Guard) → LitLayer P R layer → LitLayer Q S layer
lit_layer-weaker P Q R S f g Lit-F.True p = p
lit_layer-weaker P Q R S f g (Lit-F.Has atom) p = p
lit_layer-weaker P Q R S f g (Lit-F.Same one two) p = p
lit_layer-weaker P Q R S f g (Lit-F.Differ one two) p = p
lit_layer-weaker P Q R S f g (Lit-F.Not lit) p = f lit p
lit_layer-weaker P Q R S f g (Lit-F.Group guard) p = g guard p

pub guard_layer-weaker : (P Q : Lit → Type 0) → ((x : Lit) → P x → Q x) → (guard : Guard) → GuardLayer P guard →
    GuardLayer Q guard
guard_layer-weaker P Q f guard p = some-weaker (OneOrMore P) (OneOrMore Q) (some-weaker P Q f) guard.any p

pub lit-rises : (n m : ℕ) → n ≤ m → (lit : Lit) → LitFits n lit → LitFits m lit
unfolding LitFits
lit-rises zero zero le lit p = p
lit-rises zero (suc m) le lit p =
    lit_layer-weaker (λ inner. ⊥) (LitFits m) (λ group. ⊥) (GuardLayer (LitFits m)) (λ x no. absurd no)
    (λ x no. absurd no) (out-Lit lit) p
lit-rises (suc n) zero le lit p = absurd (omega (arith, le))
lit-rises (suc n) (suc m) le lit p =
    let less : n ≤ m = omega (arith, le) in
    lit_layer-weaker (LitFits n) (LitFits m) (GuardLayer (LitFits n)) (GuardLayer (LitFits m)) (lit-rises n m less)
    (guard_layer-weaker (LitFits n) (LitFits m) (lit-rises n m less)) (out-Lit lit) p

pub guard-rises : (n m : ℕ) → n ≤ m → (guard : Guard) → GuardFits n guard → GuardFits m guard
guard-rises n m le = guard_layer-weaker (LitFits n) (LitFits m) (lit-rises n m le)

pub stmt_layer-weaker : (P Q : List Alternative → Type 0) (R S : List Stmt → Type 0) →
    ((x : List Alternative) → P x → Q x) → ((x : List Stmt) → R x → S x) → (layer : Stmt-F Stmt Alternative) →
    StmtLayer P R layer → StmtLayer Q S layer
stmt_layer-weaker P Q R S f g (Stmt-F.Insert atom) p = p
stmt_layer-weaker P Q R S f g (Stmt-F.Remove atom) p = p
stmt_layer-weaker P Q R S f g Stmt-F.Abort p = p
stmt_layer-weaker P Q R S f g (Stmt-F.Output port changes) p = p
stmt_layer-weaker P Q R S f g (Stmt-F.Choose alternatives) p = f alternatives p
stmt_layer-weaker P Q R S f g (Stmt-F.Pick name kind body) p = (p.0, p.1, g body p.2)

pub alternative_layer-weaker : (P Q : Guard → Type 0) (R S : Stmt → Type 0) → ((x : Guard) → P x → Q x) →
    ((x : Stmt) → R x → S x) → (alternative : Alternative) → AlternativeLayer P R alternative →
    AlternativeLayer Q S alternative
alternative_layer-weaker P Q R S f g alternative p = (f alternative.guard p.0, All-weaker R S g alternative.body p.1)

pub stmt-rises : (n m : ℕ) → n ≤ m → (stmt : Stmt) → StmtFits n stmt → StmtFits m stmt
unfolding StmtFits
stmt-rises zero zero le stmt p = p
stmt-rises zero (suc m) le stmt p =
    stmt_layer-weaker (λ branches. ⊥) (OneOrMore (AlternativeLayer (GuardFits m) (StmtFits m))) (λ block. ⊥)
    (All (StmtFits m)) (λ x no. absurd no) (λ x no. absurd no) (out-Stmt stmt) p
stmt-rises (suc n) zero le stmt p = absurd (omega (arith, le))
stmt-rises (suc n) (suc m) le stmt p =
    let less : n ≤ m = omega (arith, le) in
    stmt_layer-weaker (OneOrMore (AlternativeLayer (GuardFits n) (StmtFits n)))
    (OneOrMore (AlternativeLayer (GuardFits m) (StmtFits m))) (All (StmtFits n)) (All (StmtFits m))
    (some-weaker (AlternativeLayer (GuardFits n) (StmtFits n)) (AlternativeLayer (GuardFits m) (StmtFits m))
    (alternative_layer-weaker (GuardFits n) (GuardFits m) (StmtFits n) (StmtFits m) (guard-rises n m less)
    (stmt-rises n m less)))
    (All-weaker (StmtFits n) (StmtFits m) (stmt-rises n m less)) (out-Stmt stmt) p

pub alternative-rises : (n m : ℕ) → n ≤ m → (alternative : Alternative) → AlternativeFits n alternative →
    AlternativeFits m alternative
alternative-rises n m le =
    alternative_layer-weaker (GuardFits n) (GuardFits m) (StmtFits n) (StmtFits m) (guard-rises n m le)
    (stmt-rises n m le)

pub handler-rises : (n m : ℕ) → n ≤ m → (handler : Handler) → HandlerFits n handler → HandlerFits m handler
handler-rises n m le handler p = (p.0, All-weaker (StmtFits n) (StmtFits m) (stmt-rises n m le) handler.body p.1)

pub class-rises : (n m : ℕ) → n ≤ m → (class : Class) → ClassFits n class → ClassFits m class
class-rises n m le class p = record {
  named = p.named;
  ports = p.ports;
  relations = p.relations;
  handlers = All-weaker (HandlerFits n) (HandlerFits m) (handler-rises n m le) class.handlers p.handlers;
}
