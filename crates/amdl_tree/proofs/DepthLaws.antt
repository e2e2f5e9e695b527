-- A part fits within n levels exactly where it is well built and its depth is at most n.
use Rattle.std.proofs.Common.{◌≤◌, ◌↔◌, ℕ, zero, suc, List, [], ◌∷◌, sym, arith}
use Rattle.std.specs.List.{All}
use Rattle.std.proofs.lemmas.List.Elements.{All-nil, All-cons, All-head, All-tail, All-weaker}
use Rattle.amdl_tree.specs.WellBuilt.{OneOrMore, LitLayer, GuardLayer, LitFits, GuardFits, StmtLayer, AlternativeLayer}
use Rattle.amdl_tree.specs.WellBuilt.{StmtFits, HandlerFits, ClassFits, IsBuiltItem, ItemFits, IsWellBuilt, IsShaped}
use Rattle.amdl_tree.specs.Depth.{deepest, lit_depth, guard_depth, depth_of_lit, depth_of_guard, stmt_depth}
use Rattle.amdl_tree.specs.Depth.{branch_depth, depth_of_statement, depth_of_alternative, depth_of_handler}
use Rattle.amdl_tree.specs.Depth.{depth_of_class, depth_of_item, depth_of_tree}
use Rattle.amdl_tree.specs.declared.guard.Guard.{Guard}
use Rattle.amdl_tree.specs.declared.guard.Lit.{Lit}
use Rattle.amdl_tree.specs.declared.guard.Lit.TheOpen.{Lit-F}
use Rattle.amdl_tree.specs.declared.guard.Lit.TheViews.{out-Lit}
use Rattle.amdl_tree.specs.declared.statement.Alternative.{Alternative}
use Rattle.amdl_tree.specs.declared.statement.Stmt.{Stmt}
use Rattle.amdl_tree.specs.declared.statement.Stmt.TheOpen.{Stmt-F}
use Rattle.amdl_tree.specs.declared.statement.Stmt.TheViews.{out-Stmt}
use Rattle.amdl_tree.specs.declared.tree.Item.{Item}
use Rattle.amdl_tree.specs.declared.tree.Item.TheVariants.{Kind, Field, Class as OfClass, Host, Instance, Link, Sends}
use Rattle.amdl_tree.specs.declared.tree.Item.TheVariants.{Forbid}
use Rattle.amdl_tree.specs.declared.tree.Tree.{Tree}
use Rattle.amdl_tree.proofs.DepthLemmas.{lit_depth_is, guard_depth_is, statement_depth_is, alternative_depth_is}
use Rattle.amdl_tree.proofs.FitsLemmas.{lit-rises, stmt-rises}

-- the parts that P asks for are of a depth of at most n
abbrev Bounds : {A : Type 0} → (A → ℕ) → ℕ → (A → Type 0) → Type 0
Bounds {A} depth n P = (x : A) → P x → depth x ≤ n

-- of the parts that P asks for, those of a depth of at most n are Q
abbrev Within : {A : Type 0} → (A → ℕ) → ℕ → (A → Type 0) → (A → Type 0) → Type 0
Within {A} depth n P Q = (x : A) → P x → depth x ≤ n → Q x

module _ {A : Type 0} (depth : A → ℕ) (n : ℕ) (P : A → Type 0) where
  pub all-bounds : Bounds depth n P → Bounds (deepest depth) n (All P)
  all-bounds bounds [] p = omega arith
  all-bounds bounds (x ∷ xs) p = omega (arith, bounds x (All-head P x xs p), all-bounds bounds xs (All-tail P x xs p))

  some-bounds : Bounds depth n P → Bounds (deepest depth) n (OneOrMore P)
  some-bounds bounds xs p = all-bounds bounds xs p.1

module _ {A : Type 0} (depth : A → ℕ) (n : ℕ) (P Q : A → Type 0) where
  pub all-within : Within depth n P Q → Within (deepest depth) n (All P) (All Q)
  all-within within [] p le = All-nil Q
  all-within within (x ∷ xs) p le =
      let head : depth x ≤ n = omega (arith, le) in
      let tail : deepest depth xs ≤ n = omega (arith, le) in
      All-cons Q x xs (within x (All-head P x xs p) head) (all-within within xs (All-tail P x xs p) tail)

  some-within : Within depth n P Q → Within (deepest depth) n (OneOrMore P) (OneOrMore Q)
  some-within within xs p le = (p.0, all-within within xs p.1 le)

-- guards

guard-bounds_by : (n : ℕ) (P : Lit → Type 0) → Bounds depth_of_lit n P → Bounds depth_of_guard n (GuardLayer P)
guard-bounds_by n P bounds guard p =
    rw (guard_depth_is guard)
    (some-bounds (deepest depth_of_lit) n (OneOrMore P) (some-bounds depth_of_lit n P bounds) guard.any p)

guard-within_by : (n : ℕ) (P Q : Lit → Type 0) → Within depth_of_lit n P Q →
    Within depth_of_guard n (GuardLayer P) (GuardLayer Q)
guard-within_by n P Q within guard p le =
    let low : guard_depth depth_of_lit guard.any ≤ n = rw (sym (guard_depth_is guard)) le in
    some-within (deepest depth_of_lit) n (OneOrMore P) (OneOrMore Q)
    (some-within depth_of_lit n P Q within) guard.any p low

lit_layer-flat : (layer : Lit-F Lit Guard) → LitLayer (λ inner. ⊥) (λ group. ⊥) layer →
    lit_depth depth_of_lit depth_of_guard layer ≤ 0
lit_layer-flat Lit-F.True p = omega arith
lit_layer-flat (Lit-F.Has atom) p = omega arith
lit_layer-flat (Lit-F.Same one two) p = omega arith
lit_layer-flat (Lit-F.Differ one two) p = omega arith
lit_layer-flat (Lit-F.Not lit) p = absurd p
lit_layer-flat (Lit-F.Group guard) p = absurd p

lit_layer-bounds : (n : ℕ) (P : Lit → Type 0) (R : Guard → Type 0) → Bounds depth_of_lit n P →
    Bounds depth_of_guard n R → (layer : Lit-F Lit Guard) → LitLayer P R layer →
    lit_depth depth_of_lit depth_of_guard layer ≤ suc n
lit_layer-bounds n P R f g Lit-F.True p = omega arith
lit_layer-bounds n P R f g (Lit-F.Has atom) p = omega arith
lit_layer-bounds n P R f g (Lit-F.Same one two) p = omega arith
lit_layer-bounds n P R f g (Lit-F.Differ one two) p = omega arith
lit_layer-bounds n P R f g (Lit-F.Not lit) p = omega (arith, f lit p)
lit_layer-bounds n P R f g (Lit-F.Group guard) p = omega (arith, g guard p)

pub lit-bounds : (n : ℕ) → Bounds depth_of_lit n (LitFits n)
unfolding LitFits
lit-bounds zero lit p = rw (lit_depth_is lit) (lit_layer-flat (out-Lit lit) p)
lit-bounds (suc n) lit p =
    rw (lit_depth_is lit)
    (lit_layer-bounds n (LitFits n) (GuardLayer (LitFits n)) (lit-bounds n)
    (guard-bounds_by n (LitFits n) (lit-bounds n)) (out-Lit lit) p)

-- a literal of depth 0 has no part
lit_layer-low : (P : Lit → Type 0) (R : Guard → Type 0) (layer : Lit-F Lit Guard) → LitLayer P R layer →
    lit_depth depth_of_lit depth_of_guard layer ≤ 0 → LitLayer (λ inner. ⊥) (λ group. ⊥) layer
lit_layer-low P R Lit-F.True p le = p
lit_layer-low P R (Lit-F.Has atom) p le = p
lit_layer-low P R (Lit-F.Same one two) p le = p
lit_layer-low P R (Lit-F.Differ one two) p le = p
lit_layer-low P R (Lit-F.Not lit) p le = omega (arith, le)
lit_layer-low P R (Lit-F.Group guard) p le = omega (arith, le)

lit_layer-within : (n : ℕ) (P Q : Lit → Type 0) (R S : Guard → Type 0) → Within depth_of_lit n P Q →
    Within depth_of_guard n R S → (layer : Lit-F Lit Guard) → LitLayer P R layer →
    lit_depth depth_of_lit depth_of_guard layer ≤ suc n → LitLayer Q S layer
lit_layer-within n P Q R S f g Lit-F.True p le = p
lit_layer-within n P Q R S f g (Lit-F.Has atom) p le = p
lit_layer-within n P Q R S f g (Lit-F.Same one two) p le = p
lit_layer-within n P Q R S f g (Lit-F.Differ one two) p le = p
lit_layer-within n P Q R S f g (Lit-F.Not lit) p le = f lit p (omega (arith, le))
lit_layer-within n P Q R S f g (Lit-F.Group guard) p le = g guard p (omega (arith, le))

pub lit-within : (m n : ℕ) → Within depth_of_lit n (LitFits m) (LitFits n)
unfolding LitFits
lit-within zero n lit p le = lit-rises zero n (omega arith) lit p
lit-within (suc m) zero lit p le =
    let low : lit_depth depth_of_lit depth_of_guard (out-Lit lit) ≤ 0 = rw (sym (lit_depth_is lit)) le in
    lit_layer-low (LitFits m) (GuardLayer (LitFits m)) (out-Lit lit) p low
lit-within (suc m) (suc n) lit p le =
    let low : lit_depth depth_of_lit depth_of_guard (out-Lit lit) ≤ suc n = rw (sym (lit_depth_is lit)) le in
    lit_layer-within n (LitFits m) (LitFits n) (GuardLayer (LitFits m)) (GuardLayer (LitFits n)) (lit-within m n)
    (guard-within_by n (LitFits m) (LitFits n) (lit-within m n)) (out-Lit lit) p low

pub guard-bounds : (n : ℕ) → Bounds depth_of_guard n (GuardFits n)
guard-bounds n = guard-bounds_by n (LitFits n) (lit-bounds n)

pub guard-within : (m n : ℕ) → Within depth_of_guard n (GuardFits m) (GuardFits n)
guard-within m n = guard-within_by n (LitFits m) (LitFits n) (lit-within m n)

-- statements

alternative-bounds_by : (n : ℕ) (V : Guard → Type 0) (W : Stmt → Type 0) → Bounds depth_of_guard n V →
    Bounds depth_of_statement n W → Bounds depth_of_alternative n (AlternativeLayer V W)
alternative-bounds_by n V W f g alternative p =
    let body = all-bounds depth_of_statement n W g alternative.body p.1 in
    rw (alternative_depth_is alternative) (omega (arith, f alternative.guard p.0, body))

alternative-within_by : (n : ℕ) (V U : Guard → Type 0) (W S : Stmt → Type 0) → Within depth_of_guard n V U →
    Within depth_of_statement n W S → Within depth_of_alternative n (AlternativeLayer V W) (AlternativeLayer U S)
alternative-within_by n V U W S f g alternative p le =
    let low : branch_depth depth_of_statement alternative.guard alternative.body ≤ n =
    rw (sym (alternative_depth_is alternative)) le in (
      f alternative.guard p.0 (omega (arith, low)),
      all-within depth_of_statement n W S g alternative.body p.1 (omega (arith, low)),
    )

stmt_layer-flat : (layer : Stmt-F Stmt Alternative) → StmtLayer (λ branches. ⊥) (λ block. ⊥) layer →
    stmt_depth depth_of_statement depth_of_alternative layer ≤ 0
stmt_layer-flat (Stmt-F.Insert atom) p = omega arith
stmt_layer-flat (Stmt-F.Remove atom) p = omega arith
stmt_layer-flat Stmt-F.Abort p = omega arith
stmt_layer-flat (Stmt-F.Output port changes) p = omega arith
stmt_layer-flat (Stmt-F.Choose alternatives) p = absurd p
stmt_layer-flat (Stmt-F.Pick name kind body) p = absurd p.2

stmt_layer-bounds : (n : ℕ) (P : List Alternative → Type 0) (R : List Stmt → Type 0) →
    Bounds (deepest depth_of_alternative) n P → Bounds (deepest depth_of_statement) n R →
    (layer : Stmt-F Stmt Alternative) → StmtLayer P R layer →
    stmt_depth depth_of_statement depth_of_alternative layer ≤ suc n
stmt_layer-bounds n P R f g (Stmt-F.Insert atom) p = omega arith
stmt_layer-bounds n P R f g (Stmt-F.Remove atom) p = omega arith
stmt_layer-bounds n P R f g Stmt-F.Abort p = omega arith
stmt_layer-bounds n P R f g (Stmt-F.Output port changes) p = omega arith
stmt_layer-bounds n P R f g (Stmt-F.Choose alternatives) p = omega (arith, f alternatives p)
stmt_layer-bounds n P R f g (Stmt-F.Pick name kind body) p = omega (arith, g body p.2)

pub stmt-bounds : (n : ℕ) → Bounds depth_of_statement n (StmtFits n)
unfolding StmtFits
stmt-bounds zero stmt p = rw (statement_depth_is stmt) (stmt_layer-flat (out-Stmt stmt) p)
stmt-bounds (suc n) stmt p = rw (statement_depth_is stmt)
    (stmt_layer-bounds n (OneOrMore (AlternativeLayer (GuardFits n) (StmtFits n))) (All (StmtFits n))
    (some-bounds depth_of_alternative n (AlternativeLayer (GuardFits n) (StmtFits n))
    (alternative-bounds_by n (GuardFits n) (StmtFits n) (guard-bounds n) (stmt-bounds n)))
    (all-bounds depth_of_statement n (StmtFits n) (stmt-bounds n)) (out-Stmt stmt) p)

stmt_layer-low : (P : List Alternative → Type 0) (R : List Stmt → Type 0) (layer : Stmt-F Stmt Alternative) →
    StmtLayer P R layer → stmt_depth depth_of_statement depth_of_alternative layer ≤ 0 →
    StmtLayer (λ branches. ⊥) (λ block. ⊥) layer
stmt_layer-low P R (Stmt-F.Insert atom) p le = p
stmt_layer-low P R (Stmt-F.Remove atom) p le = p
stmt_layer-low P R Stmt-F.Abort p le = p
stmt_layer-low P R (Stmt-F.Output port changes) p le = p
stmt_layer-low P R (Stmt-F.Choose alternatives) p le = omega (arith, le)
stmt_layer-low P R (Stmt-F.Pick name kind body) p le = absurd (omega (arith, le))

stmt_layer-within : (n : ℕ) (P Q : List Alternative → Type 0) (R S : List Stmt → Type 0) →
    Within (deepest depth_of_alternative) n P Q → Within (deepest depth_of_statement) n R S →
    (layer : Stmt-F Stmt Alternative) → StmtLayer P R layer →
    stmt_depth depth_of_statement depth_of_alternative layer ≤ suc n → StmtLayer Q S layer
stmt_layer-within n P Q R S f g (Stmt-F.Insert atom) p le = p
stmt_layer-within n P Q R S f g (Stmt-F.Remove atom) p le = p
stmt_layer-within n P Q R S f g Stmt-F.Abort p le = p
stmt_layer-within n P Q R S f g (Stmt-F.Output port changes) p le = p
stmt_layer-within n P Q R S f g (Stmt-F.Choose alternatives) p le = f alternatives p (omega (arith, le))
stmt_layer-within n P Q R S f g (Stmt-F.Pick name kind body) p le = (p.0, p.1, g body p.2 (omega (arith, le)))

pub stmt-within : (m n : ℕ) → Within depth_of_statement n (StmtFits m) (StmtFits n)
unfolding StmtFits
stmt-within zero n stmt p le = stmt-rises zero n (omega arith) stmt p
stmt-within (suc m) zero stmt p le =
    let low : stmt_depth depth_of_statement depth_of_alternative (out-Stmt stmt) ≤ 0 =
    rw (sym (statement_depth_is stmt)) le in
    stmt_layer-low (OneOrMore (AlternativeLayer (GuardFits m) (StmtFits m))) (All (StmtFits m)) (out-Stmt stmt) p low
stmt-within (suc m) (suc n) stmt p le =
    let low : stmt_depth depth_of_statement depth_of_alternative (out-Stmt stmt) ≤ suc n =
    rw (sym (statement_depth_is stmt)) le in
    stmt_layer-within n (OneOrMore (AlternativeLayer (GuardFits m) (StmtFits m)))
    (OneOrMore (AlternativeLayer (GuardFits n) (StmtFits n))) (All (StmtFits m)) (All (StmtFits n))
    (some-within depth_of_alternative n (AlternativeLayer (GuardFits m) (StmtFits m))
    (AlternativeLayer (GuardFits n) (StmtFits n))
    (alternative-within_by n (GuardFits m) (GuardFits n) (StmtFits m) (StmtFits n) (guard-within m n)
    (stmt-within m n)))
    (all-within depth_of_statement n (StmtFits m) (StmtFits n) (stmt-within m n)) (out-Stmt stmt) p low

-- classes, items and trees

handler-bounds : (n : ℕ) → Bounds depth_of_handler n (HandlerFits n)
handler-bounds n handler p = all-bounds depth_of_statement n (StmtFits n) (stmt-bounds n) handler.body p.1

handler-within : (m n : ℕ) → Within depth_of_handler n (HandlerFits m) (HandlerFits n)
handler-within m n handler p le =
    (p.0, all-within depth_of_statement n (StmtFits m) (StmtFits n) (stmt-within m n) handler.body p.1 le)

class-bounds : (n : ℕ) → Bounds depth_of_class n (ClassFits n)
class-bounds n class p = all-bounds depth_of_handler n (HandlerFits n) (handler-bounds n) class.handlers p.handlers

class-within : (m n : ℕ) → Within depth_of_class n (ClassFits m) (ClassFits n)
class-within m n class p le = record {
  named = p.named;
  ports = p.ports;
  relations = p.relations;
  handlers =
      all-within depth_of_handler n (HandlerFits m) (HandlerFits n) (handler-within m n) class.handlers p.handlers le;
}

pub item-built : (n : ℕ) (item : Item) → ItemFits n item → IsBuiltItem item
item-built n (OfClass class) p = (n, p)
item-built n (Kind name values) p = p
item-built n (Field name kind) p = p
item-built n (Host name) p = p
item-built n (Instance name class first) p = p
item-built n (Link one two) p = p
item-built n (Sends host pattern) p = p
item-built n (Forbid host pattern) p = p

pub item-bounds : (n : ℕ) → Bounds depth_of_item n (ItemFits n)
item-bounds n (OfClass class) p = class-bounds n class p
item-bounds n (Kind name values) p = omega arith
item-bounds n (Field name kind) p = omega arith
item-bounds n (Host name) p = omega arith
item-bounds n (Instance name class first) p = omega arith
item-bounds n (Link one two) p = omega arith
item-bounds n (Sends host pattern) p = omega arith
item-bounds n (Forbid host pattern) p = omega arith

pub item-within : (n : ℕ) → Within depth_of_item n IsBuiltItem (ItemFits n)
item-within n (OfClass class) p le = class-within p.0 n class p.1 le
item-within n (Kind name values) p le = p
item-within n (Field name kind) p le = p
item-within n (Host name) p le = p
item-within n (Instance name class first) p le = p
item-within n (Link one two) p le = p
item-within n (Sends host pattern) p le = p
item-within n (Forbid host pattern) p le = p

pub item_fits : (n : ℕ) (item : Item) → ItemFits n item ↔ (IsBuiltItem item × (depth_of_item item ≤ n))
item_fits n item = ((λ p. (item-built n item p, item-bounds n item p)), (λ p. item-within n item p.0 p.1))

pub tree_shaped : (tree : Tree) → IsShaped tree ↔ (IsWellBuilt tree × (depth_of_tree tree ≤ 32))
tree_shaped tree = (
  (λ p. (
    record { named = p.named; items = All-weaker (ItemFits 32) IsBuiltItem (item-built 32) tree.items p.items },
    all-bounds depth_of_item 32 (ItemFits 32) (item-bounds 32) tree.items p.items,
  )),
  (λ p. record {
    named = p.0.named;
    items = all-within depth_of_item 32 IsBuiltItem (ItemFits 32)
        (item-within 32) tree.items p.0.items p.1;
  }),
)
