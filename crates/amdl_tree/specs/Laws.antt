-- Laws over the definitions.
use Rattle.std.specs.Prelude.{◌≡◌, ◌↔◌, ◌≤◌, Bool, true, ℕ, List, [], ◌++◌}
use Rattle.std.specs.List.{All}
use Rattle.amdl_tree.specs.Word.{IsWord, EndsWord, spelling_of_reserved}
use Rattle.amdl_tree.specs.Layout.{layout_of_tree}
use Rattle.amdl_tree.specs.WellBuilt.{OneOrMore, IsBuiltEqual, IsBuiltEnd, LitLayer, GuardLayer, StmtLayer}
use Rattle.amdl_tree.specs.WellBuilt.{AlternativeLayer, IsBuiltLit, IsBuiltGuard, IsBuiltStmt, IsBuiltAlternative}
use Rattle.amdl_tree.specs.WellBuilt.{IsBuiltClass, IsBuiltItem, ItemFits, IsWellBuilt, IsShaped}
use Rattle.amdl_tree.specs.Spelling.{spell_of_lit, spell_of_guard, spell_of_statement, spell_of_statements}
use Rattle.amdl_tree.specs.Spelling.{spell_of_class, spell_of_pattern, spell_of_end, spell_of_item, spell}
use Rattle.amdl_tree.specs.Lexical.{StandsFor}
use Rattle.amdl_tree.specs.NetworkFile.{IsFileOf}
use Rattle.amdl_tree.specs.GoesOn.{Once, never, goes_guard, goes_pattern, goes_end, starts_statement, starts_item}
use Rattle.amdl_tree.specs.Depth.{depth_of_item, depth_of_tree}
use Rattle.amdl_tree.specs.Derivation.{IsDerivable}
use Rattle.amdl_tree.specs.declared.reserved.Reserved.{Reserved}
use Rattle.amdl_tree.specs.declared.token.Token.{Token}
use Rattle.amdl_tree.specs.declared.guard.Guard.{Guard}
use Rattle.amdl_tree.specs.declared.guard.Lit.{Lit}
use Rattle.amdl_tree.specs.declared.guard.Lit.TheViews.{out-Lit}
use Rattle.amdl_tree.specs.declared.statement.Alternative.{Alternative}
use Rattle.amdl_tree.specs.declared.statement.Stmt.{Stmt}
use Rattle.amdl_tree.specs.declared.statement.Stmt.TheViews.{out-Stmt}
use Rattle.amdl_tree.specs.declared.tree.Item.{Item}
use Rattle.amdl_tree.specs.declared.tree.Tree.{Tree}

-- a text stands for at most one token list
abbrev pub StandsOnce : Type 0
StandsOnce =
    (text : List ℕ) (tokens others : List Token) → StandsFor text tokens → StandsFor text others → tokens ≡ others

-- no two trees that texts can spell have one layout
abbrev pub LayoutIsOneToOne : Type 0
LayoutIsOneToOne = (t u : Tree) → IsWellBuilt t → IsWellBuilt u → layout_of_tree t ≡ layout_of_tree u → t ≡ u

-- the layout of a tree that a text can spell is read as the spelling of the tree
abbrev pub LayoutStands : Type 0
LayoutStands = (tree : Tree) → IsWellBuilt tree → StandsFor (layout_of_tree tree) (spell tree)

-- no two trees that texts can spell have one spelling
abbrev pub SpellingIsOneToOne : Type 0
SpellingIsOneToOne = (t u : Tree) → IsWellBuilt t → IsWellBuilt u → spell t ≡ spell u → t ≡ u

-- a text is the network file of at most one tree
abbrev pub FileIsOfOneTree : Type 0
FileIsOfOneTree = (text : List ℕ) (t u : Tree) → IsFileOf text t → IsFileOf text u → t ≡ u

-- the layout of a shaped tree is its network file
abbrev pub LayoutIsFile : Type 0
LayoutIsFile = (tree : Tree) → IsShaped tree → IsFileOf (layout_of_tree tree) tree

-- A guard is well built exactly where it is made of one or more lists of one or more well-built literals; a literal, a
-- statement and an alternative exactly where their parts are.
pub record BuiltByParts : Type 0 where
  pub guard : (guard : Guard) → IsBuiltGuard guard ↔ GuardLayer IsBuiltLit guard
  pub lit : (lit : Lit) → IsBuiltLit lit ↔ LitLayer IsBuiltLit IsBuiltGuard (out-Lit lit)
  pub alternative : (alternative : Alternative) →
      IsBuiltAlternative alternative ↔ AlternativeLayer IsBuiltGuard IsBuiltStmt alternative
  pub stmt : (stmt : Stmt) →
      IsBuiltStmt stmt ↔ StmtLayer (OneOrMore IsBuiltAlternative) (All IsBuiltStmt) (out-Stmt stmt)

-- a token list begins with at most one well-built part of each kind, where what follows does not go on with the part
pub record PartsAreSpelledOnce : Type 0 where
  pub lit : Once spell_of_lit IsBuiltLit (λ lit. never)
  pub guard : Once spell_of_guard IsBuiltGuard (λ guard. goes_guard)
  pub stmt : Once spell_of_statement IsBuiltStmt (λ stmt. never)
  pub statements : Once spell_of_statements (All IsBuiltStmt) (λ body. starts_statement)
  pub class : Once spell_of_class IsBuiltClass (λ class. never)
  pub pattern : Once spell_of_pattern (All IsBuiltEqual) goes_pattern
  pub end : Once spell_of_end IsBuiltEnd goes_end
  pub item : Once spell_of_item IsBuiltItem (λ item. never)
  pub tree : Once spell IsWellBuilt (λ tree. starts_item)

-- an item fits within n levels exactly where it is well built and its depth is at most n
abbrev pub FitsByDepth : Type 0
FitsByDepth = (n : ℕ) (item : Item) → ItemFits n item ↔ (IsBuiltItem item × (depth_of_item item ≤ n))

-- a tree is shaped exactly where it is well built and its depth is at most 32
abbrev pub ShapedByDepth : Type 0
ShapedByDepth = (tree : Tree) → IsShaped tree ↔ (IsWellBuilt tree × (depth_of_tree tree ≤ 32))

-- a text begins with at most one word that ends there
abbrev pub WordsSplit : Type 0
WordsSplit =
    (n m a b : List ℕ) → IsWord n → IsWord m → EndsWord a → EndsWord b → n ++ a ≡ m ++ b → (n ≡ m) × (a ≡ b)

-- no two reserved words have one spelling
abbrev pub ReservedDiffer : Type 0
ReservedDiffer = (word other : Reserved) → spelling_of_reserved word ≡ spelling_of_reserved other → word ≡ other

-- the relation of a test
abbrev pub Follows : {A : Type 0} → (List A → A → Bool) → List A → A → Type 0
Follows test premises conclusion = test premises conclusion ≡ true

-- what is derivable is the least set that the rules keep
pub record IsLeastKept {A : Type 0} (test : List A → A → Bool) : Type 0 where
  pub start : (c : A) → Follows test [] c → IsDerivable (Follows test) c
  pub step : (premises : List A) (c : A) → All (IsDerivable (Follows test)) premises → Follows test premises c →
      IsDerivable (Follows test) c
  pub from : (c : A) → IsDerivable (Follows test) c →
      (premises : List A) × All (IsDerivable (Follows test)) premises × Follows test premises c
  pub least : (p : A → Bool) →
      ((premises : List A) (c : A) → All (λ x. p x ≡ true) premises → Follows test premises c → p c ≡ true) → (c : A) →
      IsDerivable (Follows test) c → p c ≡ true

abbrev pub DerivableIsLeast : Type 0 → Type 0
DerivableIsLeast A = (test : List A → A → Bool) → IsLeastKept test
