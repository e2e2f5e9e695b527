-- Trees that a text can spell, and how deep their parts stand within one another.
use Rattle.std.specs.Prelude.{◌≢◌, ℕ, zero, suc, List, [], ⊤}
use Rattle.std.specs.List.{All}
use Rattle.amdl_tree.specs.Word.{IsName}
use Rattle.amdl_tree.specs.declared.guard.Atom.{Atom}
use Rattle.amdl_tree.specs.declared.guard.Guard.{Guard}
use Rattle.amdl_tree.specs.declared.guard.Lit.{Lit}
use Rattle.amdl_tree.specs.declared.guard.Lit.TheOpen.{Lit-F}
use Rattle.amdl_tree.specs.declared.guard.Lit.TheViews.{out-Lit}
use Rattle.amdl_tree.specs.declared.statement.Alternative.{Alternative}
use Rattle.amdl_tree.specs.declared.statement.Stmt.{Stmt}
use Rattle.amdl_tree.specs.declared.statement.Stmt.TheOpen.{Stmt-F}
use Rattle.amdl_tree.specs.declared.statement.Stmt.TheViews.{out-Stmt}
use Rattle.amdl_tree.specs.declared.class.Class.{Class}
use Rattle.amdl_tree.specs.declared.class.Handler.{Handler}
use Rattle.amdl_tree.specs.declared.class.Relation.{Relation}
use Rattle.amdl_tree.specs.declared.tree.Equal.{Equal}
use Rattle.amdl_tree.specs.declared.tree.End.{End}
use Rattle.amdl_tree.specs.declared.tree.End.TheVariants.{Host as AtHost, Port as AtPort}
use Rattle.amdl_tree.specs.declared.tree.Item.{Item}
use Rattle.amdl_tree.specs.declared.tree.Item.TheVariants.{Kind, Field, Class as OfClass, Host, Instance, Link, Sends}
use Rattle.amdl_tree.specs.declared.tree.Item.TheVariants.{Forbid}
use Rattle.amdl_tree.specs.declared.tree.Tree.{Tree}

-- one or more, of which each is so
abbrev pub OneOrMore : {A : Type 0} → (A → Type 0) → List A → Type 0
OneOrMore P list = (list ≢ []) × All P list

abbrev pub IsBuiltEqual : Equal → Type 0
IsBuiltEqual equal = IsName equal.field × IsName equal.value

abbrev pub IsBuiltEnd : End → Type 0
IsBuiltEnd (AtHost host) = IsName host
IsBuiltEnd (AtPort box port) = IsName box × IsName port

abbrev pub IsBuiltAtom : Atom → Type 0
IsBuiltAtom atom = IsName atom.relation × OneOrMore IsName atom.args

-- a literal, where the literal behind a `not` is so and the guard of a group is so
abbrev pub LitLayer : (Lit → Type 0) → (Guard → Type 0) → Lit-F Lit Guard → Type 0
LitLayer inner group Lit-F.True = ⊤
LitLayer inner group (Lit-F.Has atom) = IsBuiltAtom atom
LitLayer inner group (Lit-F.Same one two) = IsName one × IsName two
LitLayer inner group (Lit-F.Differ one two) = IsName one × IsName two
LitLayer inner group (Lit-F.Not lit) = inner lit
LitLayer inner group (Lit-F.Group guard) = group guard

-- a guard whose literals are so
abbrev pub GuardLayer : (Lit → Type 0) → Guard → Type 0
GuardLayer literal guard = OneOrMore (OneOrMore literal) guard.any

-- well built, and at most n of its `not`s and groups stand within one another
unfoldable pub LitFits : ℕ → Lit → Type 0
LitFits zero lit = LitLayer (λ inner. ⊥) (λ group. ⊥) (out-Lit lit)
LitFits (suc n) lit = LitLayer (LitFits n) (GuardLayer (LitFits n)) (out-Lit lit)

-- the same of a guard
abbrev pub GuardFits : ℕ → Guard → Type 0
GuardFits n = GuardLayer (LitFits n)

-- a statement, where the alternatives of an `if` are so and the block of a `pick` is so
abbrev pub StmtLayer : (List Alternative → Type 0) → (List Stmt → Type 0) → Stmt-F Stmt Alternative → Type 0
StmtLayer branches block (Stmt-F.Insert atom) = IsBuiltAtom atom
StmtLayer branches block (Stmt-F.Remove atom) = IsBuiltAtom atom
StmtLayer branches block Stmt-F.Abort = ⊤
StmtLayer branches block (Stmt-F.Output port changes) = IsName port × All IsBuiltEqual changes
StmtLayer branches block (Stmt-F.Choose alternatives) = branches alternatives
StmtLayer branches block (Stmt-F.Pick name kind body) = IsName name × IsName kind × block body

-- an alternative whose guard is so and the statements of whose block are so
abbrev pub AlternativeLayer : (Guard → Type 0) → (Stmt → Type 0) → Alternative → Type 0
AlternativeLayer guarded stated alternative = guarded alternative.guard × All stated alternative.body

-- well built, and at most n of its `if`s, `pick`s, `not`s and groups stand within one another
unfoldable pub StmtFits : ℕ → Stmt → Type 0
StmtFits zero stmt = StmtLayer (λ branches. ⊥) (λ block. ⊥) (out-Stmt stmt)
StmtFits (suc n) stmt =
    StmtLayer (OneOrMore (AlternativeLayer (GuardFits n) (StmtFits n))) (All (StmtFits n)) (out-Stmt stmt)

-- the same of an alternative, apart from its `if`
abbrev pub AlternativeFits : ℕ → Alternative → Type 0
AlternativeFits n = AlternativeLayer (GuardFits n) (StmtFits n)

abbrev pub IsBuiltRelation : Relation → Type 0
IsBuiltRelation relation = IsName relation.name × OneOrMore IsName relation.kinds

abbrev pub HandlerFits : ℕ → Handler → Type 0
HandlerFits n handler = IsName handler.port × All (StmtFits n) handler.body

-- well built, and at most n of its `if`s, `pick`s, `not`s and groups stand within one another
pub record ClassFits (n : ℕ) (class : Class) : Type 0 where
  pub named : IsName class.name
  pub ports : OneOrMore IsName class.ports
  pub relations : All IsBuiltRelation class.relations
  pub handlers : All (HandlerFits n) class.handlers

-- well built, at any depth
abbrev pub IsBuiltLit : Lit → Type 0
IsBuiltLit lit = (n : ℕ) × LitFits n lit

abbrev pub IsBuiltGuard : Guard → Type 0
IsBuiltGuard guard = (n : ℕ) × GuardFits n guard

abbrev pub IsBuiltStmt : Stmt → Type 0
IsBuiltStmt stmt = (n : ℕ) × StmtFits n stmt

abbrev pub IsBuiltAlternative : Alternative → Type 0
IsBuiltAlternative alternative = (n : ℕ) × AlternativeFits n alternative

abbrev pub IsBuiltHandler : Handler → Type 0
IsBuiltHandler handler = (n : ℕ) × HandlerFits n handler

abbrev pub IsBuiltClass : Class → Type 0
IsBuiltClass class = (n : ℕ) × ClassFits n class

-- its names are names, and each list of which the language asks one or more has one
abbrev pub IsBuiltItem : Item → Type 0
IsBuiltItem (Kind name values) = IsName name × (values ≢ []) × All IsName values
IsBuiltItem (Field name kind) = IsName name × IsName kind
IsBuiltItem (OfClass class) = IsBuiltClass class
IsBuiltItem (Host name) = IsName name
IsBuiltItem (Instance name class first) = IsName name × IsName class × All IsBuiltAtom first
IsBuiltItem (Link one two) = IsBuiltEnd one × IsBuiltEnd two
IsBuiltItem (Sends host pattern) = IsName host × All IsBuiltEqual pattern
IsBuiltItem (Forbid host pattern) = IsName host × All IsBuiltEqual pattern

-- well built, and of a depth of at most n, the depth being the length of the longest chain of `if`, `pick`, `not` and
-- groups in which each one stands within the one before it
abbrev pub ItemFits : ℕ → Item → Type 0
ItemFits n (OfClass class) = ClassFits n class
ItemFits n item = IsBuiltItem item

pub record IsWellBuilt (tree : Tree) : Type 0 where
  pub named : IsName tree.name
  pub items : All IsBuiltItem tree.items

-- well built, and of a depth of at most 32
pub record IsShaped (tree : Tree) : Type 0 where
  pub named : IsName tree.name
  pub items : All (ItemFits 32) tree.items
