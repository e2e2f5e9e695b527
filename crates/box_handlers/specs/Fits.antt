-- When a handler fits the network around it: its numbers are in range, and its terms have the types that their places
-- ask.
use Rattle.std.specs.Prelude.{◌≡◌, ◌≢◌, ℕ, ◌<◌, List, [], ◌∷◌, ◌++◌, Some, slice_get}
use Rattle.std.specs.List.{AllPairs}
use Rattle.box_handlers.specs.declared.act.Term.{Term}
use Rattle.box_handlers.specs.declared.act.Term.TheVariants.{Field, Value, Picked}
use Rattle.box_handlers.specs.declared.act.Change.{Change}
use Rattle.box_handlers.specs.declared.act.Query.{Query}
use Rattle.box_handlers.specs.Body.{Formula, Holds, Alike, Unlike, Denied, Grouped, Both, Either, Body, Stop, Writes}
use Rattle.box_handlers.specs.Body.{Emit, Halt, Fork, Each, Branches, NoBranch, OneBranch}

-- what a handler sees of the network and of its class
pub record Surroundings : Type 0 where
  -- how many values each type has
  pub sizes : List ℕ
  -- the type of each field
  pub fields : List ℕ
  -- the argument types of each relation
  pub relations : List (List ℕ)
  -- how many ports there are
  pub ports : ℕ

-- a term fits a type: a field of it, a value that it has, or a pick, of those that are open, with so many values
abbrev pub TermFits : Surroundings → List ℕ → ℕ → Term → Type 0
TermFits around picks kind (Field k) = slice_get around.fields k ≡ Some kind
TermFits around picks kind (Value x) = (size : ℕ) × (slice_get around.sizes kind ≡ Some size) × (x < size)
TermFits around picks kind (Picked i) =
    (size : ℕ) × (slice_get around.sizes kind ≡ Some size) × (slice_get picks i ≡ Some size)

-- as many terms as types, each of its type
abbrev pub TermsFit : Surroundings → List ℕ → List ℕ → List Term → Type 0
TermsFit around picks [] [] = Unit {0}
TermsFit around picks (kind ∷ kinds) (term ∷ terms) =
    TermFits around picks kind term × TermsFit around picks kinds terms
TermsFit around picks _ _ = ⊥

-- the arguments of a query are those that its relation asks
abbrev pub QueryFits : Surroundings → List ℕ → Query → Type 0
QueryFits around picks query =
    (kinds : List ℕ) × (slice_get around.relations query.relation ≡ Some kinds) × TermsFit around picks kinds query.args

-- two terms are of one type
abbrev pub AreOfOneKind : Surroundings → List ℕ → Term → Term → Type 0
AreOfOneKind around picks one two = (kind : ℕ) × TermFits around picks kind one × TermFits around picks kind two

-- a field is changed to a term of its type
abbrev pub ChangeFits : Surroundings → List ℕ → Change → Type 0
ChangeFits around picks change =
    (kind : ℕ) × (slice_get around.fields change.field ≡ Some kind) × TermFits around picks kind change.to

abbrev pub ChangesFit : Surroundings → List ℕ → List Change → Type 0
ChangesFit around picks [] = Unit {0}
ChangesFit around picks (change ∷ changes) = ChangeFits around picks change × ChangesFit around picks changes

abbrev pub FormulaFits : Surroundings → List ℕ → Formula → Type 0
FormulaFits around picks (Holds query) = QueryFits around picks query
FormulaFits around picks (Alike one two) = AreOfOneKind around picks one two
FormulaFits around picks (Unlike one two) = AreOfOneKind around picks one two
FormulaFits around picks (Denied formula) = FormulaFits around picks formula
FormulaFits around picks (Grouped formula) = FormulaFits around picks formula
FormulaFits around picks (Both one two) = FormulaFits around picks one × FormulaFits around picks two
FormulaFits around picks (Either one two) = FormulaFits around picks one × FormulaFits around picks two
FormulaFits around picks _ = Unit {0}

-- a block fits where the picks around it have so many values, the outermost first: no output changes a field twice, and
-- each
-- pick has as many values as some type
abbrev mutual
  pub Fits : Surroundings → Body → List ℕ → Type 0
  Fits around Stop picks = Unit {0}
  Fits around (Writes query add rest) picks = QueryFits around picks query × Fits around rest picks
  Fits around (Emit port changes rest) picks =
      (port < around.ports) × ChangesFit around picks changes × AllPairs (λ one two. one.field ≢ two.field) changes
      × Fits around rest picks
  Fits around (Halt rest) picks = Fits around rest picks
  Fits around (Fork branches rest) picks = BranchesFit around branches picks × Fits around rest picks
  Fits around (Each values body rest) picks =
      ((kind : ℕ) × (slice_get around.sizes kind ≡ Some values)) × Fits around body (picks ++ values ∷ [])
      × Fits around rest picks

  pub BranchesFit : Surroundings → Branches → List ℕ → Type 0
  BranchesFit around NoBranch picks = Unit {0}
  BranchesFit around (OneBranch guard body more) picks =
      FormulaFits around picks guard × Fits around body picks × BranchesFit around more picks

-- values of the picks around a block, each below the number of values of its pick
abbrev pub ArePicked : List ℕ → List ℕ → Type 0
ArePicked [] [] = Unit {0}
ArePicked (size ∷ picks) (value ∷ picked) = (value < size) × ArePicked picks picked
ArePicked _ _ = ⊥
