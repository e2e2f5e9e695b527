-- What a set of cells says of the facts of a network.
use Rattle.std.specs.Prelude.{◌≡◌, ℕ, ◌<◌, ◌≤◌, ◌⊎◌, Bool, List, [], ◌∷◌, ◌++◌}
use Rattle.std.specs.List.{All, Contains}
use Rattle.cell_sets.specs.Marks.{HasCell}
use Rattle.net_plan.specs.declared.plan.Plan.{Plan}
use Rattle.net_plan.specs.declared.fact.Fact.{Fact}
use Rattle.net_plan.specs.declared.fact.Fact.TheVariants.{State}
use Rattle.net_plan.specs.Cells.{IsInRange, cell_of}
use Rattle.net_plan.specs.Fact.{ListsExactly}
use Rattle.net_plan.specs.Follows.{IsBad}
use Rattle.plan_text.specs.declared.findings.Findings.{Findings}
use Rattle.plan_text.specs.Found.{Summarises}
use Rattle.plan_text.specs.Text.{HasLine}

-- a fact whose cell is in the set
pub record IsFactOf (plan : Plan) (marks : List Bool) (fact : Fact) : Type 0 where
  pub in_range : IsInRange plan fact
  pub has : HasCell marks (cell_of plan fact)

-- a bad one of the facts
abbrev pub IsBadAmong : Plan → List Fact → Fact → Type 0
IsBadAmong plan facts fact = Contains facts fact × IsBad plan fact

-- the findings are those of the facts of the set, and each bad fact that is listed has a line
pub record AreFindings (plan : Plan) (marks : List Bool) (findings : Findings) : Type 0 where
  pub facts : List Fact
  pub bad : List Fact
  pub all : ListsExactly (IsFactOf plan marks) facts
  pub bad_ones : ListsExactly (IsBadAmong plan facts) bad
  pub summarises : Summarises findings facts bad
  pub lines : All (HasLine plan) findings.listed

-- the same of the facts whose cells are below this one
pub record AreFindingsBelow (plan : Plan) (marks : List Bool) (from : ℕ) (findings : Findings) : Type 0 where
  pub facts : List Fact
  pub bad : List Fact
  pub all : ListsExactly (λ fact. IsFactOf plan marks fact × (cell_of plan fact < from)) facts
  pub bad_ones : ListsExactly (IsBadAmong plan facts) bad
  pub summarises : Summarises findings facts bad
  pub lines : All (HasLine plan) findings.listed

-- no number of the findings is over this one
pub record AreAtMost (most : ℕ) (findings : Findings) : Type 0 where
  pub outs : findings.outs ≤ most
  pub states : findings.states ≤ most
  pub aborts : findings.aborts ≤ most
  pub bad : findings.bad ≤ most

-- one fact more, which isn't bad, or is
pub record AddsGood (plan : Plan) (fact : Fact) (old new : Findings) : Type 0 where
  pub good : IsBad plan fact → ⊥
  pub summarises : (facts bad : List Fact) → Summarises old facts bad → Summarises new (facts ++ fact ∷ []) bad
  pub listed : new.listed ≡ old.listed

pub record AddsBad (plan : Plan) (fact : Fact) (old new : Findings) : Type 0 where
  pub bad : IsBad plan fact
  pub summarises : (facts bad : List Fact) → Summarises old facts bad →
      Summarises new (facts ++ fact ∷ []) (bad ++ fact ∷ [])
  pub lines : All (HasLine plan) new.listed

abbrev pub Adds : Plan → Fact → Findings → Findings → Type 0
Adds plan fact old new = AddsGood plan fact old new ⊎ AddsBad plan fact old new

-- a fact of the cell more
pub record AddsCell (plan : Plan) (cell : ℕ) (old new : Findings) : Type 0 where
  pub fact : Fact
  pub in_range : IsInRange plan fact
  pub cell_is : cell_of plan fact ≡ cell
  pub adds : Adds plan fact old new

-- the cell is that of answers of a box
pub record IsStateCell (plan : Plan) (cell : ℕ) : Type 0 where
  pub box : ℕ
  pub packet : ℕ
  pub mask : ℕ
  pub in_range : IsInRange plan (State box packet mask)
  pub cell_is : cell_of plan (State box packet mask) ≡ cell

-- and so is each from one up to another, without that one
abbrev pub AreStateCells : Plan → ℕ → ℕ → Type 0
AreStateCells plan from to = (cell : ℕ) → from ≤ cell → cell < to → IsStateCell plan cell
