-- Cells that are offered, by what is said of their facts.
use Rattle.std.specs.Prelude.{◌≡◌, ℕ, ◌+◌, ◌<◌, ◌≤◌, ◌⊎◌, List}
use Rattle.std.specs.List.{Contains}
use Rattle.fix_engine.specs.Progress.{Progress, found_in, Grows}
use Rattle.net_plan.specs.declared.plan.Plan.{Plan}
use Rattle.net_plan.specs.declared.fact.Fact.{Fact}
use Rattle.net_plan.specs.Cells.{IsInRange, cell_of}

-- the cell is that of a fact in range of which P holds
abbrev pub IsCellOf : Plan → (Fact → Type 0) → ℕ → Type 0
IsCellOf plan P cell = (fact : Fact) × IsInRange plan fact × P fact × (cell ≡ cell_of plan fact)

-- exactly the cells of the facts in range of which P holds were offered
pub record Offered (plan : Plan) (P : Fact → Type 0) (old new : Progress) : Type 0 where
  pub grows : Grows old new
  pub all : (fact : Fact) → IsInRange plan fact → P fact → Contains (found_in new) (cell_of plan fact)
  pub only : (cell : ℕ) → Contains (found_in new) cell → Contains (found_in old) cell ⊎ IsCellOf plan P cell

-- the fact is this one
abbrev pub Is : Fact → Fact → Type 0
Is fact other = other ≡ fact

-- the fact is in range, and its cell is done
abbrev pub IsDone : Plan → List ℕ → Fact → Type 0
IsDone plan done fact = IsInRange plan fact × Contains done (cell_of plan fact)

-- the cell of a number is done, where the cells begin at the first one
abbrev pub IsDoneIn : List ℕ → ℕ → ℕ → Type 0
IsDoneIn done first k = Contains done (first + k)

-- what holds of the facts of a number is not so from one number up to another, without that one
abbrev pub HasNone : (ℕ → Type 0) → ℕ → ℕ → Type 0
HasNone P from to = (k : ℕ) → from ≤ k → k < to → P k → ⊥

-- nor from one number on
abbrev pub HasNoneFrom : (ℕ → Type 0) → ℕ → Type 0
HasNoneFrom P from = (k : ℕ) → from ≤ k → P k → ⊥
