-- Laws of executions.
use Rattle.std.specs.Prelude.{◌≡◌, ℕ, ◌<◌, List, ◌∷◌, ◌++◌, Some, slice_get}
use Rattle.header_set.specs.Headers.{IsHeaders}
use Rattle.box_contents.specs.declared.entry.Entry.{Entry}
use Rattle.box_handlers.specs.declared.act.Branch.{Branch}
use Rattle.box_handlers.specs.declared.act.Act.{Act}
use Rattle.box_handlers.specs.declared.act.Act.TheVariants.{Choose, Pick}
use Rattle.box_handlers.specs.Body.{body_of}
use Rattle.box_handlers.specs.Fits.{Surroundings, Fits}
use Rattle.box_executions.specs.Environment.{Environment}
use Rattle.box_executions.specs.Guard.{GuardIsTrue}
use Rattle.box_executions.specs.Execution.{Outcome, Behaviour, Runs, Executes}
use Rattle.box_executions.specs.Shape.{IsEnvironment, AreContents, IsOutcome}
use Rattle.box_executions.specs.Table.{GuardTable, StatementTable}

-- the tables of probes and of statements
abbrev pub GuardMeanings : Type 0
GuardMeanings = (env : Environment) (contents : List Entry) → GuardTable env contents

abbrev pub StatementMeanings : Type 0
StatementMeanings =
    (env : Environment) (rest : List Act) (contents : List Entry) (choices : List ℕ) (outcome : Outcome)
    (left : List ℕ) →
    StatementTable env rest contents choices outcome left

-- the choices that are left stand behind those that are used, and with others in their place the outcome is the same
pub record UsesFront (runs : Behaviour) (contents : List Entry) (choices : List ℕ) (outcome : Outcome)
    (left : List ℕ) : Type 0 where
  pub used : List ℕ
  pub stood : choices ≡ used ++ left
  pub others : (other : List ℕ) → runs contents (used ++ other) outcome other

abbrev pub ExecutionUsesFront : Type 0
ExecutionUsesFront =
    (env : Environment) (acts : List Act) (contents : List Entry) (choices left : List ℕ) (outcome : Outcome) →
    Runs env acts contents choices outcome left → UsesFront (Runs env acts) contents choices outcome left

-- the choices that are used settle the outcome, and which choices are left
abbrev pub ExecutionIsDetermined : Type 0
ExecutionIsDetermined =
    (env : Environment) (acts : List Act) (contents : List Entry) (choices left other : List ℕ) (one two : Outcome) →
    IsHeaders env.headers →
    Runs env acts contents choices one left → Runs env acts contents choices two other → (one ≡ two) × (left ≡ other)

-- what fits: the statements and the contents, where these picks are open
pub record IsReady (around : Surroundings) (picks : List ℕ) (env : Environment) (acts : List Act)
    (contents : List Entry) : Type 0 where
  pub environment : IsEnvironment around picks env
  pub fits : Fits around (body_of acts) picks
  pub contents_fit : AreContents env.relations contents

-- an execution leaves contents that fit, and puts out packets that are in range at ports that are there
abbrev pub OutcomeIsInRange : Type 0
OutcomeIsInRange =
    (around : Surroundings) (picks : List ℕ) (env : Environment) (acts : List Act) (contents : List Entry)
    (choices left : List ℕ) (outcome : Outcome) →
    IsReady around picks env acts contents → Runs env acts contents choices outcome left →
    IsOutcome around.ports env.headers env.relations outcome

-- there is an execution
abbrev pub HandlerExecutes : Type 0
HandlerExecutes =
    (around : Surroundings) (picks : List ℕ) (env : Environment) (acts : List Act) (contents : List Entry) →
    IsReady around picks env acts contents →
    (choices : List ℕ) × (outcome : Outcome) × Executes env acts contents choices outcome

-- there is one that begins with this branch, whose guard is true
abbrev pub BranchBegins : Type 0
BranchBegins =
    (around : Surroundings) (picks : List ℕ) (env : Environment) (branches : List Branch) (rest : List Act)
    (contents : List Entry) (number : ℕ) (branch : Branch) →
    IsReady around picks env (Choose branches ∷ rest) contents → slice_get branches number ≡ Some branch →
    GuardIsTrue env contents branch →
    (choices : List ℕ) × (outcome : Outcome)
    × Executes env (Choose branches ∷ rest) contents (number ∷ choices) outcome

-- and one that begins with this value
abbrev pub ValueBegins : Type 0
ValueBegins =
    (around : Surroundings) (picks : List ℕ) (env : Environment) (values : ℕ) (body rest : List Act)
    (contents : List Entry) (value : ℕ) →
    IsReady around picks env (Pick values body ∷ rest) contents → value < values →
    (choices : List ℕ) × (outcome : Outcome)
    × Executes env (Pick values body ∷ rest) contents (value ∷ choices) outcome
