-- What choices come to at a handler: an execution, or a first choice that no execution makes.
use Rattle.std.specs.Prelude.{◌≡◌, ◌≢◌, ℕ, ◌+◌, ◌<◌, ◌≤◌, ◌⊎◌, List, [], ◌++◌, length, take, All, map}
use Rattle.box_contents.specs.declared.entry.Entry.{Entry}
use Rattle.box_handlers.specs.declared.act.Act.{Act}
use Rattle.box_handlers.specs.Fits.{Surroundings}
use Rattle.box_handlers.specs.Tuple.{tuples_over}
use Rattle.box_executions.specs.Environment.{Environment}
use Rattle.box_executions.specs.Execution.{Outcome, Done, Aborted, Executes}
use Rattle.box_executions.specs.Laws.{IsReady}
use Rattle.handler_runs.specs.declared.handling.Ending.{Ending}
use Rattle.handler_runs.specs.declared.handling.Ending.TheVariants as ending
use Rattle.handler_runs.specs.declared.handling.ExecuteRefusal.{ExecuteRefusal}
use Rattle.handler_runs.specs.declared.handling.ExecuteRefusal.TheVariants.{BadChoice, NoMemory}
use Rattle.handler_runs.specs.Code.{emission_of}
use Rattle.handler_runs.specs.Run.{Standing, Answer, Goes, Aborts, Stuck}

-- the environment of a handler, around which no pick is open
abbrev pub environment : List ℕ → List (List ℕ) → ℕ → Environment
environment headers relations packet =
    record { headers = headers; relations = relations; packet = packet; picked = [] }

-- the handler and the contents fit the environment, and each relation has few enough tuples
pub record IsExecutable (env : Environment) (handler : List Act) (contents : List Entry) : Type 0 where
  pub around : Surroundings
  pub ready : IsReady around [] env handler contents
  pub few : All (λ sizes. tuples_over sizes ≤ 65536) env.relations

abbrev pub outcome_of : Ending → Outcome
outcome_of (ending.Done contents outputs) = Done contents (map emission_of outputs)
outcome_of ending.Aborted = Aborted

-- these choices are the first ones of an execution
abbrev pub Begins : Environment → List Act → List Entry → List ℕ → Type 0
Begins env handler contents choices =
    (more : List ℕ) × (outcome : Outcome) × Executes env handler contents (choices ++ more) outcome

-- the choices before this one are the first ones of an execution, and with it they are not; or it is the number of the
-- choices, and these are the first ones of an execution and none themselves
pub record IsFirstBad (env : Environment) (handler : List Act) (contents : List Entry) (choices : List ℕ) (k : ℕ) :
    Type 0 where
  pub begun : Begins env handler contents (take k choices)
  pub ends :
      ((k < length choices) × (Begins env handler contents (take (k + 1) choices) → ⊥))
      ⊎ ((k ≡ length choices) × ((outcome : Outcome) → Executes env handler contents choices outcome → ⊥))

-- a refusal that is right; want of memory is tied to no cause
abbrev pub IsRefused : Environment → List Act → List Entry → List ℕ → ExecuteRefusal → Type 0
IsRefused env handler contents choices (BadChoice k) = IsFirstBad env handler contents choices k
IsRefused env handler contents choices NoMemory = Unit {0}

-- where a run begins
abbrev pub start : List Entry → List ℕ → Standing
start contents choices = record { contents = contents; outputs = []; left = choices }

-- the end of a run that used all choices
abbrev pub answer_at_end : Outcome → Answer
answer_at_end (Done contents outputs) = Goes (record { contents = contents; outputs = outputs; left = [] })
answer_at_end Aborted = Aborts []

-- a run that is stuck, or that left choices
abbrev pub IsBadEnd : Answer → Type 0
IsBadEnd (Goes now) = now.left ≢ []
IsBadEnd (Aborts left) = left ≢ []
IsBadEnd (Stuck left) = Unit {0}
