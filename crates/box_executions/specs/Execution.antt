-- The executions of a handler: its statements run one after another on the contents of the box, by choices that are
-- used in their order. A number that a statement names means something where the statements fit.
use Rattle.std.specs.Prelude.{◌≡◌, ℕ, ◌<◌, zero, suc, true, false, ◌⊎◌, List, [], ◌∷◌, ◌++◌}
use Rattle.box_contents.specs.declared.entry.Entry.{Entry}
use Rattle.box_contents.specs.Contents.{with_entry, without_entry}
use Rattle.box_handlers.specs.declared.act.Change.{Change}
use Rattle.box_handlers.specs.declared.act.Act.{Act}
use Rattle.box_handlers.specs.Body.{Body, Stop, Writes, Emit, Halt, Fork, Each, Branches, NoBranch, OneBranch, body_of}
use Rattle.box_executions.specs.Environment.{Environment, entry_in, with_pick, IsChanged}
use Rattle.box_executions.specs.Guard.{IsSatisfied}

-- a packet that is put out at a port
pub record Emission : Type 0 where
  pub port : ℕ
  pub packet : ℕ

-- how an execution ends
pub data Outcome : Type 0 where
  -- the contents that it leaves, and what it puts out, in order
  Done : List Entry → List Emission → Outcome
  Aborted : Outcome

-- how a piece of a handler may run: from which contents, by which choices, with which outcome, and which choices it
-- leaves
abbrev pub Behaviour : Type 1
Behaviour = List Entry → List ℕ → Outcome → List ℕ → Type 0

-- the outcome of what puts these out and goes on to an outcome
abbrev pub after_outputs : List Emission → Outcome → Outcome
after_outputs earlier (Done contents later) = Done contents (earlier ++ later)
after_outputs earlier Aborted = Aborted

-- the block runs, and then the rest, with the contents and the choices that the block leaves
pub record GoesOn (block rest : Behaviour) (contents : List Entry) (choices : List ℕ) (outcome : Outcome)
    (left : List ℕ) : Type 0 where
  pub mid : List Entry
  pub outputs : List Emission
  pub unused : List ℕ
  pub last : Outcome
  pub first : block contents choices (Done mid outputs) unused
  pub second : rest mid unused last left
  pub ends : outcome ≡ after_outputs outputs last

-- an abort of the block ends everything
abbrev pub InSequence : Behaviour → Behaviour → Behaviour
InSequence block rest contents choices outcome left =
    (block contents choices Aborted left × (outcome ≡ Aborted)) ⊎ GoesOn block rest contents choices outcome left

-- the packet with the changes is put out at the port, and then the rest runs
pub record PutsOutFirst (env : Environment) (port : ℕ) (changes : List Change) (rest : Behaviour)
    (contents : List Entry) (choices : List ℕ) (outcome : Outcome) (left : List ℕ) : Type 0 where
  pub packet : ℕ
  pub changed : IsChanged env changes packet
  pub last : Outcome
  pub second : rest contents choices last left
  pub ends : outcome ≡ after_outputs (record { port = port; packet = packet } ∷ []) last

-- the next choice is used: it says which block runs, and then the rest
pub record UsesChoice (block : ℕ → Behaviour) (rest : Behaviour) (contents : List Entry) (choices : List ℕ)
    (outcome : Outcome) (left : List ℕ) : Type 0 where
  pub choice : ℕ
  pub others : List ℕ
  pub next : choices ≡ choice ∷ others
  pub runs : InSequence (block choice) rest contents others outcome left

-- the block of a value, which is one of so many
abbrev pub WithValue : ℕ → (ℕ → Behaviour) → ℕ → Behaviour
WithValue values block value contents choices outcome left =
    (value < values) × block value contents choices outcome left

-- no guard of the branches is true
abbrev pub NoGuardIsTrue : Environment → List Entry → Branches → Type 0
NoGuardIsTrue env contents NoBranch = Unit {0}
NoGuardIsTrue env contents (OneBranch guard body more) =
    (IsSatisfied env contents guard → ⊥) × NoGuardIsTrue env contents more

abbrev mutual
  -- a block
  pub BodyRuns : Body → Environment → Behaviour
  BodyRuns Stop env contents choices outcome left = (outcome ≡ Done contents []) × (left ≡ choices)
  BodyRuns (Writes query true rest) env contents choices outcome left =
      BodyRuns rest env (with_entry contents (entry_in env query)) choices outcome left
  BodyRuns (Writes query false rest) env contents choices outcome left =
      BodyRuns rest env (without_entry contents (entry_in env query)) choices outcome left
  BodyRuns (Emit port changes rest) env contents choices outcome left =
      PutsOutFirst env port changes (BodyRuns rest env) contents choices outcome left
  BodyRuns (Halt rest) env contents choices outcome left = (outcome ≡ Aborted) × (left ≡ choices)
  BodyRuns (Fork branches rest) env contents choices outcome left =
      (NoGuardIsTrue env contents branches × BodyRuns rest env contents choices outcome left)
      ⊎ UsesChoice (BranchRuns branches env) (BodyRuns rest env) contents choices outcome left
  BodyRuns (Each values body rest) env contents choices outcome left =
      UsesChoice (WithValue values (λ value. BodyRuns body (with_pick env value))) (BodyRuns rest env)
      contents choices outcome left

  -- the block of the branch of this number, whose guard is true
  pub BranchRuns : Branches → Environment → ℕ → Behaviour
  BranchRuns NoBranch env number contents choices outcome left = ⊥
  BranchRuns (OneBranch guard body more) env zero contents choices outcome left =
      IsSatisfied env contents guard × BodyRuns body env contents choices outcome left
  BranchRuns (OneBranch guard body more) env (suc number) contents choices outcome left =
      BranchRuns more env number contents choices outcome left

-- the statements run by the first of these choices and leave the others
abbrev pub Runs : Environment → List Act → Behaviour
Runs env acts contents choices outcome left = BodyRuns (body_of acts) env contents choices outcome left

-- an execution of a handler uses all choices
abbrev pub Executes : Environment → List Act → List Entry → List ℕ → Outcome → Type 0
Executes env handler contents choices outcome = Runs env handler contents choices outcome []
