-- The run of a handler by its choices, statement after statement, up to its end or to the first choice that isn't there
-- or that no execution makes.
use Rattle.std.specs.Prelude.{ℕ, zero, suc, Bool, true, false, List, [], ◌∷◌, ◌++◌, nat_lt}
use Rattle.box_contents.specs.declared.entry.Entry.{Entry}
use Rattle.box_contents.specs.Contents.{with_entry, without_entry}
use Rattle.box_handlers.specs.Body.{Body, Stop, Writes, Emit, Halt, Fork, Each, Branches, NoBranch, OneBranch}
use Rattle.box_executions.specs.Execution.{Emission}
use Rattle.handler_runs.specs.Reading.{Scene, with_value, entry_by, packet_by, holds_by, any_holds}

-- where a run stands: the contents, what was put out, in order, and the choices that are left
pub record Standing : Type 0 where
  pub contents : List Entry
  pub outputs : List Emission
  pub left : List ℕ

-- what comes of running a block
pub data Answer : Type 0 where
  -- it goes on behind the block
  Goes : Standing → Answer
  -- it aborted, and these choices are left
  Aborts : List ℕ → Answer
  -- a choice is wanted, and the first of those that are left is none that may be made, or none is left
  Stuck : List ℕ → Answer

-- a piece runs, and then another
abbrev pub then_by : Answer → (Standing → Answer) → Answer
then_by (Goes now) rest = rest now
then_by (Aborts left) rest = Aborts left
then_by (Stuck left) rest = Stuck left

abbrev pub with_contents : Standing → List Entry → Standing
with_contents now contents = record now { contents = contents }

abbrev pub with_left : Standing → List ℕ → Standing
with_left now left = record now { left = left }

-- a packet more is put out
abbrev pub put_out : Standing → ℕ → ℕ → Standing
put_out now port packet = record now { outputs = now.outputs ++ record { port = port; packet = packet } ∷ [] }

-- the next choice is used. The block gets the choices before that too, which are left where the choice is none
abbrev pub by_choice : (ℕ → List ℕ → Standing → Answer) → Standing → List ℕ → Answer
by_choice block now [] = Stuck []
by_choice block now (choice ∷ others) = block choice (choice ∷ others) (with_left now others)

-- where the test of a choice fails the run is stuck
abbrev pub where_true : Bool → List ℕ → Answer → Answer
where_true true whole answer = answer
where_true false whole answer = Stuck whole

-- a choice among branches of which one has a true guard, or none
abbrev pub at_fork : Bool → (ℕ → List ℕ → Standing → Answer) → Standing → Answer
at_fork true block now = by_choice block now now.left
at_fork false block now = Goes now

-- the block of a value, which is one of so many
abbrev pub value_block : ℕ → (ℕ → Standing → Answer) → ℕ → List ℕ → Standing → Answer
value_block values block value whole now = where_true (nat_lt value values) whole (block value now)

abbrev mutual
  pub run : Body → Scene → Standing → Answer
  run Stop scene now = Goes now
  run (Writes query true rest) scene now =
      run rest scene (with_contents now (with_entry now.contents (entry_by scene query)))
  run (Writes query false rest) scene now =
      run rest scene (with_contents now (without_entry now.contents (entry_by scene query)))
  run (Emit port changes rest) scene now = run rest scene (put_out now port (packet_by scene changes))
  run (Halt rest) scene now = Aborts now.left
  run (Fork branches rest) scene now =
      then_by (at_fork (any_holds scene now.contents branches) (run_branch branches scene) now) (run rest scene)
  run (Each values body rest) scene now =
      then_by (by_choice (value_block values (λ value. run body (with_value scene value))) now now.left)
      (run rest scene)

  -- the block of the branch of this number, whose guard is true
  pub run_branch : Branches → Scene → ℕ → List ℕ → Standing → Answer
  run_branch NoBranch scene number whole now = Stuck whole
  run_branch (OneBranch guard body more) scene zero whole now =
      where_true (holds_by scene now.contents guard) whole (run body scene now)
  run_branch (OneBranch guard body more) scene (suc number) whole now = run_branch more scene number whole now
