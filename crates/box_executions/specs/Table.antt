-- The meaning of each probe and of each statement, one equivalence for each of them.
use Rattle.std.specs.Prelude.{◌≡◌, ◌≢◌, ℕ, ◌<◌, ◌⊎◌, ◌↔◌, List, [], ◌∷◌, Some, slice_get, All, Any, Contains}
use Rattle.box_contents.specs.declared.entry.Entry.{Entry}
use Rattle.box_contents.specs.Contents.{with_entry, without_entry}
use Rattle.box_handlers.specs.declared.act.Term.{Term}
use Rattle.box_handlers.specs.declared.act.Query.{Query}
use Rattle.box_handlers.specs.declared.act.Change.{Change}
use Rattle.box_handlers.specs.declared.act.Test.{Test}
use Rattle.box_handlers.specs.declared.act.Probe.{Probe}
use Rattle.box_handlers.specs.declared.act.Probe.TheVariants.{True, Has, Same, Differ, Not, Group}
use Rattle.box_handlers.specs.declared.act.Branch.{Branch}
use Rattle.box_handlers.specs.declared.act.Act.{Act}
use Rattle.box_handlers.specs.declared.act.Act.TheVariants.{Insert, Remove, Output, Abort, Choose, Pick}
use Rattle.box_executions.specs.Environment.{Environment, value_in, entry_in, with_pick}
use Rattle.box_executions.specs.Guard.{ProbeIsTrue, TestIsTrue, GuardIsTrue}
use Rattle.box_executions.specs.Execution.{Outcome, Done, Aborted, UsesChoice, PutsOutFirst, Runs}

-- each probe, and a test, which is a list of lists of probes
pub record GuardTable (env : Environment) (contents : List Entry) : Type 0 where
  pub test : (test : Test) →
      TestIsTrue env contents test ↔ Any (λ probes. All (ProbeIsTrue env contents) probes) test.any
  pub always : ProbeIsTrue env contents True
  pub has : (query : Query) → ProbeIsTrue env contents (Has query) ↔ Contains contents (entry_in env query)
  pub same : (one two : Term) → ProbeIsTrue env contents (Same one two) ↔ (value_in env one ≡ value_in env two)
  pub differ : (one two : Term) → ProbeIsTrue env contents (Differ one two) ↔ (value_in env one ≢ value_in env two)
  pub deny : (inner : Probe) → ProbeIsTrue env contents (Not inner) ↔ (ProbeIsTrue env contents inner → ⊥)
  pub group : (test : Test) → ProbeIsTrue env contents (Group test) ↔ TestIsTrue env contents test

-- the block of the branch of this number runs, whose guard is true
pub record RunsBranch (env : Environment) (branches : List Branch) (number : ℕ) (contents : List Entry)
    (choices : List ℕ) (outcome : Outcome) (left : List ℕ) : Type 0 where
  pub branch : Branch
  pub numbered : slice_get branches number ≡ Some branch
  pub guard : GuardIsTrue env contents branch
  pub runs : Runs env branch.body contents choices outcome left

-- the block of a pick runs with this value, which is one of so many
pub record RunsPicked (env : Environment) (values : ℕ) (body : List Act) (value : ℕ) (contents : List Entry)
    (choices : List ℕ) (outcome : Outcome) (left : List ℕ) : Type 0 where
  pub in_range : value < values
  pub runs : Runs (with_pick env value) body contents choices outcome left

-- each statement in front of a rest
pub record StatementTable (env : Environment) (rest : List Act) (contents : List Entry) (choices : List ℕ)
    (outcome : Outcome) (left : List ℕ) : Type 0 where
  -- the end of a block: done, with the contents as they are and no outputs
  pub none : Runs env [] contents choices outcome left ↔ ((outcome ≡ Done contents []) × (left ≡ choices))
  -- the rest runs on the contents with the tuple, or without it
  pub insert : (query : Query) →
      Runs env (Insert query ∷ rest) contents choices outcome left
      ↔ Runs env rest (with_entry contents (entry_in env query)) choices outcome left
  pub remove : (query : Query) →
      Runs env (Remove query ∷ rest) contents choices outcome left
      ↔ Runs env rest (without_entry contents (entry_in env query)) choices outcome left
  -- the port and the changed packet stand before the outputs of the rest
  pub output : (port : ℕ) (changes : List Change) →
      Runs env (Output port changes ∷ rest) contents choices outcome left
      ↔ PutsOutFirst env port changes (Runs env rest) contents choices outcome left
  -- aborted, whatever follows
  pub abort : Runs env (Abort ∷ rest) contents choices outcome left ↔ ((outcome ≡ Aborted) × (left ≡ choices))
  -- where no guard is true the rest runs and no choice is used; else the next choice is the number of a branch whose
  -- guard is true, and its block runs, then the rest
  pub choose : (branches : List Branch) →
      Runs env (Choose branches ∷ rest) contents choices outcome left
      ↔ ((All (λ branch. GuardIsTrue env contents branch → ⊥) branches × Runs env rest contents choices outcome left)
      ⊎ UsesChoice (RunsBranch env branches) (Runs env rest) contents choices outcome left)
  -- the next choice is the number of a value, and the block runs with it, then the rest
  pub pick : (values : ℕ) (body : List Act) →
      Runs env (Pick values body ∷ rest) contents choices outcome left
      ↔ UsesChoice (RunsPicked env values body) (Runs env rest) contents choices outcome left
