-- What fits: environments, contents and outcomes whose numbers are in range.
use Rattle.std.specs.Prelude.{◌≡◌, ℕ, ◌<◌, ◌≤◌, List, Some, slice_get, All}
use Rattle.std.specs.List.{AllZip}
use Rattle.header_set.specs.Headers.{product, IsHeaders}
use Rattle.box_contents.specs.declared.entry.Entry.{Entry}
use Rattle.box_contents.specs.Contents.{IsRising}
use Rattle.box_handlers.specs.Fits.{Surroundings, ArePicked}
use Rattle.box_handlers.specs.Tuple.{tuples_over}
use Rattle.box_executions.specs.Environment.{Environment}
use Rattle.box_executions.specs.Execution.{Outcome, Done, Aborted, Emission}

-- as many sizes as types, each of them that of its type
abbrev pub AreSizesOf : List ℕ → List ℕ → List ℕ → Type 0
AreSizesOf all kinds sizes = AllZip (λ kind size. slice_get all kind ≡ Some size) kinds sizes

-- the environment is one of a handler with these surroundings, within picks that have so many values
pub record IsEnvironment (around : Surroundings) (picks : List ℕ) (env : Environment) : Type 0 where
  -- each type has a value
  pub kinds : All (λ size. 1 ≤ size) around.sizes
  pub headers : IsHeaders env.headers
  pub fields : AreSizesOf around.sizes around.fields env.headers
  pub arguments : AllZip (AreSizesOf around.sizes) around.relations env.relations
  pub in_range : env.packet < product env.headers
  pub values : ArePicked picks env.picked

-- the entry is a tuple of one of the relations
pub record IsTuple (relations : List (List ℕ)) (entry : Entry) : Type 0 where
  pub sizes : List ℕ
  pub numbered : slice_get relations entry.relation ≡ Some sizes
  pub in_range : entry.tuple < tuples_over sizes

-- contents of a box whose relations these are
pub record AreContents (relations : List (List ℕ)) (contents : List Entry) : Type 0 where
  pub rising : IsRising contents
  pub tuples : All (IsTuple relations) contents

-- the port and the packet are in range
pub record IsEmission (ports : ℕ) (headers : List ℕ) (emission : Emission) : Type 0 where
  pub port : emission.port < ports
  pub packet : emission.packet < product headers

-- the outcome at a box with so many ports
abbrev pub IsOutcome : ℕ → List ℕ → List (List ℕ) → Outcome → Type 0
IsOutcome ports headers relations (Done contents outputs) =
    AreContents relations contents × All (IsEmission ports headers) outputs
IsOutcome ports headers relations Aborted = Unit {0}
