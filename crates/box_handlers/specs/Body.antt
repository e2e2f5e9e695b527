-- Handler bodies as plain data, which has cases and induction: a block is a statement with the rest behind it, and a
-- guard a
-- formula.
use Rattle.std.specs.Prelude.{◌≡◌, ℕ, Bool, true, false, List, [], ◌∷◌, map}
use Rattle.box_handlers.specs.declared.act.Term.{Term}
use Rattle.box_handlers.specs.declared.act.Change.{Change}
use Rattle.box_handlers.specs.declared.act.Query.{Query}
use Rattle.box_handlers.specs.declared.act.Test.{Test}
use Rattle.box_handlers.specs.declared.act.Probe.{Probe}
use Rattle.box_handlers.specs.declared.act.Probe.TheVariants as probe
use Rattle.box_handlers.specs.declared.act.Probe.TheOpen.{Probe-F, Test-F}
use Rattle.box_handlers.specs.declared.act.Probe.TheFolds.{fold-Probe, fold-Test}
use Rattle.box_handlers.specs.declared.act.Branch.{Branch}
use Rattle.box_handlers.specs.declared.act.Act.{Act}
use Rattle.box_handlers.specs.declared.act.Act.TheVariants as act
use Rattle.box_handlers.specs.declared.act.Act.TheOpen.{Act-F, Branch-F}
use Rattle.box_handlers.specs.declared.act.Act.TheFolds.{fold-Act, fold-Branch}

-- what a guard asks
pub data Formula : Type 0 where
  -- the probe that always holds
  Truth : Formula
  Holds : Query → Formula
  Alike : Term → Term → Formula
  Unlike : Term → Term → Formula
  Denied : Formula → Formula
  Grouped : Formula → Formula
  -- a probe and those behind it in its list, and the end of such a list, which holds
  Both : Formula → Formula → Formula
  Every : Formula
  -- a list of probes and the lists behind it, and the end of these, which doesn't hold
  Either : Formula → Formula → Formula
  Neither : Formula

mutual
  -- a block
  pub data Body : Type 0 where
    Stop : Body
    -- puts the tuple of the query in, or takes it out
    Writes : Query → Bool → Body → Body
    -- puts the packet out at a port, with some fields changed
    Emit : ℕ → List Change → Body → Body
    -- aborts, whatever stands behind it
    Halt : Body → Body
    -- goes on by a branch whose guard holds
    Fork : Branches → Body → Body
    -- runs a block for one of so many values
    Each : ℕ → Body → Body → Body

  -- the branches of a choice
  pub data Branches : Type 0 where
    NoBranch : Branches
    OneBranch : Formula → Body → Branches → Branches

-- all of a list of probes, and one of some lists
abbrev pub all_of : List Formula → Formula
all_of [] = Every
all_of (formula ∷ formulas) = Both formula (all_of formulas)

abbrev pub any_of : List (List Formula) → Formula
any_of [] = Neither
any_of (formulas ∷ others) = Either (all_of formulas) (any_of others)

-- one layer, whose parts are read already
abbrev pub probe_layer : Probe-F Formula Formula → Formula
probe_layer Probe-F.True = Truth
probe_layer (Probe-F.Has query) = Holds query
probe_layer (Probe-F.Same one two) = Alike one two
probe_layer (Probe-F.Differ one two) = Unlike one two
probe_layer (Probe-F.Not formula) = Denied formula
probe_layer (Probe-F.Group formula) = Grouped formula

abbrev pub test_layer : Test-F Formula Formula → Formula
test_layer test = any_of test.any

unfoldable pub formula_of_probe : Probe → Formula
formula_of_probe = fold-Probe Formula Formula probe_layer test_layer

unfoldable pub formula_of : Test → Formula
formula_of = fold-Test Formula Formula probe_layer test_layer

-- statements in a row, of each of which is known what it puts in front of a block
abbrev pub in_a_row : List (Body → Body) → Body
in_a_row [] = Stop
in_a_row (before ∷ others) = before (in_a_row others)

abbrev pub side_by_side : List (Branches → Branches) → Branches
side_by_side [] = NoBranch
side_by_side (before ∷ others) = before (side_by_side others)

-- one layer: what a statement puts in front of the rest of its block
abbrev pub act_layer : Act-F (Body → Body) (Branches → Branches) → Body → Body
act_layer (Act-F.Insert query) rest = Writes query true rest
act_layer (Act-F.Remove query) rest = Writes query false rest
act_layer (Act-F.Output port changes) rest = Emit port changes rest
act_layer Act-F.Abort rest = Halt rest
act_layer (Act-F.Choose branches) rest = Fork (side_by_side branches) rest
act_layer (Act-F.Pick values body) rest = Each values (in_a_row body) rest

abbrev pub branch_layer : Branch-F (Body → Body) (Branches → Branches) → Branches → Branches
branch_layer branch more = OneBranch (formula_of branch.guard) (in_a_row branch.body) more

unfoldable pub before_of_act : Act → Body → Body
before_of_act = fold-Act (Body → Body) (Branches → Branches) act_layer branch_layer

unfoldable pub before_of_branch : Branch → Branches → Branches
before_of_branch = fold-Branch (Body → Body) (Branches → Branches) act_layer branch_layer

-- the statements of a block, and the branches of a choice
abbrev pub body_of : List Act → Body
body_of acts = in_a_row (map before_of_act acts)

abbrev pub branches_of : List Branch → Branches
branches_of branches = side_by_side (map before_of_branch branches)

-- how a block is read, statement by statement, and a choice, branch by branch
pub record BodiesAreRead : Type 0 where
  pub none : body_of [] ≡ Stop
  pub insert : (query : Query) (rest : List Act) → body_of (act.Insert query ∷ rest) ≡ Writes query true (body_of rest)
  pub remove : (query : Query) (rest : List Act) → body_of (act.Remove query ∷ rest) ≡ Writes query false (body_of rest)
  pub output : (port : ℕ) (changes : List Change) (rest : List Act) →
      body_of (act.Output port changes ∷ rest) ≡ Emit port changes (body_of rest)
  pub abort : (rest : List Act) → body_of (act.Abort ∷ rest) ≡ Halt (body_of rest)
  pub choose : (branches : List Branch) (rest : List Act) →
      body_of (act.Choose branches ∷ rest) ≡ Fork (branches_of branches) (body_of rest)
  pub pick : (values : ℕ) (body rest : List Act) →
      body_of (act.Pick values body ∷ rest) ≡ Each values (body_of body) (body_of rest)
  pub no_branch : branches_of [] ≡ NoBranch
  pub branch : (branch : Branch) (more : List Branch) →
      branches_of (branch ∷ more) ≡ OneBranch (formula_of branch.guard) (body_of branch.body) (branches_of more)

-- how a probe is read, and the lists of a test
pub record FormulasAreRead : Type 0 where
  pub test : (test : Test) → formula_of test ≡ any_of (map (map formula_of_probe) test.any)
  pub always : formula_of_probe probe.True ≡ Truth
  pub has : (query : Query) → formula_of_probe (probe.Has query) ≡ Holds query
  pub same : (one two : Term) → formula_of_probe (probe.Same one two) ≡ Alike one two
  pub differ : (one two : Term) → formula_of_probe (probe.Differ one two) ≡ Unlike one two
  pub deny : (inner : Probe) → formula_of_probe (probe.Not inner) ≡ Denied (formula_of_probe inner)
  pub group : (test : Test) → formula_of_probe (probe.Group test) ≡ Grouped (formula_of test)
