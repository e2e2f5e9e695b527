-- How large handlers are: their statements, the literals of their guards, and their paths. Picks aren't expanded.
use Rattle.std.specs.Prelude.{ℕ, ◌+◌, ◌*◌, List, sum_by}
use Rattle.box_handlers.specs.declared.act.Act.{Act}
use Rattle.box_handlers.specs.Body.{Formula, Truth, Holds, Alike, Unlike, Denied, Grouped, Both, Every, Either, Neither}
use Rattle.box_handlers.specs.Body.{Body, Stop, Writes, Emit, Halt, Fork, Each, Branches, NoBranch, OneBranch, body_of}

-- the literals of a guard; each denial and each group counts as one besides what it holds
abbrev pub literals_in : Formula → ℕ
literals_in Truth = 1
literals_in (Holds query) = 1
literals_in (Alike one two) = 1
literals_in (Unlike one two) = 1
literals_in (Denied formula) = 1 + literals_in formula
literals_in (Grouped formula) = 1 + literals_in formula
literals_in (Both one two) = literals_in one + literals_in two
literals_in Every = 0
literals_in (Either one two) = literals_in one + literals_in two
literals_in Neither = 0

-- the literals of all guards of a block
abbrev mutual
  pub literals_of : Body → ℕ
  literals_of Stop = 0
  literals_of (Writes query add rest) = literals_of rest
  literals_of (Emit port changes rest) = literals_of rest
  literals_of (Halt rest) = literals_of rest
  literals_of (Fork branches rest) = literals_of_branches branches + literals_of rest
  literals_of (Each values body rest) = literals_of body + literals_of rest

  pub literals_of_branches : Branches → ℕ
  literals_of_branches NoBranch = 0
  literals_of_branches (OneBranch guard body more) = literals_in guard + literals_of body + literals_of_branches more

-- the statements of a block, those within others among them
abbrev mutual
  pub statements_of : Body → ℕ
  statements_of Stop = 0
  statements_of (Writes query add rest) = 1 + statements_of rest
  statements_of (Emit port changes rest) = 1 + statements_of rest
  statements_of (Halt rest) = 1 + statements_of rest
  statements_of (Fork branches rest) = 1 + statements_of_branches branches + statements_of rest
  statements_of (Each values body rest) = 1 + statements_of body + statements_of rest

  pub statements_of_branches : Branches → ℕ
  statements_of_branches NoBranch = 0
  statements_of_branches (OneBranch guard body more) = statements_of body + statements_of_branches more

-- the paths of a block: the product of those of its statements. A choice has those of its blocks and one for no block
-- at all, a
-- pick has so many as its block for each value, and what stands behind an abort counts too
abbrev mutual
  pub paths_of : Body → ℕ
  paths_of Stop = 1
  paths_of (Writes query add rest) = paths_of rest
  paths_of (Emit port changes rest) = paths_of rest
  paths_of (Halt rest) = paths_of rest
  paths_of (Fork branches rest) = (paths_of_branches branches + 1) * paths_of rest
  paths_of (Each values body rest) = values * paths_of body * paths_of rest

  pub paths_of_branches : Branches → ℕ
  paths_of_branches NoBranch = 0
  paths_of_branches (OneBranch guard body more) = paths_of body + paths_of_branches more

-- of all handlers of a class
abbrev pub statements_of_all : List (List Act) → ℕ
statements_of_all handlers = sum_by (λ acts. statements_of (body_of acts)) handlers

abbrev pub literals_of_all : List (List Act) → ℕ
literals_of_all handlers = sum_by (λ acts. literals_of (body_of acts)) handlers
