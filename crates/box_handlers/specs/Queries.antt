-- The queries of a class: what its handlers ask, once the picks are expanded.
use Rattle.std.specs.Prelude.{◌≡◌, ℕ, ◌<◌, ◌⊎◌, ◌&&◌, Bool, false, not, List, [], ◌∷◌, ◌++◌, Option, Some, None, nat_eq}
use Rattle.std.specs.Prelude.{map, slice_get}
use Rattle.std.specs.List.{All, filter, flat_map, range_with_len}
use Rattle.std.specs.Cmp.Lexicographic.{pointwise}
use Rattle.box_handlers.specs.declared.act.Term.{Term}
use Rattle.box_handlers.specs.declared.act.Term.TheVariants.{Field, Value, Picked}
use Rattle.box_handlers.specs.declared.act.Query.{Query}
use Rattle.box_handlers.specs.declared.act.Act.{Act}
use Rattle.box_handlers.specs.Body.{Formula, Holds, Denied, Grouped, Both, Either, Body, Stop, Writes, Emit, Halt, Fork}
use Rattle.box_handlers.specs.Body.{Each, Branches, NoBranch, OneBranch, body_of}

-- a term with the value of its pick in place of the pick, where that pick is open
abbrev pub filled_by : Option ℕ → Term → Term
filled_by (Some value) term = Value value
filled_by None term = term

abbrev pub filled_term : List ℕ → Term → Term
filled_term picked (Picked i) = filled_by (slice_get picked i) (Picked i)
filled_term picked term = term

-- a query with the values of the open picks in place of the picks
abbrev pub filled : List ℕ → Query → Query
filled picked query = record { relation = query.relation; args = map (filled_term picked) query.args }

-- what a guard asks, in the order of the text
abbrev pub asked_by_formula : List ℕ → Formula → List Query
asked_by_formula picked (Holds query) = filled picked query ∷ []
asked_by_formula picked (Denied formula) = asked_by_formula picked formula
asked_by_formula picked (Grouped formula) = asked_by_formula picked formula
asked_by_formula picked (Both one two) = asked_by_formula picked one ++ asked_by_formula picked two
asked_by_formula picked (Either one two) = asked_by_formula picked one ++ asked_by_formula picked two
asked_by_formula picked _ = []

-- what a block asks, in the order of the text, a pick's block once for each value; and what the branches of a choice
-- ask, guard
-- before block
abbrev mutual
  pub asked_by : Body → List ℕ → List Query
  asked_by Stop picked = []
  asked_by (Writes query add rest) picked = asked_by rest picked
  asked_by (Emit port changes rest) picked = asked_by rest picked
  asked_by (Halt rest) picked = asked_by rest picked
  asked_by (Fork branches rest) picked = asked_by_branches branches picked ++ asked_by rest picked
  asked_by (Each values body rest) picked =
      flat_map (λ value. asked_by body (picked ++ value ∷ [])) (range_with_len 0 values) ++ asked_by rest picked

  pub asked_by_branches : Branches → List ℕ → List Query
  asked_by_branches NoBranch picked = []
  asked_by_branches (OneBranch guard body more) picked =
      asked_by_formula picked guard ++ asked_by body picked ++ asked_by_branches more picked

-- two terms, and two queries, are the same
abbrev pub same_term : Term → Term → Bool
same_term (Field k) (Field l) = nat_eq k l
same_term (Value x) (Value y) = nat_eq x y
same_term (Picked i) (Picked j) = nat_eq i j
same_term _ _ = false

abbrev pub same_query : Query → Query → Bool
same_query one two = nat_eq one.relation two.relation && pointwise same_term one.args two.args

-- each query where it comes first
abbrev pub first_occurrences : List Query → List Query
first_occurrences [] = []
first_occurrences (query ∷ queries) = query ∷ filter (λ other. not (same_query query other)) (first_occurrences queries)

-- the queries of a class, from its handlers in the order of its ports
abbrev pub queries_of : List (List Act) → List Query
queries_of handlers = first_occurrences (flat_map (λ acts. asked_by (body_of acts) []) handlers)

-- some guard of the formula asks the query
abbrev pub FormulaAsks : Formula → Query → Type 0
FormulaAsks (Holds asked) query = asked ≡ query
FormulaAsks (Denied formula) query = FormulaAsks formula query
FormulaAsks (Grouped formula) query = FormulaAsks formula query
FormulaAsks (Both one two) query = FormulaAsks one query ⊎ FormulaAsks two query
FormulaAsks (Either one two) query = FormulaAsks one query ⊎ FormulaAsks two query
FormulaAsks _ query = ⊥

-- some guard within the block asks the query while these values are picked, where `picked` are those of the picks
-- around the
-- block
abbrev mutual
  pub Asks : Body → List ℕ → List ℕ → Query → Type 0
  Asks Stop picked opened query = ⊥
  Asks (Writes written add rest) picked opened query = Asks rest picked opened query
  Asks (Emit port changes rest) picked opened query = Asks rest picked opened query
  Asks (Halt rest) picked opened query = Asks rest picked opened query
  Asks (Fork branches rest) picked opened query =
      BranchesAsk branches picked opened query ⊎ Asks rest picked opened query
  Asks (Each values body rest) picked opened query =
      ((value : ℕ) × (value < values) × Asks body (picked ++ value ∷ []) opened query) ⊎ Asks rest picked opened query

  pub BranchesAsk : Branches → List ℕ → List ℕ → Query → Type 0
  BranchesAsk NoBranch picked opened query = ⊥
  BranchesAsk (OneBranch guard body more) picked opened query =
      ((picked ≡ opened) × FormulaAsks guard query)
      ⊎ (Asks body picked opened query ⊎ BranchesAsk more picked opened query)

-- the term is no pick
abbrev pub IsNoPick : Term → Type 0
IsNoPick (Picked i) = ⊥
IsNoPick _ = Unit {0}

-- no argument of the query is a pick
abbrev pub NamesNoPick : Query → Type 0
NamesNoPick query = All IsNoPick query.args
