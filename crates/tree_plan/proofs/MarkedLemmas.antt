-- The network with a marker.
use Rattle.std.proofs.Common.{◌≡◌, true, List, [], ◌∷◌, ◌++◌, Some, refl, ap, ◌∙◌}
use Rattle.amdl_tree.specs.declared.guard.Lit.TheViews.{outs-Has}
use Rattle.amdl_tree.specs.declared.statement.Stmt.TheVariants.{Abort}
use Rattle.amdl_tree.specs.declared.statement.Stmt.TheViews.{outs-Insert, outs-Output, outs-Abort, outs-Choose}
use Rattle.amdl_tree.specs.declared.statement.Stmt.TheViews.{outs-Pick}
use Rattle.box_handlers.specs.declared.act.Change.{Change}
use Rattle.box_handlers.specs.declared.act.Query.{Query}
use Rattle.box_handlers.specs.declared.act.Term.TheVariants as term
use Rattle.box_handlers.specs.declared.act.Act.TheVariants as act
use Rattle.box_handlers.specs.Body.{Holds, Both, Every, Either, Neither, Body, Stop, Writes, Emit, Fork, Each, NoBranch}
use Rattle.box_handlers.specs.Body.{OneBranch, formula_of, body_of, BodiesAreRead, FormulasAreRead}
use Rattle.box_handlers.specs.Queries.{asked_by, first_occurrences, queries_of}
use Rattle.amdl_tree.specs.Items.{kind_items}
use Rattle.tree_plan.specs.Names.{joined}
use Rattle.tree_plan.specs.Handlers.{acts_of, handlers_of}
use Rattle.tree_plan.specs.Net.{known_of, class_with, class_of, net_with}
use Rattle.tree_plan.specs.Marked.{marks, marker, marked_tree, picked_seen, seen_at, asks_picked, marking_acts}
use Rattle.tree_plan.specs.Marked.{marker_plan, plug_plan, NetOfMarked}
use Rattle.tree_plan.proofs.NumberedLemmas.{literal_is, guard_is, statement_is, alternative_is}

marks_numbered : acts_of (known_of marked_tree.items marker) marks ≡ Some marking_acts
marks_numbered =
    simp (
      statement_is,
      alternative_is,
      guard_is,
      literal_is,
      outs-Pick,
      outs-Choose,
      outs-Output,
      outs-Insert,
      outs-Has,
    ) refl

abort_numbered : acts_of (known_of marked_tree.items marker) (Abort ∷ []) ≡ Some (act.Abort ∷ [])
abort_numbered = simp (statement_is, outs-Abort) refl

handlers_numbered : handlers_of (known_of marked_tree.items marker) marker.handlers
    ≡ Some (marking_acts ∷ (act.Abort ∷ []) ∷ [])
handlers_numbered =
    λ i. joined (λ first others. first ∷ others) (marks_numbered i)
    (joined (λ first others. first ∷ others) (abort_numbered i) (Some []))

-- the insertion and the changes of the handler
known : Query
known = record { relation = 1; args = term.Field 1 ∷ [] }

changes : List Change
changes = record { field = 0; to = term.Value 1 } ∷ record { field = 1; to = term.Value 2 } ∷ []

inner_body : Body
inner_body = Fork (OneBranch (Either (Both (Holds picked_seen) Every) Neither) (Writes known true Stop) NoBranch) Stop

module _ (bodies : BodiesAreRead) (formulas : FormulasAreRead) where
  guard_read : formula_of asks_picked.guard ≡ Either (Both (Holds picked_seen) Every) Neither
  guard_read =
      formulas.test asks_picked.guard ∙ ap (λ asked. Either (Both asked Every) Neither) (formulas.has picked_seen)

  inner_read : body_of (act.Choose (asks_picked ∷ []) ∷ []) ≡ inner_body
  unfolding inner_body known
  inner_read =
      bodies.choose (asks_picked ∷ []) []
      ∙ ap (λ branches. Fork branches Stop)
      (bodies.branch asks_picked []
      ∙ (λ i. OneBranch (guard_read i)
      (bodies.insert (record { relation = 1; args = term.Field 1 ∷ [] }) [] i) NoBranch))

  marking_read : body_of marking_acts ≡ Each 2 inner_body (Emit 1 changes Stop)
  unfolding changes
  marking_read =
      bodies.pick 2 (act.Choose (asks_picked ∷ []) ∷ []) (act.Output 1 changes ∷ [])
      ∙ (λ i. Each 2 (inner_read i) (bodies.output 1 changes [] i))

  asks_by_value : queries_of (marking_acts ∷ (act.Abort ∷ []) ∷ []) ≡ seen_at 0 ∷ seen_at 1 ∷ []
  unfolding inner_body known changes
  asks_by_value = λ i. first_occurrences (asked_by (marking_read i) [] ++ (asked_by (bodies.abort [] i) [] ++ []))

  marker_known : class_of marked_tree.items marker ≡ Some marker_plan
  marker_known =
      ap (class_with (kind_items marked_tree.items) marker) handlers_numbered
      ∙ ap (λ queries. Some (record marker_plan { queries = queries })) asks_by_value

  pub marked_by_hand : NetOfMarked
  marked_by_hand =
      ap (λ plan. net_with marked_tree
      (joined (λ first others. first ∷ others) plan (Some (plug_plan ∷ [])))) marker_known
