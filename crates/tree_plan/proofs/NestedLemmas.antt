-- A class with picks within picks.
use Rattle.std.proofs.Common.{◌≡◌, List, [], ◌∷◌, Some, refl, ap, ◌∙◌}
use Rattle.amdl_tree.specs.declared.guard.Lit.TheViews.{outs-Has, outs-Same}
use Rattle.amdl_tree.specs.declared.statement.Stmt.TheViews.{outs-Output, outs-Abort, outs-Choose, outs-Pick}
use Rattle.amdl_tree.specs.Items.{kind_items}
use Rattle.box_handlers.specs.Body.{BodiesAreRead, FormulasAreRead}
use Rattle.box_handlers.specs.Queries.{queries_of}
use Rattle.tree_plan.specs.Handlers.{handlers_of}
use Rattle.tree_plan.specs.Net.{known_of, class_with}
use Rattle.tree_plan.specs.Nested.{two_types, nester, nested_acts, nester_plan, ClassOfNested}
use Rattle.tree_plan.proofs.NumberedLemmas.{literal_is, guard_is, statement_is, alternative_is}

nested_numbered : handlers_of (known_of two_types nester) nester.handlers ≡ Some (nested_acts ∷ [] ∷ [])
nested_numbered =
    simp (
      statement_is,
      alternative_is,
      guard_is,
      literal_is,
      outs-Pick,
      outs-Choose,
      outs-Output,
      outs-Abort,
      outs-Has,
      outs-Same,
    ) refl

module _ (bodies : BodiesAreRead) (formulas : FormulasAreRead) where
  nested_asks : queries_of (nested_acts ∷ [] ∷ []) ≡ nester_plan.queries
  nested_asks =
      simp (
        bodies.pick,
        bodies.choose,
        bodies.branch,
        bodies.output,
        bodies.abort,
        formulas.test,
        formulas.has,
        formulas.same,
      ) refl

  pub nested_by_hand : ClassOfNested
  nested_by_hand =
      ap (class_with (kind_items two_types) nester) nested_numbered
      ∙ ap (λ queries. Some (record nester_plan { queries = queries })) nested_asks
