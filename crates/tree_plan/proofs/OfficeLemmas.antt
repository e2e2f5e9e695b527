-- The network of an office.
use Rattle.std.proofs.Common.{◌≡◌, ℕ, List, [], ◌∷◌, ◌++◌, Some, codes, refl, ap, ◌∙◌}
use Rattle.amdl_tree.specs.declared.guard.Lit.TheViews.{outs-Has, outs-Same, outs-Not}
use Rattle.amdl_tree.specs.declared.statement.Stmt.TheViews.{outs-Insert, outs-Output, outs-Choose}
use Rattle.amdl_tree.specs.Items.{kind_items}
use Rattle.box_handlers.specs.declared.act.Act.{Act}
use Rattle.box_handlers.specs.declared.act.Act.TheVariants as act
use Rattle.box_handlers.specs.declared.act.Probe.TheVariants as probe
use Rattle.box_handlers.specs.declared.act.Term.TheVariants as term
use Rattle.box_handlers.specs.Body.{
  Holds,
  Alike,
  Denied,
  Both,
  Every,
  Either,
  Neither,
  Body,
  Stop,
  Writes,
  Emit,
  Fork,
  NoBranch,
  OneBranch,
  formula_of,
  body_of,
  BodiesAreRead,
  FormulasAreRead,
}
use Rattle.box_handlers.specs.Queries.{asked_by, first_occurrences, queries_of}
use Rattle.tree_plan.specs.Names.{joined}
use Rattle.tree_plan.specs.Handlers.{acts_of, handlers_of}
use Rattle.tree_plan.specs.Net.{known_of, class_with, class_of, net_with}
use Rattle.tree_plan.specs.Office.{
  acl,
  cache,
  asks_stored,
  stores,
  office_tree,
  src,
  dst,
  kind,
  branch_where,
  query,
  change,
  lan_acts,
  wan_acts,
  acl_plan,
  asking_acts,
  storing_acts,
  cache_plan,
  NetOfOffice,
}
use Rattle.tree_plan.proofs.NumberedLemmas.{literal_is, guard_is, statement_is, alternative_is}

acl_numbered : handlers_of (known_of office_tree.items acl) acl.handlers ≡ Some (lan_acts ∷ wan_acts ∷ [])
acl_numbered = simp (statement_is, alternative_is, guard_is, literal_is, outs-Choose, outs-Output, outs-Has) refl

cache_numbered : handlers_of (known_of office_tree.items cache) cache.handlers
    ≡ Some (asking_acts 0 ∷ asking_acts 1 ∷ storing_acts ∷ [])
cache_numbered =
    simp (
      statement_is,
      alternative_is,
      guard_is,
      literal_is,
      outs-Choose,
      outs-Output,
      outs-Insert,
      outs-Has,
      outs-Same,
      outs-Not,
    ) refl

module _ (bodies : BodiesAreRead) (formulas : FormulasAreRead) where
  acl_asks : queries_of (lan_acts ∷ wan_acts ∷ []) ≡ query (src ∷ dst ∷ []) ∷ query (dst ∷ src ∷ []) ∷ []
  acl_asks = simp (bodies.choose, bodies.branch, bodies.output, formulas.test, formulas.has) refl

  cache_asks : queries_of (asking_acts 0 ∷ asking_acts 1 ∷ storing_acts ∷ []) ≡ query (dst ∷ []) ∷ []
  cache_asks =
      simp (
        bodies.choose,
        bodies.branch,
        bodies.output,
        bodies.insert,
        formulas.test,
        formulas.has,
        formulas.same,
        formulas.deny,
      ) refl

  acl_known : class_of office_tree.items acl ≡ Some acl_plan
  acl_known =
      ap (class_with (kind_items office_tree.items) acl) acl_numbered
      ∙ ap (λ queries. Some (record acl_plan { queries = queries })) acl_asks

  cache_known : class_of office_tree.items cache ≡ Some cache_plan
  cache_known =
      ap (class_with (kind_items office_tree.items) cache) cache_numbered
      ∙ ap (λ queries. Some (record cache_plan { queries = queries })) cache_asks

  pub office_by_hand : NetOfOffice
  office_by_hand =
      λ i. net_with office_tree (joined (λ first others. first
      ∷ others) (acl_known i) (joined (λ first others. first ∷ others) (cache_known i) (Some [])))
