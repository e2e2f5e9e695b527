-- The networks of the examples.
use Rattle.std.proofs.Common.{◌≡◌, false, [], ◌∷◌, ◌++◌, Some, refl, ap, ◌∙◌}
use Rattle.amdl_tree.specs.declared.guard.Lit.TheViews.{outs-Has}
use Rattle.amdl_tree.specs.declared.statement.Stmt.TheViews.{outs-Choose, outs-Output, outs-Remove}
use Rattle.box_handlers.specs.declared.act.Probe.TheVariants as probe
use Rattle.box_handlers.specs.declared.act.Act.TheVariants as act
use Rattle.box_handlers.specs.Body.{Holds, Both, Every, Either, Neither, Body, Stop, Writes, Emit, Fork, NoBranch}
use Rattle.box_handlers.specs.Body.{OneBranch, formula_of, body_of, BodiesAreRead, FormulasAreRead}
use Rattle.box_handlers.specs.Queries.{asked_by, first_occurrences, queries_of}
use Rattle.amdl_tree.specs.Items.{kind_items}
use Rattle.tree_plan.specs.Names.{joined}
use Rattle.tree_plan.specs.Handlers.{acts_of, handlers_of}
use Rattle.tree_plan.specs.Net.{known_of, class_with, class_of, net_with}
use Rattle.tree_plan.specs.Example.{opens_once, gate, once_tree, trusted, once_acts, gate_plan, NetOfOnce}
use Rattle.tree_plan.proofs.NumberedLemmas.{literal_is, guard_is, statement_is, alternative_is}

once_numbered : acts_of (known_of once_tree.items gate) opens_once ≡ Some once_acts
once_numbered =
    simp (statement_is, alternative_is, guard_is, literal_is, outs-Choose, outs-Output, outs-Remove, outs-Has) refl

handlers_numbered : handlers_of (known_of once_tree.items gate) gate.handlers ≡ Some (once_acts ∷ [] ∷ [])
handlers_numbered = ap (λ acts. joined (λ first others. first ∷ others) acts (Some ([] ∷ []))) once_numbered

-- the handler as plain data
once_body : Body
once_body =
    Fork (OneBranch (Either (Both (Holds trusted) Every) Neither) (Emit 1 [] (Writes trusted false Stop)) NoBranch) Stop

module _ (bodies : BodiesAreRead) (formulas : FormulasAreRead) where
  guard_read : formula_of (record { any = (probe.Has trusted ∷ []) ∷ [] }) ≡ Either (Both (Holds trusted) Every) Neither
  guard_read =
      formulas.test (record { any = (probe.Has trusted ∷ []) ∷ [] })
      ∙ ap (λ asked. Either (Both asked Every) Neither) (formulas.has trusted)

  block_read : body_of (act.Output 1 [] ∷ act.Remove trusted ∷ []) ≡ Emit 1 [] (Writes trusted false Stop)
  block_read = bodies.output 1 [] (act.Remove trusted ∷ []) ∙ ap (Emit 1 []) (bodies.remove trusted [])

  once_read : body_of once_acts ≡ once_body
  unfolding once_body
  once_read =
      bodies.choose
      (record {
        guard = record { any = (probe.Has trusted ∷ []) ∷ [] };
        body = act.Output 1 [] ∷ act.Remove trusted
            ∷ [];
      } ∷ []) []
      ∙ ap (λ branches. Fork branches Stop)
      (bodies.branch
      (record {
        guard = record { any = (probe.Has trusted ∷ []) ∷ [] };
        body = act.Output 1 [] ∷ act.Remove trusted
            ∷ [];
      }) []
      ∙ (λ i. OneBranch (guard_read i) (block_read i) NoBranch))

  asks_trusted : queries_of (once_acts ∷ [] ∷ []) ≡ trusted ∷ []
  unfolding once_body
  asks_trusted = λ i. first_occurrences (asked_by (once_read i) [] ++ (asked_by Stop [] ++ []))

  gate_known : class_of once_tree.items gate ≡ Some gate_plan
  gate_known =
      ap (class_with (kind_items once_tree.items) gate) handlers_numbered
      ∙ ap (λ queries. Some (record gate_plan { queries = queries })) asks_trusted

  pub once_by_hand : NetOfOnce
  once_by_hand = ap (λ plan. net_with once_tree (joined (λ first others. first ∷ others) plan (Some []))) gate_known
