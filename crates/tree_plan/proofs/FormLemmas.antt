-- What each form of a literal and of a statement comes to.
use Rattle.std.proofs.Common.{◌≡◌, ℕ, ◌+◌, ◌<◌, ◌≤◌, true, false, cond, List, [], ◌∷◌, ◌++◌, length, drop, get_or}
use Rattle.std.proofs.Common.{Option, Some, None, sym, ap, ◌∙◌}
use Rattle.std.proofs.lemmas.List.{drop_all}
use Rattle.amdl_tree.specs.declared.class.Handler.{Handler}
use Rattle.std.specs.Option.{option_map}
use Rattle.amdl_tree.specs.declared.guard.Atom.{Atom}
use Rattle.amdl_tree.specs.declared.guard.Guard.{Guard}
use Rattle.amdl_tree.specs.declared.guard.Lit.{Lit}
use Rattle.amdl_tree.specs.declared.guard.Lit.TheVariants.{True, Has, Same, Differ, Not, Group}
use Rattle.amdl_tree.specs.declared.guard.Lit.TheOpen.{Lit-F}
use Rattle.amdl_tree.specs.declared.guard.Lit.TheViews.{outs-True, outs-Has, outs-Same, outs-Differ, outs-Not}
use Rattle.amdl_tree.specs.declared.guard.Lit.TheViews.{outs-Group}
use Rattle.amdl_tree.specs.declared.statement.Alternative.{Alternative}
use Rattle.amdl_tree.specs.declared.statement.Stmt.{Stmt}
use Rattle.amdl_tree.specs.declared.statement.Stmt.TheVariants.{Insert, Remove, Abort, Output, Choose, Pick}
use Rattle.amdl_tree.specs.declared.statement.Stmt.TheOpen.{Stmt-F}
use Rattle.amdl_tree.specs.declared.statement.Stmt.TheViews.{outs-Insert, outs-Remove, outs-Abort, outs-Output}
use Rattle.amdl_tree.specs.declared.statement.Stmt.TheViews.{outs-Choose, outs-Pick}
use Rattle.amdl_tree.specs.declared.tree.Equal.{Equal}
use Rattle.box_handlers.specs.declared.act.Probe.{Probe}
use Rattle.box_handlers.specs.declared.act.Probe.TheVariants as probe
use Rattle.box_handlers.specs.declared.act.Test.{Test}
use Rattle.box_handlers.specs.declared.act.Act.{Act}
use Rattle.box_handlers.specs.declared.act.Act.TheVariants as act
use Rattle.box_handlers.specs.declared.act.Branch.{Branch}
use Rattle.tree_plan.specs.Names.{same_name, joined, all_some, number_of, values_named}
use Rattle.tree_plan.specs.Handlers.{Known, term_of, query_of, change_of, lit_numbered, probe_of, test_of, all_within}
use Rattle.tree_plan.specs.Handlers.{stmt_numbered, act_of, branch_of, body_for}
use Rattle.tree_plan.proofs.NumberedLemmas.{literal_is, guard_is, statement_is, alternative_is}
use Rattle.tree_plan.proofs.StepLemmas.{next_part}

module _ (known : Known) (picks : List (List ℕ)) where
  abbrev probed : Lit-F Lit Guard → Option Probe
  probed = lit_numbered (probe_of known picks) (test_of known picks) known picks

  pub probe_true : probe_of known picks True ≡ Some probe.True
  probe_true = literal_is known picks True ∙ ap probed outs-True

  pub probe_has : (atom : Atom) → probe_of known picks (Has atom) ≡ option_map probe.Has (query_of known picks atom)
  probe_has atom = literal_is known picks (Has atom) ∙ ap probed (outs-Has atom)

  pub probe_same : (one two : List ℕ) →
      probe_of known picks (Same one two) ≡ joined probe.Same (term_of known picks one) (term_of known picks two)
  probe_same one two = literal_is known picks (Same one two) ∙ ap probed (outs-Same one two)

  pub probe_differ : (one two : List ℕ) →
      probe_of known picks (Differ one two) ≡ joined probe.Differ (term_of known picks one) (term_of known picks two)
  probe_differ one two = literal_is known picks (Differ one two) ∙ ap probed (outs-Differ one two)

  pub probe_not : (lit : Lit) → probe_of known picks (Not lit) ≡ option_map probe.Not (probe_of known picks lit)
  probe_not lit = literal_is known picks (Not lit) ∙ ap probed (outs-Not lit)

  pub probe_group : (guard : Guard) →
      probe_of known picks (Group guard) ≡ option_map probe.Group (test_of known picks guard)
  probe_group guard = literal_is known picks (Group guard) ∙ ap probed (outs-Group guard)

  pub test_none : (guard : Guard) → None ≡ all_some (all_some (probe_of known picks)) guard.any →
      None ≡ test_of known picks guard
  test_none guard lost = ap (option_map (λ lists. record { any = lists })) lost ∙ sym (guard_is known picks guard)

  pub test_some : (guard : Guard) (lists : List (List Probe)) →
      Some lists ≡ all_some (all_some (probe_of known picks)) guard.any →
      Some (record { any = lists }) ≡ test_of known picks guard
  test_some guard lists came = ap (option_map (λ lists. record { any = lists })) came ∙ sym (guard_is known picks guard)

module _ (known : Known) (picks : List (List ℕ)) where
  abbrev acted : Stmt-F Stmt Alternative → Option Act
  acted layer = stmt_numbered (act_of known) (branch_of known) known layer picks

  pub act_insert : (atom : Atom) → act_of known (Insert atom) picks ≡ option_map act.Insert (query_of known picks atom)
  act_insert atom = statement_is known (Insert atom) picks ∙ ap acted (outs-Insert atom)

  pub act_remove : (atom : Atom) → act_of known (Remove atom) picks ≡ option_map act.Remove (query_of known picks atom)
  act_remove atom = statement_is known (Remove atom) picks ∙ ap acted (outs-Remove atom)

  pub act_abort : act_of known Abort picks ≡ Some act.Abort
  act_abort = statement_is known Abort picks ∙ ap acted outs-Abort

  pub act_output : (port : List ℕ) (changes : List Equal) →
      act_of known (Output port changes) picks
      ≡ joined act.Output (number_of known.ports port) (all_some (change_of known picks) changes)
  act_output port changes = statement_is known (Output port changes) picks ∙ ap acted (outs-Output port changes)

  pub act_choose : (alternatives : List Alternative) →
      act_of known (Choose alternatives) picks ≡ option_map act.Choose (all_within (branch_of known) picks alternatives)
  act_choose alternatives = statement_is known (Choose alternatives) picks ∙ ap acted (outs-Choose alternatives)

  pub act_pick : (name kind : List ℕ) (body : List Stmt) →
      act_of known (Pick name kind body) picks
      ≡ joined act.Pick (values_named known.kinds kind) (all_within (act_of known) (picks ++ name ∷ []) body)
  act_pick name kind body = statement_is known (Pick name kind body) picks ∙ ap acted (outs-Pick name kind body)

  -- a branch where its guard and its block come to something, and where one of them doesn't
  abbrev branched : Option Test → Option (List Act) → Option Branch
  branched = joined (λ test acts. record { guard = test; body = acts })

  pub branch_some : (alternative : Alternative) (guard : Test) (body : List Act) →
      Some guard ≡ test_of known picks alternative.guard →
      Some body ≡ all_within (act_of known) picks alternative.body →
      Some (record { guard = guard; body = body }) ≡ branch_of known alternative picks
  branch_some alternative guard body asked acts =
      (λ i. branched (asked i) (acts i)) ∙ sym (alternative_is known alternative picks)

  pub branch_unasked : (alternative : Alternative) → None ≡ test_of known picks alternative.guard →
      None ≡ branch_of known alternative picks
  branch_unasked alternative lost =
      ap (λ t. branched t (all_within (act_of known) picks alternative.body)) lost
      ∙ sym (alternative_is known alternative picks)

  pub branch_unacted : (alternative : Alternative) (guard : Test) →
      Some guard ≡ test_of known picks alternative.guard → None ≡ all_within (act_of known) picks alternative.body →
      None ≡ branch_of known alternative picks
  branch_unacted alternative guard asked lost =
      (λ i. branched (asked i) (lost i)) ∙ sym (alternative_is known alternative picks)

-- the handler of a port is the first that names it
body_step : (handlers : List Handler) (port : List ℕ) (i : ℕ) (handler : Handler) → i < length handlers →
    handler ≡ get_or handlers i handler →
    body_for (drop i handlers) port
    ≡ cond (same_name handler.port port) handler.body (body_for (drop (i + 1) handlers) port)
body_step handlers port i handler inside here = ap (λ hs. body_for hs port) (next_part handlers i handler inside here)

pub body_here : (handlers : List Handler) (port : List ℕ) (i : ℕ) (handler : Handler) → i < length handlers →
    handler ≡ get_or handlers i handler →
    body_for handlers port ≡ body_for (drop i handlers) port → same_name handler.port port ≡ true →
    handler.body ≡ body_for handlers port
body_here handlers port i handler inside here before same =
    sym (before ∙ body_step handlers port i handler inside here
    ∙ ap (λ b. cond b handler.body (body_for (drop (i + 1) handlers) port)) same)

pub body_later : (handlers : List Handler) (port : List ℕ) (i : ℕ) (handler : Handler) → i < length handlers →
    handler ≡ get_or handlers i handler →
    body_for handlers port ≡ body_for (drop i handlers) port → same_name handler.port port ≡ false →
    body_for handlers port ≡ body_for (drop (i + 1) handlers) port
body_later handlers port i handler inside here before other =
    before ∙ body_step handlers port i handler inside here
    ∙ ap (λ b. cond b handler.body (body_for (drop (i + 1) handlers) port)) other

pub body_nowhere : (handlers : List Handler) (port : List ℕ) (i : ℕ) → length handlers ≤ i →
    body_for handlers port ≡ body_for (drop i handlers) port → [] ≡ body_for handlers port
body_nowhere handlers port i all before = sym (before ∙ ap (λ hs. body_for hs port) (drop_all i handlers all))
