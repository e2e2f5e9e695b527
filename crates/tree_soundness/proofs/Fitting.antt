-- Handlers fit where nothing that they use breaks a rule.
use Rattle.std.proofs.Common.{◌≡◌, ℕ, ◌<◌, false, List, [], ◌∷◌, ◌++◌, length, map, Some, sym, ap, subst, ◌∙◌}
use Rattle.std.specs.List.{All, AllByRecursion, AllZip}
use Rattle.std.proofs.lemmas.List.{map-append}
use Rattle.std.proofs.lemmas.Option.{same_Some, slice_get_within}
use Rattle.amdl_tree.specs.declared.guard.Guard.{Guard}
use Rattle.amdl_tree.specs.declared.guard.Lit.{Lit}
use Rattle.amdl_tree.specs.declared.guard.Lit.TheOpen.{Lit-F}
use Rattle.amdl_tree.specs.declared.guard.Lit.TheViews.{out-Lit}
use Rattle.amdl_tree.specs.declared.statement.Alternative.{Alternative}
use Rattle.amdl_tree.specs.declared.statement.Stmt.{Stmt}
use Rattle.amdl_tree.specs.declared.statement.Stmt.TheOpen.{Stmt-F}
use Rattle.amdl_tree.specs.declared.statement.Stmt.TheViews.{out-Stmt}
use Rattle.amdl_tree.specs.declared.class.Class.{Class}
use Rattle.amdl_tree.specs.declared.tree.Item.{Item}
use Rattle.amdl_tree.specs.declared.tree.Item.TheVariants.{Class as OfClass}
use Rattle.amdl_tree.specs.WellBuilt.{StmtFits}
use Rattle.box_handlers.specs.declared.act.Probe.{Probe}
use Rattle.box_handlers.specs.declared.act.Probe.TheVariants as probe
use Rattle.box_handlers.specs.declared.act.Test.{Test}
use Rattle.box_handlers.specs.declared.act.Act.{Act}
use Rattle.box_handlers.specs.declared.act.Act.TheVariants as act
use Rattle.box_handlers.specs.declared.act.Branch.{Branch}
use Rattle.box_handlers.specs.Body.{all_of, any_of, formula_of, formula_of_probe, body_of, branches_of}
use Rattle.box_handlers.specs.Fits.{Surroundings, FormulaFits, Fits, BranchesFit}
use Rattle.box_handlers.proofs.BodyLemmas.{bodies_read, formulas_read}
use Rattle.net_plan.specs.declared.plan.Plan.{Plan}
use Rattle.net_plan.specs.declared.plan.ClassPlan.{ClassPlan}
use Rattle.tree_plan.specs.Names.{number_of, all_some, values_named}
use Rattle.tree_plan.specs.Handlers.{
  Known,
  term_of,
  query_of,
  change_of,
  lit_numbered,
  probe_of,
  test_of,
  all_within,
  stmt_numbered,
  act_of,
  branch_of,
  acts_of,
}
use Rattle.tree_plan.proofs.NumberedLemmas.{numbered}
use Rattle.tree_rules.specs.declared.opened.Opened.{Opened}
use Rattle.tree_rules.specs.Uses.{
  Use,
  all_uses,
  lit_uses,
  stmt_uses,
  uses_of_lit,
  uses_of_guard,
  uses_of_statement,
  uses_of_alternative,
  uses_of_body,
}
use Rattle.tree_rules.specs.Rules.{use_takes, use_arity, use_mismatch}
use Rattle.tree_soundness.proofs.Prefixes.{KeepsRules}
use Rattle.tree_soundness.proofs.Names.{number_is}
use Rattle.tree_soundness.proofs.Lists.{joined_some, option_map_some, come_from}
use Rattle.tree_soundness.proofs.Trees.{LitParts, StmtParts, guard_holds, body_holds}
use Rattle.tree_rules.proofs.UseLemmas.{uses_are_read}
use Rattle.tree_soundness.proofs.Spelled.{HasParts, IsClassOf}
use Rattle.tree_soundness.proofs.Classes.{Stands}
use Rattle.tree_soundness.proofs.Terms.{
  around,
  known,
  kind_before,
  AreOpen,
  names_of,
  query_fits,
  pair_fits,
  changes_fit,
  changes_apart,
}

-- what holds of each of a list in front, and behind
pub each_left : {A : Type 0} (P : A → Type 0) (xs ys : List A) → AllByRecursion P (xs ++ ys) → AllByRecursion P xs
each_left P [] ys each = tt
each_left P (x ∷ xs) ys each = (each.0, each_left P xs ys each.1)

pub each_right : {A : Type 0} (P : A → Type 0) (xs ys : List A) → AllByRecursion P (xs ++ ys) → AllByRecursion P ys
each_right P [] ys each = each
each_right P (x ∷ xs) ys each = each_right P xs ys each.1

-- one member more in both lists
pub zip_push : {A B : Type 0} (R : A → B → Type 0) (xs : List A) (ys : List B) (x : A) (y : B) → AllZip R xs ys →
    R x y → AllZip R (xs ++ x ∷ []) (ys ++ y ∷ [])
zip_push R [] [] x y zip here = (here, tt)
zip_push R [] (b ∷ ys) x y zip here = absurd zip
zip_push R (a ∷ xs) [] x y zip here = absurd zip
zip_push R (a ∷ xs) (b ∷ ys) x y zip here = (zip.0, zip_push R xs ys x y zip.1 here)

-- a use breaks none of these rules
pub record IsFree (before : List Item) (class : Class) (one : Use) : Type 0 where
  pub takes : use_takes before one ≡ false
  pub arity : use_arity class.relations one ≡ false
  pub mismatch : use_mismatch before class.relations one ≡ false

module _ (items : List Item) (keeps : KeepsRules items) (spelled : Plan) (parts : HasParts items spelled)
    (class : Class) (at : Stands items (OfClass class)) (found : ClassPlan) (of : IsClassOf items class found) where
  abbrev Around : Surroundings
  Around = around items keeps spelled parts class at found of

  abbrev Seen : Known
  Seen = known items keeps spelled parts class at found of

  abbrev Open : List Opened → List ℕ → Type 0
  Open = AreOpen items keeps spelled parts class at found of

  abbrev names : List Opened → List (List ℕ)
  names = names_of items keeps spelled parts class at found of

  abbrev Free : List Use → Type 0
  Free = AllByRecursion (IsFree at.before class)

  -- a literal, and a guard
  LitFitsAt : Lit → Type 0
  LitFitsAt lit = (opened : List Opened) (sizes : List ℕ) → Open opened sizes → Free (uses_of_lit lit opened) →
      (one : Probe) → probe_of Seen (names opened) lit ≡ Some one → FormulaFits Around sizes (formula_of_probe one)

  GuardFitsAt : Guard → Type 0
  GuardFitsAt guard = (opened : List Opened) (sizes : List ℕ) → Open opened sizes → Free (uses_of_guard guard opened) →
      (one : Test) → test_of Seen (names opened) guard ≡ Some one → FormulaFits Around sizes (formula_of one)

  lit_layer_fits : (layer : Lit-F Lit Guard) → LitParts LitFitsAt GuardFitsAt layer →
      (opened : List Opened) (sizes : List ℕ) → Open opened sizes →
      Free (lit_uses uses_of_lit uses_of_guard layer opened) → (one : Probe) →
      lit_numbered (probe_of Seen (names opened)) (test_of Seen (names opened)) Seen (names opened) layer
      ≡ Some one → FormulaFits Around sizes (formula_of_probe one)
  unfolding LitFitsAt GuardFitsAt
  lit_layer_fits Lit-F.True sub opened sizes are_open free one came =
      subst (λ one. FormulaFits Around sizes (formula_of_probe one)) (same_Some probe.True one came)
      (subst (FormulaFits Around sizes) (sym formulas_read.always) tt)
  lit_layer_fits (Lit-F.Has atom) sub opened sizes are_open free one came =
      option_map_some probe.Has (query_of Seen (names opened) atom) one came
      (λ query asked is.
      subst (λ one. FormulaFits Around sizes (formula_of_probe one)) is
      (subst (FormulaFits Around sizes) (sym (formulas_read.has query))
      (query_fits items keeps spelled parts class at found of opened sizes are_open atom query asked free.0.arity
      free.0.mismatch)))
  lit_layer_fits (Lit-F.Same first second) sub opened sizes are_open free one came =
      joined_some probe.Same (term_of Seen (names opened) first) (term_of Seen (names opened) second) one came
      (λ a b here there is.
      subst (λ one. FormulaFits Around sizes (formula_of_probe one)) is
      (subst (FormulaFits Around sizes) (sym (formulas_read.same a b))
      (pair_fits items keeps spelled parts class at found of opened sizes are_open first second a b here there
      free.0.mismatch)))
  lit_layer_fits (Lit-F.Differ first second) sub opened sizes are_open free one came =
      joined_some probe.Differ (term_of Seen (names opened) first) (term_of Seen (names opened) second) one came
      (λ a b here there is.
      subst (λ one. FormulaFits Around sizes (formula_of_probe one)) is
      (subst (FormulaFits Around sizes) (sym (formulas_read.differ a b))
      (pair_fits items keeps spelled parts class at found of opened sizes are_open first second a b here there
      free.0.mismatch)))
  lit_layer_fits (Lit-F.Not lit) sub opened sizes are_open free one came =
      option_map_some probe.Not (probe_of Seen (names opened) lit) one came
      (λ inner here is.
      subst (λ one. FormulaFits Around sizes (formula_of_probe one)) is
      (subst (FormulaFits Around sizes) (sym (formulas_read.deny inner)) (sub opened sizes are_open free inner here)))
  lit_layer_fits (Lit-F.Group guard) sub opened sizes are_open free one came =
      option_map_some probe.Group (test_of Seen (names opened) guard) one came
      (λ inner here is.
      subst (λ one. FormulaFits Around sizes (formula_of_probe one)) is
      (subst (FormulaFits Around sizes) (sym (formulas_read.group inner)) (sub opened sizes are_open free inner here)))

  lit_fits : (lit : Lit) → LitParts LitFitsAt GuardFitsAt (out-Lit lit) → LitFitsAt lit
  unfolding LitFitsAt
  lit_fits lit sub opened sizes are_open free one came =
      lit_layer_fits (out-Lit lit) sub opened sizes are_open (subst Free (uses_are_read.literal lit opened) free) one
      (sym (numbered.literal Seen (names opened) lit) ∙ came)

  probes_fit : (lits : List Lit) (probes : List Probe) (opened : List Opened) (sizes : List ℕ) →
      AllByRecursion LitFitsAt lits → Open opened sizes →
      Free (all_uses uses_of_lit lits opened) →
      AllZip (λ lit one. probe_of Seen (names opened) lit ≡ Some one) lits probes →
      FormulaFits Around sizes (all_of (map formula_of_probe probes))
  unfolding LitFitsAt
  probes_fit [] [] opened sizes each are_open free zip = tt
  probes_fit [] (one ∷ probes) opened sizes each are_open free zip = absurd zip
  probes_fit (lit ∷ lits) [] opened sizes each are_open free zip = absurd zip
  probes_fit (lit ∷ lits) (one ∷ probes) opened sizes each are_open free zip = (
    each.0 opened sizes are_open
        (each_left (IsFree at.before class) (uses_of_lit lit opened)
        (all_uses uses_of_lit lits opened) free) one zip.0,
    probes_fit lits probes opened sizes each.1 are_open
        (each_right (IsFree at.before class) (uses_of_lit lit opened) (all_uses uses_of_lit lits opened) free) zip.1,
  )

  lists_fit : (any : List (List Lit)) (lists : List (List Probe)) (opened : List Opened) (sizes : List ℕ) →
      AllByRecursion (AllByRecursion LitFitsAt) any → Open opened sizes →
      Free (all_uses (all_uses uses_of_lit) any opened) →
      AllZip (λ lits probes. all_some (probe_of Seen (names opened)) lits ≡ Some probes) any lists →
      FormulaFits Around sizes (any_of (map (map formula_of_probe) lists))
  lists_fit [] [] opened sizes each are_open free zip = tt
  lists_fit [] (probes ∷ lists) opened sizes each are_open free zip = absurd zip
  lists_fit (lits ∷ any) [] opened sizes each are_open free zip = absurd zip
  lists_fit (lits ∷ any) (probes ∷ lists) opened sizes each are_open free zip = (
    probes_fit lits probes opened sizes each.0 are_open
        (each_left (IsFree at.before class) (all_uses uses_of_lit lits opened)
        (all_uses (all_uses uses_of_lit) any opened) free)
        (come_from (probe_of Seen (names opened)) lits probes zip.0),
    lists_fit any lists opened sizes each.1 are_open
        (each_right (IsFree at.before class) (all_uses uses_of_lit lits opened)
        (all_uses (all_uses uses_of_lit) any opened) free) zip.1,
  )

  guard_fits : (guard : Guard) → AllByRecursion (AllByRecursion LitFitsAt) guard.any → GuardFitsAt guard
  unfolding GuardFitsAt
  guard_fits guard each opened sizes are_open free one came =
      option_map_some (λ lists. record { any = lists })
      (all_some (all_some (probe_of Seen (names opened))) guard.any) one
      (sym (numbered.guard Seen (names opened) guard) ∙ came)
      (λ lists here is.
      subst (λ (one : Test). FormulaFits Around sizes (formula_of one)) is
      (subst (FormulaFits Around sizes) (sym (formulas_read.test (record { any = lists })))
      (lists_fit guard.any lists opened sizes each are_open (subst Free (uses_are_read.guard guard opened) free)
      (come_from (all_some (probe_of Seen (names opened))) guard.any lists here))))

  -- a statement in front of a block, and an alternative in front of others
  StmtFitsAt : Stmt → Type 0
  StmtFitsAt stmt =
      (opened : List Opened) (sizes : List ℕ) → Open opened sizes → Free (uses_of_statement stmt opened) →
      (one : Act) → act_of Seen stmt (names opened) ≡ Some one → (rest : List Act) →
      Fits Around (body_of rest) sizes → Fits Around (body_of (one ∷ rest)) sizes

  BranchFitsAt : Alternative → Type 0
  BranchFitsAt alternative =
      (opened : List Opened) (sizes : List ℕ) → Open opened sizes → Free (uses_of_alternative alternative opened) →
      (one : Branch) → branch_of Seen alternative (names opened) ≡ Some one → (more : List Branch) →
      BranchesFit Around (branches_of more) sizes → BranchesFit Around (branches_of (one ∷ more)) sizes

  block_fits : (body : List Stmt) (acts : List Act) (opened : List Opened) (sizes : List ℕ) →
      AllByRecursion StmtFitsAt body → Open opened sizes →
      Free (all_uses uses_of_statement body opened) →
      AllZip (λ stmt one. act_of Seen stmt (names opened) ≡ Some one) body acts → Fits Around (body_of acts) sizes
  unfolding StmtFitsAt
  block_fits [] [] opened sizes each are_open free zip = tt
  block_fits [] (one ∷ acts) opened sizes each are_open free zip = absurd zip
  block_fits (stmt ∷ body) [] opened sizes each are_open free zip = absurd zip
  block_fits (stmt ∷ body) (one ∷ acts) opened sizes each are_open free zip =
      each.0 opened sizes are_open
      (each_left (IsFree at.before class) (uses_of_statement stmt opened)
      (all_uses uses_of_statement body opened) free) one zip.0 acts
      (block_fits body acts opened sizes each.1 are_open
      (each_right (IsFree at.before class) (uses_of_statement stmt opened)
      (all_uses uses_of_statement body opened) free) zip.1)

  branches_fit : (alternatives : List Alternative) (branches : List Branch) (opened : List Opened) (sizes : List ℕ) →
      AllByRecursion BranchFitsAt alternatives → Open opened sizes →
      Free (all_uses uses_of_alternative alternatives opened) →
      AllZip (λ alternative one. branch_of Seen alternative (names opened) ≡ Some one) alternatives branches →
      BranchesFit Around (branches_of branches) sizes
  unfolding BranchFitsAt
  branches_fit [] [] opened sizes each are_open free zip = tt
  branches_fit [] (one ∷ branches) opened sizes each are_open free zip = absurd zip
  branches_fit (alternative ∷ alternatives) [] opened sizes each are_open free zip = absurd zip
  branches_fit (alternative ∷ alternatives) (one ∷ branches) opened sizes each are_open free zip =
      each.0 opened sizes are_open
      (each_left (IsFree at.before class) (uses_of_alternative alternative opened)
      (all_uses uses_of_alternative alternatives opened) free) one zip.0 branches
      (branches_fit alternatives branches opened sizes each.1 are_open
      (each_right (IsFree at.before class) (uses_of_alternative alternative opened)
      (all_uses uses_of_alternative alternatives opened) free) zip.1)

  -- a pick more is open
  names_more : (opened : List Opened) (name kind : List ℕ) →
      names (opened ++ record { name = name; kind = kind } ∷ []) ≡ names opened ++ name ∷ []
  names_more opened name kind =
      map-append (λ (pick : Opened). pick.name) opened (record { name = name; kind = kind } ∷ [])

  open_more : (opened : List Opened) (sizes : List ℕ) (name kind : List ℕ) (size : ℕ) → Open opened sizes →
      values_named Seen.kinds kind ≡ Some size →
      Open (opened ++ record { name = name; kind = kind } ∷ []) (sizes ++ size ∷ [])
  open_more opened sizes name kind size are_open named =
      zip_push (λ (pick : Opened) (size : ℕ). values_named Seen.kinds pick.kind ≡ Some size) opened sizes
      (record { name = name; kind = kind }) size are_open named

  stmt_layer_fits : (layer : Stmt-F Stmt Alternative) → StmtParts StmtFitsAt BranchFitsAt layer →
      (opened : List Opened) (sizes : List ℕ) → Open opened sizes →
      Free (stmt_uses uses_of_statement uses_of_alternative layer opened) → (one : Act) →
      stmt_numbered (act_of Seen) (branch_of Seen) Seen layer (names opened) ≡ Some one → (rest : List Act) →
      Fits Around (body_of rest) sizes → Fits Around (body_of (one ∷ rest)) sizes
  stmt_layer_fits (Stmt-F.Insert atom) sub opened sizes are_open free one came rest behind =
      option_map_some act.Insert (query_of Seen (names opened) atom) one came
      (λ query asked is.
      subst (λ one. Fits Around (body_of (one ∷ rest)) sizes) is
      (subst (λ body. Fits Around body sizes) (sym (bodies_read.insert query rest)) (
        query_fits items keeps spelled parts class at found of opened sizes are_open atom query asked free.0.arity
            free.0.mismatch,
        behind,
      )))
  stmt_layer_fits (Stmt-F.Remove atom) sub opened sizes are_open free one came rest behind =
      option_map_some act.Remove (query_of Seen (names opened) atom) one came
      (λ query asked is.
      subst (λ one. Fits Around (body_of (one ∷ rest)) sizes) is
      (subst (λ body. Fits Around body sizes) (sym (bodies_read.remove query rest)) (
        query_fits items keeps spelled parts class at found of opened sizes are_open atom query asked free.0.arity
            free.0.mismatch,
        behind,
      )))
  stmt_layer_fits Stmt-F.Abort sub opened sizes are_open free one came rest behind =
      subst (λ one. Fits Around (body_of (one ∷ rest)) sizes) (same_Some act.Abort one came)
      (subst (λ body. Fits Around body sizes) (sym (bodies_read.abort rest)) behind)
  stmt_layer_fits (Stmt-F.Output port changes) sub opened sizes are_open free one came rest behind =
      joined_some act.Output (number_of Seen.ports port) (all_some (change_of Seen (names opened)) changes) one came
      (λ k numbers number changed is.
      let zip = come_from (change_of Seen (names opened)) changes numbers changed in
      let below : k < length found.ports =
      subst (λ ports. k < length ports) (sym of.ports)
      (slice_get_within class.ports k port (number_is class.ports port k number)) in
      subst (λ one. Fits Around (body_of (one ∷ rest)) sizes) is
      (subst (λ body. Fits Around body sizes) (sym (bodies_read.output k numbers rest)) (
        below,
        changes_fit items keeps spelled parts class at found of opened sizes are_open changes numbers zip
            free.0.mismatch,
        changes_apart items keeps spelled parts class at found of opened sizes are_open changes numbers zip
            free.0.takes,
        behind,
      )))
  stmt_layer_fits (Stmt-F.Choose alternatives) sub opened sizes are_open free one came rest behind =
      option_map_some act.Choose (all_within (branch_of Seen) (names opened) alternatives) one came
      (λ branches here is.
      subst (λ one. Fits Around (body_of (one ∷ rest)) sizes) is
      (subst (λ body. Fits Around body sizes) (sym (bodies_read.choose branches rest)) (
        branches_fit alternatives branches opened sizes sub are_open free
            (come_from (λ alternative. branch_of Seen alternative (names opened)) alternatives branches here),
        behind,
      )))
  stmt_layer_fits (Stmt-F.Pick name kind body) sub opened sizes are_open free one came rest behind =
      joined_some act.Pick (values_named Seen.kinds kind)
      (all_within (act_of Seen) (names opened ++ name ∷ []) body) one came
      (λ size acts named here is.
      let pick : Opened = record { name = name; kind = kind } in
      let more : List Opened = opened ++ pick ∷ [] in
      let of_kind = kind_before items keeps spelled parts class at found of kind size named in
      let acts_here : all_within (act_of Seen) (names more) body ≡ Some acts =
      ap (λ picks. all_within (act_of Seen) picks body) (names_more opened name kind) ∙ here in
      subst (λ one. Fits Around (body_of (one ∷ rest)) sizes) is
      (subst (λ body. Fits Around body sizes) (sym (bodies_read.pick size acts rest)) (
        (of_kind.0, of_kind.2),
        block_fits body acts more (sizes ++ size ∷ []) sub
            (open_more opened sizes name kind size are_open named) free.1
            (come_from (λ stmt. act_of Seen stmt (names more)) body acts acts_here),
        behind,
      )))

  stmt_fits : (stmt : Stmt) → StmtParts StmtFitsAt BranchFitsAt (out-Stmt stmt) → StmtFitsAt stmt
  unfolding StmtFitsAt
  stmt_fits stmt sub opened sizes are_open free one came rest behind =
      stmt_layer_fits (out-Stmt stmt) sub opened sizes are_open
      (subst Free (uses_are_read.statement stmt opened) free) one
      (sym (numbered.statement Seen stmt (names opened)) ∙ came) rest behind

  branch_fits : (alternative : Alternative) → GuardFitsAt alternative.guard →
      AllByRecursion StmtFitsAt alternative.body → BranchFitsAt alternative
  unfolding BranchFitsAt GuardFitsAt
  branch_fits alternative guard body opened sizes are_open free one came more behind =
      let free_parts = subst Free (uses_are_read.alternative alternative opened) free in
      joined_some (λ test acts. record { guard = test; body = acts }) (test_of Seen (names opened) alternative.guard)
      (all_within (act_of Seen) (names opened) alternative.body) one
      (sym (numbered.alternative Seen alternative (names opened)) ∙ came)
      (λ test acts tested acted is.
      subst (λ (one : Branch). BranchesFit Around (branches_of (one ∷ more)) sizes) is
      (subst (λ branches. BranchesFit Around branches sizes)
      (sym (bodies_read.branch (record { guard = test; body = acts }) more)) (
        guard opened sizes are_open
            (each_left (IsFree at.before class) (uses_of_guard alternative.guard opened)
            (all_uses uses_of_statement alternative.body opened) free_parts) test tested,
        block_fits alternative.body acts opened sizes body are_open
            (each_right (IsFree at.before class) (uses_of_guard alternative.guard opened)
            (all_uses uses_of_statement alternative.body opened) free_parts)
            (come_from (λ stmt. act_of Seen stmt (names opened)) alternative.body acts acted),
        behind,
      )))

  -- a handler fits
  pub acts_fit : (n : ℕ) (body : List Stmt) (acts : List Act) → All (StmtFits n) body → Free (uses_of_body body []) →
      acts_of Seen body ≡ Some acts → Fits Around (body_of acts) []
  acts_fit n body acts fits free came =
      block_fits body acts [] []
      (body_holds GuardFitsAt StmtFitsAt BranchFitsAt
      (guard_holds LitFitsAt GuardFitsAt lit_fits guard_fits) stmt_fits branch_fits n body fits) tt free
      (come_from (λ stmt. act_of Seen stmt []) body acts came)
