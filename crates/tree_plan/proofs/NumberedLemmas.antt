-- How the parts of a handler are numbered, one equation for each kind of part.
use Rattle.std.proofs.Common.{◌≡◌, ℕ, List, [], ◌∷◌, ◌++◌, map, Option, refl, ap, ◌∙◌}
use Rattle.std.specs.Option.{option_map}
use Rattle.amdl_tree.specs.declared.guard.Guard.{Guard}
use Rattle.amdl_tree.specs.declared.guard.Lit.{Lit}
use Rattle.amdl_tree.specs.declared.guard.Lit.TheOpen.{Lit-F}
use Rattle.amdl_tree.specs.declared.guard.Lit.TheViews.{out-Lit}
use Rattle.amdl_tree.specs.declared.guard.Lit.TheFolds.{map-Lit, fold_out-Lit, fold_out-Guard}
use Rattle.amdl_tree.specs.declared.statement.Alternative.{Alternative}
use Rattle.amdl_tree.specs.declared.statement.Stmt.{Stmt}
use Rattle.amdl_tree.specs.declared.statement.Stmt.TheOpen.{Stmt-F}
use Rattle.amdl_tree.specs.declared.statement.Stmt.TheViews.{out-Stmt}
use Rattle.amdl_tree.specs.declared.statement.Stmt.TheFolds.{map-Stmt, fold_out-Stmt, fold_out-Alternative}
use Rattle.box_handlers.specs.declared.act.Probe.{Probe}
use Rattle.box_handlers.specs.declared.act.Test.{Test}
use Rattle.box_handlers.specs.declared.act.Act.{Act}
use Rattle.box_handlers.specs.declared.act.Act.TheVariants as act
use Rattle.box_handlers.specs.declared.act.Branch.{Branch}
use Rattle.tree_plan.specs.Names.{joined, all_some, values_named}
use Rattle.tree_plan.specs.Handlers.{Known, as_it_is, lit_numbered, guard_numbered, lit_layer, guard_layer, probe_of}
use Rattle.tree_plan.specs.Handlers.{test_of, Within, stmt_numbered, branch_numbered, stmt_layer, alternative_layer}
use Rattle.tree_plan.specs.Handlers.{act_of, branch_of}
use Rattle.tree_plan.specs.Laws.{StatementsAreNumbered}

-- parts that are numbered first, and then all taken together
all_some-map : {A B C : Type 0} (g : B → Option C) (f : A → B) (xs : List A) →
    all_some g (map f xs) ≡ all_some (λ x. g (f x)) xs
all_some-map g f [] = refl
all_some-map g f (x ∷ xs) = ap (λ ys. joined (λ y others. y ∷ others) (g (f x)) ys) (all_some-map g f xs)

all_some-same : {A C : Type 0} (g h : A → Option C) → ((x : A) → g x ≡ h x) → (xs : List A) →
    all_some g xs ≡ all_some h xs
all_some-same g h same [] = refl
all_some-same g h same (x ∷ xs) = λ i. joined (λ y others. y ∷ others) (same x i) (all_some-same g h same xs i)

module _ (known : Known) (picks : List (List ℕ)) where
  lit_laid : (layer : Lit-F Lit Guard) →
      lit_layer known picks
      (map-Lit Lit Guard (Option Probe) (Option Test) (probe_of known picks) (test_of known picks) layer)
      ≡ lit_numbered (probe_of known picks) (test_of known picks) known picks layer
  lit_laid Lit-F.True = refl
  lit_laid (Lit-F.Has atom) = refl
  lit_laid (Lit-F.Same one two) = refl
  lit_laid (Lit-F.Differ one two) = refl
  lit_laid (Lit-F.Not lit) = refl
  lit_laid (Lit-F.Group guard) = refl

  pub literal_is : (lit : Lit) →
      probe_of known picks lit ≡ lit_numbered (probe_of known picks) (test_of known picks) known picks (out-Lit lit)
  unfolding probe_of test_of
  literal_is lit =
      fold_out-Lit (Option Probe) (Option Test) (lit_layer known picks) guard_layer lit ∙ lit_laid (out-Lit lit)

  lists_laid : (any : List (List Lit)) →
      all_some (all_some as_it_is) (map (map (probe_of known picks)) any)
      ≡ all_some (all_some (probe_of known picks)) any
  lists_laid any =
      all_some-map (all_some as_it_is) (map (probe_of known picks)) any
      ∙ all_some-same (λ lits. all_some as_it_is (map (probe_of known picks) lits)) (all_some (probe_of known picks))
      (λ lits. all_some-map as_it_is (probe_of known picks) lits) any

  pub guard_is : (guard : Guard) → test_of known picks guard ≡ guard_numbered (probe_of known picks) guard.any
  unfolding probe_of test_of
  guard_is guard =
      fold_out-Guard (Option Probe) (Option Test) (lit_layer known picks) guard_layer guard
      ∙ ap (option_map (λ lists. record { any = lists })) (lists_laid guard.any)

module _ (known : Known) where
  stmt_laid : (layer : Stmt-F Stmt Alternative) (picks : List (List ℕ)) →
      stmt_layer known
      (map-Stmt Stmt Alternative (Within Act) (Within Branch) (act_of known) (branch_of known) layer) picks
      ≡ stmt_numbered (act_of known) (branch_of known) known layer picks
  stmt_laid (Stmt-F.Insert atom) picks = refl
  stmt_laid (Stmt-F.Remove atom) picks = refl
  stmt_laid Stmt-F.Abort picks = refl
  stmt_laid (Stmt-F.Output port changes) picks = refl
  stmt_laid (Stmt-F.Choose alternatives) picks =
      ap (option_map act.Choose) (all_some-map (λ branch. branch picks) (branch_of known) alternatives)
  stmt_laid (Stmt-F.Pick name kind body) picks =
      ap (joined act.Pick (values_named known.kinds kind))
      (all_some-map (λ stmt. stmt (picks ++ name ∷ [])) (act_of known) body)

  pub statement_is : (stmt : Stmt) (picks : List (List ℕ)) →
      act_of known stmt picks ≡ stmt_numbered (act_of known) (branch_of known) known (out-Stmt stmt) picks
  unfolding act_of branch_of
  statement_is stmt picks =
      ap (λ f. f picks) (fold_out-Stmt (Within Act) (Within Branch) (stmt_layer known) (alternative_layer known) stmt)
      ∙ stmt_laid (out-Stmt stmt) picks

  pub alternative_is : (alternative : Alternative) (picks : List (List ℕ)) →
      branch_of known alternative picks ≡ branch_numbered (act_of known) known alternative.guard alternative.body picks
  unfolding act_of branch_of
  alternative_is alternative picks =
      ap (λ f. f picks)
      (fold_out-Alternative (Within Act) (Within Branch) (stmt_layer known) (alternative_layer known) alternative)
      ∙ ap (joined (λ test acts. record { guard = test; body = acts }) (test_of known picks alternative.guard))
      (all_some-map (λ stmt. stmt picks) (act_of known) alternative.body)

pub numbered : StatementsAreNumbered
numbered = record { literal = literal_is; guard = guard_is; statement = statement_is; alternative = alternative_is }
