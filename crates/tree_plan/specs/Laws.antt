-- Laws on the network of a text.
use Rattle.std.specs.Prelude.{◌≡◌, ℕ, List}
use Rattle.amdl_tree.specs.declared.guard.Guard.{Guard}
use Rattle.amdl_tree.specs.declared.guard.Lit.{Lit}
use Rattle.amdl_tree.specs.declared.guard.Lit.TheViews.{out-Lit}
use Rattle.amdl_tree.specs.declared.statement.Stmt.{Stmt}
use Rattle.amdl_tree.specs.declared.statement.Stmt.TheViews.{out-Stmt}
use Rattle.amdl_tree.specs.declared.statement.Alternative.{Alternative}
use Rattle.tree_plan.specs.Handlers.{Known, lit_numbered, guard_numbered, probe_of, test_of, stmt_numbered}
use Rattle.tree_plan.specs.Handlers.{branch_numbered, act_of, branch_of}

-- how each part of a handler is numbered by its parts
pub record StatementsAreNumbered : Type 0 where
  pub literal : (known : Known) (picks : List (List ℕ)) (lit : Lit) →
      probe_of known picks lit ≡ lit_numbered (probe_of known picks) (test_of known picks) known picks (out-Lit lit)
  pub guard : (known : Known) (picks : List (List ℕ)) (guard : Guard) →
      test_of known picks guard ≡ guard_numbered (probe_of known picks) guard.any
  pub statement : (known : Known) (stmt : Stmt) (picks : List (List ℕ)) →
      act_of known stmt picks ≡ stmt_numbered (act_of known) (branch_of known) known (out-Stmt stmt) picks
  pub alternative : (known : Known) (alternative : Alternative) (picks : List (List ℕ)) →
      branch_of known alternative picks ≡ branch_numbered (act_of known) known alternative.guard alternative.body picks
