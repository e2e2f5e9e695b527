-- Handlers with numbers in place of names. A pick hides what else has its name, and is counted from the outermost one.
use Rattle.std.specs.Prelude.{ℕ, List, [], ◌∷◌, ◌++◌, Option, Some, if◌then◌else◌}
use Rattle.std.specs.Option.{option_map, option_or}
use Rattle.amdl_tree.specs.declared.guard.Atom.{Atom}
use Rattle.amdl_tree.specs.declared.guard.Guard.{Guard}
use Rattle.amdl_tree.specs.declared.guard.Lit.{Lit}
use Rattle.amdl_tree.specs.declared.guard.Lit.TheOpen.{Lit-F, Guard-F}
use Rattle.amdl_tree.specs.declared.guard.Lit.TheFolds.{fold-Lit, fold-Guard}
use Rattle.amdl_tree.specs.declared.statement.Stmt.{Stmt}
use Rattle.amdl_tree.specs.declared.statement.Alternative.{Alternative}
use Rattle.amdl_tree.specs.declared.statement.Stmt.TheOpen.{Stmt-F, Alternative-F}
use Rattle.amdl_tree.specs.declared.statement.Stmt.TheFolds.{fold-Stmt, fold-Alternative}
use Rattle.amdl_tree.specs.declared.class.Handler.{Handler}
use Rattle.amdl_tree.specs.declared.tree.Equal.{Equal}
use Rattle.amdl_tree.specs.Items.{KindItem}
use Rattle.box_handlers.specs.declared.act.Term.{Term}
use Rattle.box_handlers.specs.declared.act.Term.TheVariants as term
use Rattle.box_handlers.specs.declared.act.Query.{Query}
use Rattle.box_handlers.specs.declared.act.Change.{Change}
use Rattle.box_handlers.specs.declared.act.Probe.{Probe}
use Rattle.box_handlers.specs.declared.act.Probe.TheVariants as probe
use Rattle.box_handlers.specs.declared.act.Test.{Test}
use Rattle.box_handlers.specs.declared.act.Act.{Act}
use Rattle.box_handlers.specs.declared.act.Act.TheVariants as act
use Rattle.box_handlers.specs.declared.act.Branch.{Branch}
use Rattle.tree_plan.specs.Names.{same_name, number_of, joined, all_some, value_number, values_named}

-- what the handlers of a class may name: types, fields, relations and ports, in their order
pub record Known : Type 0 where
  pub kinds : List KindItem
  pub fields : List (List ℕ)
  pub relations : List (List ℕ)
  pub ports : List (List ℕ)

-- an expression: an enclosing pick, else a field, else a value
abbrev pub term_of : Known → List (List ℕ) → List ℕ → Option Term
term_of known picks name =
    option_or (option_map term.Picked (number_of picks name))
    (option_or (option_map term.Field (number_of known.fields name))
    (option_map term.Value (value_number known.kinds name)))

abbrev pub query_of : Known → List (List ℕ) → Atom → Option Query
query_of known picks atom =
    joined (λ relation args. record { relation = relation; args = args })
    (number_of known.relations atom.relation) (all_some (term_of known picks) atom.args)

abbrev pub change_of : Known → List (List ℕ) → Equal → Option Change
change_of known picks change =
    joined (λ field to. record { field = field; to = to })
    (number_of known.fields change.field) (term_of known picks change.value)

-- what is numbered already
abbrev pub as_it_is : {A : Type 0} → A → A
as_it_is x = x

-- one layer of a guard, whose parts are numbered already
abbrev pub lit_numbered : {L G : Type 0} → (L → Option Probe) → (G → Option Test) → Known → List (List ℕ) → Lit-F L G →
    Option Probe
lit_numbered literal guarded known picks Lit-F.True = Some probe.True
lit_numbered literal guarded known picks (Lit-F.Has atom) = option_map probe.Has (query_of known picks atom)
lit_numbered literal guarded known picks (Lit-F.Same one two) =
    joined probe.Same (term_of known picks one) (term_of known picks two)
lit_numbered literal guarded known picks (Lit-F.Differ one two) =
    joined probe.Differ (term_of known picks one) (term_of known picks two)
lit_numbered literal guarded known picks (Lit-F.Not lit) = option_map probe.Not (literal lit)
lit_numbered literal guarded known picks (Lit-F.Group guard) = option_map probe.Group (guarded guard)

abbrev pub guard_numbered : {L : Type 0} → (L → Option Probe) → List (List L) → Option Test
guard_numbered literal any = option_map (λ lists. record { any = lists }) (all_some (all_some literal) any)

abbrev pub lit_layer : Known → List (List ℕ) → Lit-F (Option Probe) (Option Test) → Option Probe
lit_layer known picks layer = lit_numbered as_it_is as_it_is known picks layer

abbrev pub guard_layer : Guard-F (Option Probe) (Option Test) → Option Test
guard_layer guard = guard_numbered as_it_is guard.any

unfoldable pub probe_of : Known → List (List ℕ) → Lit → Option Probe
probe_of known picks = fold-Lit (Option Probe) (Option Test) (lit_layer known picks) guard_layer

unfoldable pub test_of : Known → List (List ℕ) → Guard → Option Test
test_of known picks = fold-Guard (Option Probe) (Option Test) (lit_layer known picks) guard_layer

-- what a statement, or an alternative, comes to within picks of these names, the outermost first
abbrev pub Within : Type 0 → Type 0
Within A = List (List ℕ) → Option A

-- statements in a row within the same picks
abbrev pub all_within : {S A : Type 0} → (S → Within A) → List (List ℕ) → List S → Option (List A)
all_within stated picks body = all_some (λ stmt. stated stmt picks) body

-- one statement, given what those of a block and the alternatives of an `if` come to
abbrev pub stmt_numbered : {S A : Type 0} → (S → Within Act) → (A → Within Branch) → Known → Stmt-F S A → Within Act
stmt_numbered stated branched known (Stmt-F.Insert atom) picks = option_map act.Insert (query_of known picks atom)
stmt_numbered stated branched known (Stmt-F.Remove atom) picks = option_map act.Remove (query_of known picks atom)
stmt_numbered stated branched known Stmt-F.Abort picks = Some act.Abort
stmt_numbered stated branched known (Stmt-F.Output port changes) picks =
    joined act.Output (number_of known.ports port) (all_some (change_of known picks) changes)
stmt_numbered stated branched known (Stmt-F.Choose alternatives) picks =
    option_map act.Choose (all_within branched picks alternatives)
stmt_numbered stated branched known (Stmt-F.Pick name kind body) picks =
    joined act.Pick (values_named known.kinds kind) (all_within stated (picks ++ name ∷ []) body)

abbrev pub branch_numbered : {S : Type 0} → (S → Within Act) → Known → Guard → List S → Within Branch
branch_numbered stated known guard body picks =
    joined (λ test acts. record { guard = test; body = acts }) (test_of known picks guard)
    (all_within stated picks body)

-- one layer, whose parts are numbered already
abbrev pub stmt_layer : Known → Stmt-F (Within Act) (Within Branch) → Within Act
stmt_layer known layer = stmt_numbered as_it_is as_it_is known layer

abbrev pub alternative_layer : Known → Alternative-F (Within Act) (Within Branch) → Within Branch
alternative_layer known alternative = branch_numbered as_it_is known alternative.guard alternative.body

unfoldable pub act_of : Known → Stmt → Within Act
act_of known = fold-Stmt (Within Act) (Within Branch) (stmt_layer known) (alternative_layer known)

unfoldable pub branch_of : Known → Alternative → Within Branch
branch_of known = fold-Alternative (Within Act) (Within Branch) (stmt_layer known) (alternative_layer known)

-- the statements of a handler
abbrev pub acts_of : Known → List Stmt → Option (List Act)
acts_of known body = all_within (act_of known) [] body

-- the block of a port: that of its handler, and the empty one where it has none
abbrev pub body_for : List Handler → List ℕ → List Stmt
body_for [] port = []
body_for (handler ∷ handlers) port = if same_name handler.port port then handler.body else body_for handlers port

-- a handler for each port, in the order of the ports
abbrev pub handlers_of : Known → List Handler → Option (List (List Act))
handlers_of known handlers = all_some (λ port. acts_of known (body_for handlers port)) known.ports
