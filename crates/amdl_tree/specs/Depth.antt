-- The depth of a tree: the length of the longest chain of `if`, `pick`, `not` and groups in which each one stands
-- within
-- the one before it. The guard and the blocks of an `if` both stand within it.
use Rattle.std.specs.Prelude.{ℕ, suc, List, [], ◌∷◌, map, max}
use Rattle.amdl_tree.specs.declared.guard.Guard.{Guard}
use Rattle.amdl_tree.specs.declared.guard.Lit.{Lit}
use Rattle.amdl_tree.specs.declared.guard.Lit.TheOpen.{Lit-F, Guard-F}
use Rattle.amdl_tree.specs.declared.guard.Lit.TheFolds.{fold-Lit, fold-Guard}
use Rattle.amdl_tree.specs.declared.statement.Alternative.{Alternative}
use Rattle.amdl_tree.specs.declared.statement.Stmt.{Stmt}
use Rattle.amdl_tree.specs.declared.statement.Stmt.TheOpen.{Stmt-F, Alternative-F}
use Rattle.amdl_tree.specs.declared.statement.Stmt.TheFolds.{fold-Stmt, fold-Alternative}
use Rattle.amdl_tree.specs.declared.class.Class.{Class}
use Rattle.amdl_tree.specs.declared.class.Handler.{Handler}
use Rattle.amdl_tree.specs.declared.tree.Item.{Item}
use Rattle.amdl_tree.specs.declared.tree.Item.TheVariants.{Class as OfClass}
use Rattle.amdl_tree.specs.declared.tree.Tree.{Tree}

-- the greatest of some numbers, 0 where there is none
abbrev pub greatest : List ℕ → ℕ
greatest [] = 0
greatest (n ∷ ns) = max n (greatest ns)

-- the greatest depth of some parts
abbrev pub deepest : {A : Type 0} → (A → ℕ) → List A → ℕ
deepest depth parts = greatest (map depth parts)

-- a number as it is
abbrev pub same_depth : ℕ → ℕ
same_depth depth = depth

-- a literal, given the depth of the literal behind a `not` and of the guard of a group
abbrev pub lit_depth : {L G : Type 0} → (L → ℕ) → (G → ℕ) → Lit-F L G → ℕ
lit_depth literal guarded (Lit-F.Not lit) = suc (literal lit)
lit_depth literal guarded (Lit-F.Group guard) = suc (guarded guard)
lit_depth literal guarded other = 0

abbrev pub guard_depth : {L : Type 0} → (L → ℕ) → List (List L) → ℕ
guard_depth literal any = deepest (deepest literal) any

-- one layer, the depths of whose parts are known
abbrev pub lit_deep : Lit-F ℕ ℕ → ℕ
lit_deep = lit_depth same_depth same_depth

abbrev pub guard_deep : Guard-F ℕ ℕ → ℕ
guard_deep guard = guard_depth same_depth guard.any

unfoldable pub depth_of_lit : Lit → ℕ
depth_of_lit = fold-Lit ℕ ℕ lit_deep guard_deep

unfoldable pub depth_of_guard : Guard → ℕ
depth_of_guard = fold-Guard ℕ ℕ lit_deep guard_deep

-- a statement, given the depth of the statements of a block and of the alternatives of an `if`
abbrev pub stmt_depth : {S A : Type 0} → (S → ℕ) → (A → ℕ) → Stmt-F S A → ℕ
stmt_depth stated branched (Stmt-F.Choose alternatives) = suc (deepest branched alternatives)
stmt_depth stated branched (Stmt-F.Pick name kind body) = suc (deepest stated body)
stmt_depth stated branched other = 0

abbrev pub branch_depth : {S : Type 0} → (S → ℕ) → Guard → List S → ℕ
branch_depth stated guard body = max (depth_of_guard guard) (deepest stated body)

-- one layer, the depths of whose parts are known
abbrev pub stmt_deep : Stmt-F ℕ ℕ → ℕ
stmt_deep = stmt_depth same_depth same_depth

abbrev pub alternative_deep : Alternative-F ℕ ℕ → ℕ
alternative_deep alternative = branch_depth same_depth alternative.guard alternative.body

unfoldable pub depth_of_statement : Stmt → ℕ
depth_of_statement = fold-Stmt ℕ ℕ stmt_deep alternative_deep

unfoldable pub depth_of_alternative : Alternative → ℕ
depth_of_alternative = fold-Alternative ℕ ℕ stmt_deep alternative_deep

abbrev pub depth_of_handler : Handler → ℕ
depth_of_handler handler = deepest depth_of_statement handler.body

abbrev pub depth_of_class : Class → ℕ
depth_of_class class = deepest depth_of_handler class.handlers

abbrev pub depth_of_item : Item → ℕ
depth_of_item (OfClass class) = depth_of_class class
depth_of_item item = 0

abbrev pub depth_of_tree : Tree → ℕ
depth_of_tree tree = deepest depth_of_item tree.items
