-- Laws on the rules.
use Rattle.std.specs.Prelude.{◌≡◌, ◌≢◌, ℕ, ◌⊎◌, List, [], ◌∷◌, ◌++◌, Some, None}
use Rattle.amdl_tree.specs.declared.guard.Guard.{Guard}
use Rattle.amdl_tree.specs.declared.guard.Lit.{Lit}
use Rattle.amdl_tree.specs.declared.guard.Lit.TheViews.{out-Lit}
use Rattle.amdl_tree.specs.declared.statement.Stmt.{Stmt}
use Rattle.amdl_tree.specs.declared.statement.Stmt.TheViews.{out-Stmt}
use Rattle.amdl_tree.specs.declared.statement.Alternative.{Alternative}
use Rattle.amdl_tree.specs.declared.tree.Item.{Item}
use Rattle.amdl_tree.specs.Items.{field_items}
use Rattle.tree_rules.specs.declared.rule.Rule.{Rule}
use Rattle.tree_rules.specs.Uses.{
  Opened,
  lit_uses,
  guard_uses,
  stmt_uses,
  branch_uses,
  uses_of_lit,
  uses_of_guard,
  uses_of_statement,
  uses_of_alternative,
}
use Rattle.tree_rules.specs.Checked.{
  IsWellFormed,
  IsRefusedAt,
  IsFirstRule,
  KeepsAll,
  KeepsEach,
  first_rule,
}

-- items are well formed, or else they are refused at some place by some rule
abbrev pub IsCheckedSomehow : List Item → Type 0
IsCheckedSomehow items = IsWellFormed items ⊎ ((number : ℕ) × (rule : Rule) × IsRefusedAt items number rule)

-- well-formed items are refused nowhere, and others at one place by one rule
pub record HasOneAnswer : Type 0 where
  pub some_answer : (items : List Item) → IsCheckedSomehow items
  pub not_both : (items : List Item) (number : ℕ) (rule : Rule) → IsWellFormed items → IsRefusedAt items number rule → ⊥
  pub one_place : (items : List Item) (one two : ℕ) (rule other : Rule) → IsRefusedAt items one rule →
      IsRefusedAt items two other → one ≡ two
  pub one_rule : (items : List Item) (one two : ℕ) (rule other : Rule) → IsRefusedAt items one rule →
      IsRefusedAt items two other → rule ≡ other

-- what each part of a handler uses, by what its parts use
pub record UsesAreRead : Type 0 where
  pub literal : (lit : Lit) (opened : List Opened) →
      uses_of_lit lit opened ≡ lit_uses uses_of_lit uses_of_guard (out-Lit lit) opened
  pub guard : (guard : Guard) (opened : List Opened) →
      uses_of_guard guard opened ≡ guard_uses uses_of_lit guard.any opened
  pub statement : (stmt : Stmt) (opened : List Opened) →
      uses_of_statement stmt opened ≡ stmt_uses uses_of_statement uses_of_alternative (out-Stmt stmt) opened
  pub alternative : (alternative : Alternative) (opened : List Opened) →
      uses_of_alternative alternative opened ≡ branch_uses uses_of_statement alternative.guard alternative.body opened

-- how a search through the items in their order comes to the answer
pub record RulesAreFound : Type 0 where
  pub found : (before : List Item) (item : Item) (rule : Rule) → first_rule before item ≡ Some rule →
      IsFirstRule before item rule
  pub none : (before : List Item) (item : Item) → first_rule before item ≡ None → KeepsAll before item
  pub begun : KeepsEach []
  pub more : (before : List Item) (item : Item) → KeepsEach before → KeepsAll before item →
      KeepsEach (before ++ item ∷ [])
  pub formed : (items : List Item) → KeepsEach items → field_items items ≢ [] → IsWellFormed items
