-- The rule on cells is the last of the rules on items.
use Rattle.std.specs.Prelude.{◌≡◌, List, [], ◌∷◌, ◌++◌, Option, Some, None, if◌then◌else◌}
use Rattle.std.specs.List.{find}
use Rattle.std.specs.Option.{option_or}
use Rattle.amdl_tree.specs.declared.tree.Item.{Item}
use Rattle.tree_rules.specs.declared.rule.Rule.{Rule}
use Rattle.tree_rules.specs.declared.rule.Rule.TheVariants.{
  NameTaken,
  UnknownName,
  TooMany,
  HeaderTooLarge,
  FieldLate,
  Arity,
  KindMismatch,
  RelationTooLarge,
  HandlerTwice,
  TooManyPaths,
  TooManyQueries,
  EndToItself,
  EndTaken,
  SameItem,
  TooManyCells,
}
use Rattle.tree_rules.specs.Rules.{too_many_cells}
use Rattle.tree_rules.specs.Checked.{breaks, item_rules, first_rule}

-- the rules on items in their order, but for that on cells
abbrev pub rules_but_cells : List Rule
rules_but_cells =
    NameTaken ∷ UnknownName ∷ TooMany ∷ HeaderTooLarge ∷ FieldLate ∷ Arity ∷ KindMismatch ∷ RelationTooLarge
    ∷ HandlerTwice ∷ TooManyPaths ∷ TooManyQueries ∷ EndToItself ∷ EndTaken ∷ SameItem ∷ []

-- the first of these rules that holds of the item behind these
abbrev pub first_but_cells : List Item → Item → Option Rule
first_but_cells before item = find (λ rule. breaks rule before item) rules_but_cells

-- the rule on cells, where it holds
abbrev pub cells_rule : List Item → Item → Option Rule
cells_rule before item = if too_many_cells before item then Some TooManyCells else None

-- the first rule is the first of these, or else that on cells
pub record CellsComeLast : Type 0 where
  pub in_order : item_rules ≡ rules_but_cells ++ TooManyCells ∷ []
  pub first : (before : List Item) (item : Item) →
      first_rule before item ≡ option_or (first_but_cells before item) (cells_rule before item)
