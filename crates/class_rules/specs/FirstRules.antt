-- The rules that a class may break, by what they ask of it, in their order.
use Rattle.std.specs.Prelude.{List, [], ◌∷◌, Option}
use Rattle.std.specs.List.{find}
use Rattle.amdl_tree.specs.declared.class.Class.{Class as AClass}
use Rattle.amdl_tree.specs.declared.tree.Item.{Item}
use Rattle.amdl_tree.specs.declared.tree.Item.TheVariants.{Class}
use Rattle.tree_rules.specs.declared.rule.Rule.{Rule}
use Rattle.tree_rules.specs.declared.rule.Rule.TheVariants.{
  UnknownName,
  TooMany,
  HeaderTooLarge,
  FieldLate,
  Arity,
  KindMismatch,
  RelationTooLarge,
  HandlerTwice,
  TooManyPaths,
  TooManyQueries,
  EndToItself,
  EndTaken,
  SameItem,
  TooManyCells,
}
use Rattle.tree_rules.specs.Checked.{breaks}

-- the first of these rules that the class behind these items breaks
abbrev pub first_among : List Rule → List Item → AClass → Option Rule
first_among rules before class = find (λ rule. breaks rule before (Class class)) rules

-- the rules on the handlers as wholes, and those that hold of no class
abbrev pub handler_rules : List Rule
handler_rules = HandlerTwice ∷ TooManyPaths ∷ TooManyQueries ∷ EndToItself ∷ EndTaken ∷ SameItem ∷ TooManyCells ∷ []

-- the rules on arguments and types, and those behind them
abbrev pub type_rules : List Rule
type_rules = Arity ∷ KindMismatch ∷ RelationTooLarge ∷ handler_rules

-- all rules but the one on names that are taken
abbrev pub later_rules : List Rule
later_rules = UnknownName ∷ TooMany ∷ HeaderTooLarge ∷ FieldLate ∷ type_rules
