-- Well-formed items, and the first item and rule of those that aren't.
use Rattle.std.specs.Prelude.{◌≡◌, ◌≢◌, ℕ, Bool, true, false, ◌⊎◌, List, [], ◌∷◌, ◌++◌, Option, length}
use Rattle.std.specs.List.{All, find}
use Rattle.amdl_tree.specs.declared.tree.Item.{Item}
use Rattle.amdl_tree.specs.Items.{field_items}
use Rattle.tree_rules.specs.declared.rule.Rule.{Rule}
use Rattle.tree_rules.specs.declared.rule.Rule.TheVariants.{
  NameTaken,
  UnknownName,
  TooMany,
  HeaderTooLarge,
  FieldLate,
  Arity,
  KindMismatch,
  RelationTooLarge,
  HandlerTwice,
  TooManyPaths,
  TooManyQueries,
  EndToItself,
  EndTaken,
  SameItem,
  TooManyCells,
  NoField,
}
use Rattle.tree_rules.specs.Rules.{
  name_taken,
  name_unknown,
  too_many,
  header_too_large,
  field_late,
  arity,
  kind_mismatch,
  relation_too_large,
  handler_twice,
  too_many_paths,
  too_many_queries,
  end_to_itself,
  end_taken,
  same_item,
  too_many_cells,
}

-- the rule holds of the item behind these items; that no item is a field is said of all of them together
abbrev pub breaks : Rule → List Item → Item → Bool
breaks NameTaken = name_taken
breaks UnknownName = name_unknown
breaks TooMany = too_many
breaks HeaderTooLarge = header_too_large
breaks FieldLate = field_late
breaks Arity = arity
breaks KindMismatch = kind_mismatch
breaks RelationTooLarge = relation_too_large
breaks HandlerTwice = handler_twice
breaks TooManyPaths = too_many_paths
breaks TooManyQueries = too_many_queries
breaks EndToItself = end_to_itself
breaks EndTaken = end_taken
breaks SameItem = same_item
breaks TooManyCells = too_many_cells
breaks NoField = λ before item. false

-- the rule holds of no item with the items before it
abbrev pub IsKept : List Item → (List Item → Item → Bool) → Type 0
IsKept items rule =
    (before : List Item) (item : Item) (after : List Item) → items ≡ before ++ item ∷ after → rule before item ≡ false

-- no rule holds of any item with the items before it, and one item is a field
pub record IsWellFormed (items : List Item) : Type 0 where
  pub names_free : IsKept items name_taken
  pub names_known : IsKept items name_unknown
  pub counts_small : IsKept items too_many
  pub header_small : IsKept items header_too_large
  pub fields_early : IsKept items field_late
  pub arities_meet : IsKept items arity
  pub kinds_meet : IsKept items kind_mismatch
  pub relations_small : IsKept items relation_too_large
  pub handlers_apart : IsKept items handler_twice
  pub paths_few : IsKept items too_many_paths
  pub queries_few : IsKept items too_many_queries
  pub ends_differ : IsKept items end_to_itself
  pub ends_free : IsKept items end_taken
  pub items_apart : IsKept items same_item
  pub cells_few : IsKept items too_many_cells
  pub some_field : field_items items ≢ []

-- the rules in their order, but for the last
abbrev pub item_rules : List Rule
item_rules =
    NameTaken ∷ UnknownName ∷ TooMany ∷ HeaderTooLarge ∷ FieldLate ∷ Arity ∷ KindMismatch ∷ RelationTooLarge
    ∷ HandlerTwice ∷ TooManyPaths ∷ TooManyQueries ∷ EndToItself ∷ EndTaken ∷ SameItem ∷ TooManyCells ∷ []

-- the first rule that holds of the item behind these
abbrev pub first_rule : List Item → Item → Option Rule
first_rule before item = find (λ rule. breaks rule before item) item_rules

-- no rule holds of the item behind these
abbrev pub KeepsAll : List Item → Item → Type 0
KeepsAll before item = (rule : Rule) → breaks rule before item ≡ false

-- no rule holds of any of the items with the items before it
abbrev pub KeepsEach : List Item → Type 0
KeepsEach items =
    (front : List Item) (other : Item) (back : List Item) → items ≡ front ++ other ∷ back → KeepsAll front other

-- the rule holds of the item behind these, and no earlier rule does
pub record IsFirstRule (before : List Item) (item : Item) (rule : Rule) : Type 0 where
  pub earlier : List Rule
  pub later : List Rule
  pub in_order : item_rules ≡ earlier ++ rule ∷ later
  pub holds : breaks rule before item ≡ true
  pub kept : All (λ other. breaks other before item ≡ false) earlier

-- the first item of which a rule holds with the items before it, with its first rule
pub record IsFaultAt (items : List Item) (number : ℕ) (rule : Rule) : Type 0 where
  pub before : List Item
  pub item : Item
  pub after : List Item
  pub stands : items ≡ before ++ item ∷ after
  pub counted : number ≡ length before
  pub first : KeepsEach before
  pub rule_first : IsFirstRule before item rule

-- no rule holds of any item, and none is a field; then the place is behind them all
pub record LacksField (items : List Item) (number : ℕ) (rule : Rule) : Type 0 where
  pub first : KeepsEach items
  pub none : field_items items ≡ []
  pub counted : number ≡ length items
  pub rule_is : rule ≡ NoField

-- the items are refused at this place by this rule
abbrev pub IsRefusedAt : List Item → ℕ → Rule → Type 0
IsRefusedAt items number rule = IsFaultAt items number rule ⊎ LacksField items number rule
