-- Items before an item, and rules that hold of none of them.
use Rattle.std.proofs.Common.{◌≡◌, List, [], ◌∷◌, ◌++◌, refl, sym, ap, subst, ◌∙◌, append_assoc, append-nil}
use Rattle.amdl_tree.specs.declared.tree.Item.{Item}
use Rattle.tree_rules.specs.declared.rule.Rule.{Rule}
use Rattle.tree_rules.specs.declared.rule.Rule.TheVariants.{
  NameTaken,
  UnknownName,
  TooMany,
  HeaderTooLarge,
  FieldLate,
  Arity,
  KindMismatch,
  RelationTooLarge,
  HandlerTwice,
  TooManyPaths,
  TooManyQueries,
  EndToItself,
  EndTaken,
  SameItem,
  TooManyCells,
  NoField,
}
use Rattle.tree_rules.specs.Checked.{breaks, IsKept, IsWellFormed}

-- no rule holds of any of the items with those before it
pub record KeepsRules (items : List Item) : Type 0 where
  pub each : (rule : Rule) → IsKept items (breaks rule)

pub keeps_rules : (items : List Item) → IsWellFormed items → KeepsRules items
keeps_rules items formed = record {
  each = λ rule. elim rule as (λ rule. IsKept items (breaks rule)) [
    | NameTaken ↦ formed.names_free
    | UnknownName ↦ formed.names_known
    | TooMany ↦ formed.counts_small
    | HeaderTooLarge ↦ formed.header_small
    | FieldLate ↦ formed.fields_early
    | Arity ↦ formed.arities_meet
    | KindMismatch ↦ formed.kinds_meet
    | RelationTooLarge ↦ formed.relations_small
    | HandlerTwice ↦ formed.handlers_apart
    | TooManyPaths ↦ formed.paths_few
    | TooManyQueries ↦ formed.queries_few
    | EndToItself ↦ formed.ends_differ
    | EndTaken ↦ formed.ends_free
    | SameItem ↦ formed.items_apart
    | TooManyCells ↦ formed.cells_few
    | NoField ↦ λ before item after stands. refl
  ];
}

-- the same holds of the items in front
pub keeps_front : (items front back : List Item) → items ≡ front ++ back → KeepsRules items → KeepsRules front
keeps_front items front back whole keeps = record {
  each = λ rule before item after stands.
      keeps.each rule before item (after ++ back)
      (whole ∙ ap (λ t. t ++ back) stands ∙ append_assoc before (item ∷ after) back);
}

-- what holds of no items, and of an item more, holds of all items
grown : (P : List Item → Type 0) (items before rest : List Item) → items ≡ before ++ rest → P before →
    ((before : List Item) (item : Item) (after : List Item) → items ≡ before ++ item ∷ after → P before →
    P (before ++ item ∷ [])) → P items
grown P items before [] whole here more = subst P (sym (whole ∙ append-nil before)) here
grown P items before (item ∷ rest) whole here more =
    grown P items (before ++ item ∷ []) rest (whole ∙ sym (append_assoc before (item ∷ []) rest))
    (more before item rest whole here) more

pub grows : (P : List Item → Type 0) (items : List Item) → P [] →
    ((before : List Item) (item : Item) (after : List Item) → items ≡ before ++ item ∷ after → P before →
    P (before ++ item ∷ [])) → P items
grows P items none more = grown P items [] items refl none more
