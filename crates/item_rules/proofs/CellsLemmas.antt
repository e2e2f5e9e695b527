-- The rule on cells is the last of the rules on items.
use Rattle.std.proofs.Common.{◌≡◌, Bool, true, false, cond, List, [], ◌∷◌, ◌++◌, Option, Some, None, refl}
use Rattle.std.proofs.Common.{if◌then◌else◌, sym, ap, ◌∙◌}
use Rattle.std.specs.List.{find}
use Rattle.std.specs.Option.{option_or}
use Rattle.amdl_tree.specs.declared.tree.Item.{Item}
use Rattle.tree_rules.specs.declared.rule.Rule.{Rule}
use Rattle.tree_rules.specs.declared.rule.Rule.TheVariants.{TooManyCells}
use Rattle.tree_rules.specs.Rules.{too_many_cells}
use Rattle.tree_rules.specs.Checked.{breaks, first_rule}
use Rattle.item_rules.specs.CellsLast.{rules_but_cells, first_but_cells, cells_rule, CellsComeLast}

found_first : {A : Type 0} (b : Bool) (x : A) (rest others later : Option A) → rest ≡ option_or others later →
    cond b (Some x) rest ≡ option_or (cond b (Some x) others) later
found_first true x rest others later is = refl
found_first false x rest others later is = is

find_append : {A : Type 0} (p : A → Bool) (xs ys : List A) → find p (xs ++ ys) ≡ option_or (find p xs) (find p ys)
find_append p [] ys = refl
find_append p (x ∷ xs) ys = found_first (p x) x (find p (xs ++ ys)) (find p xs) (find p ys) (find_append p xs ys)

pub cells_come_last : CellsComeLast
cells_come_last = record {
  in_order = refl;
  first = λ before item. find_append (λ rule. breaks rule before item) rules_but_cells (TooManyCells ∷ []);
}

-- a rule but for that on cells is the first one, and else that on cells is
pub found_before : (before : List Item) (item : Item) (rule : Rule) → Some rule ≡ first_but_cells before item →
    Some rule ≡ first_rule before item
found_before before item rule is =
    ap (λ found. option_or found (cells_rule before item)) is ∙ sym (cells_come_last.first before item)

pub cells_then : (before : List Item) (item : Item) (cells : Bool) → None ≡ first_but_cells before item →
    cells ≡ too_many_cells before item → (if cells then Some TooManyCells else None) ≡ first_rule before item
cells_then before item cells none is =
    ap (λ b. if b then Some TooManyCells else None) is
    ∙ ap (λ found. option_or found (cells_rule before item)) none ∙ sym (cells_come_last.first before item)
