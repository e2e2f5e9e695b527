-- The search through the items.
use Rattle.std.proofs.Common.{◌≡◌, ◌≢◌, ℕ, ◌+◌, ◌<◌, ◌≤◌, Bool, true, false, ◌||◌, List, [], ◌∷◌, ◌++◌, length, take}
use Rattle.std.proofs.Common.{drop, get_or, Option, Some, None, is_some, All, refl, sym, ap, subst, ◌∙◌, add-one, arith}
use mathlib.Core.Logic.{inl, inr}
use Rattle.std.specs.List.{list_any, cons_option}
use Rattle.std.proofs.lemmas.List.{take_more, take_all, take-append-drop, length-take-le}
use Rattle.std.proofs.lemmas.List.Elements.{All-take}
use Rattle.std.proofs.Math.Seq.{drop-cons}
use Rattle.amdl_tree.specs.declared.tree.Item.{Item}
use Rattle.amdl_tree.specs.Items.{FieldItem, field_item, field_items}
use Rattle.amdl_tree.specs.WellBuilt.{IsBuiltItem}
use Rattle.tree_rules.specs.declared.rule.Rule.{Rule}
use Rattle.tree_rules.specs.declared.rule.Rule.TheVariants.{NoField}
use Rattle.tree_rules.specs.Checked.{IsWellFormed, IsRefusedAt, KeepsEach, first_rule}
use Rattle.tree_rules.specs.Laws.{RulesAreFound}

-- an item is a field exactly where the items have one
some_field : (items : List Item) → list_any (λ item. is_some (field_item item)) items ≡ true → field_items items ≢ []
some_field [] any = absurd (cc)
some_field (item ∷ items) any = step (field_item item) (some_field items) any
  where
    step : (found : Option FieldItem) →
        (list_any (λ item. is_some (field_item item)) items ≡ true → field_items items ≢ []) →
        is_some found || list_any (λ item. is_some (field_item item)) items ≡ true →
        cons_option found (field_items items) ≢ []
    step (Some field) others any = λ e. absurd (cc)
    step None others any = others any

no_field : (items : List Item) → list_any (λ item. is_some (field_item item)) items ≡ false → field_items items ≡ []
no_field [] none = refl
no_field (item ∷ items) none = step (field_item item) (no_field items) none
  where
    step : (found : Option FieldItem) →
        (list_any (λ item. is_some (field_item item)) items ≡ false → field_items items ≡ []) →
        is_some found || list_any (λ item. is_some (field_item item)) items ≡ false →
        cons_option found (field_items items) ≡ []
    step (Some field) others none = absurd (cc)
    step None others none = others none

-- the items in front of an item, the item, and those behind it
next_item : {A : Type 0} (items : List A) (i : ℕ) (item : A) → i < length items → item ≡ get_or items i item →
    drop i items ≡ item ∷ drop (i + 1) items
next_item items i item inside here =
    let drop_next = rw (← add-one i) at (drop-cons items i item inside) in
    drop_next ∙ ap (λ x. x ∷ drop (i + 1) items) (sym here)

module _ (items : List Item) (i : ℕ) (item : Item) (inside : i < length items) (here : item ≡ get_or items i item) where
  parted : items ≡ take i items ++ item ∷ drop (i + 1) items
  parted =
      sym (take-append-drop i items) ∙ ap (λ rest. take i items ++ rest) (next_item items i item inside here)

  pub pushed : take i items ++ item ∷ [] ≡ take (i + 1) items
  pushed = ap (λ x. take i items ++ x ∷ []) here ∙ sym (take_more items i item inside)

  pub built_so_far : All IsBuiltItem items → All IsBuiltItem (take i items ++ item ∷ [])
  built_so_far built = subst (All IsBuiltItem) (sym pushed) (All-take IsBuiltItem (i + 1) items built)

  pub kept_so_far : RulesAreFound → KeepsEach (take i items) → None ≡ first_rule (take i items) item →
      KeepsEach (take i items ++ item ∷ [])
  kept_so_far laws keeps none = laws.more (take i items) item keeps (laws.none (take i items) item (sym none))

  pub fault_here : RulesAreFound → KeepsEach (take i items) → (rule : Rule) →
      Some rule ≡ first_rule (take i items) item → IsRefusedAt items i rule
  fault_here laws keeps rule found =
      inl (record {
        before = take i items;
        item = item;
        after = drop (i + 1) items;
        stands = parted;
        counted = sym (length-take-le i items (omega (arith, inside)));
        first = keeps;
        rule_first = laws.found (take i items) item rule (sym found);
      })

-- all items were gone through
module _ (items : List Item) (i : ℕ) (all : length items ≤ i) (keeps : KeepsEach (take i items)) where
  keeps_each : KeepsEach items
  keeps_each = subst KeepsEach (take_all i items all) keeps

  pub all_formed : RulesAreFound → (some : Bool) → some ≡ list_any (λ item. is_some (field_item item)) items →
      some ≡ true → IsWellFormed items
  all_formed laws some is found = laws.formed items keeps_each (some_field items (sym is ∙ found))

  pub all_lack : (some : Bool) → some ≡ list_any (λ item. is_some (field_item item)) items → some ≡ false →
      IsRefusedAt items (length items) NoField
  all_lack some is lacks =
      inr
      (record { first = keeps_each; none = no_field items (sym is ∙ lacks); counted = refl; rule_is = refl })

-- what is nothing in particular is nothing
pub none_of : {A : Type 0} (found : Option A) → ((x : A) → found ≡ Some x → ⊥) → found ≡ None
none_of None apart = refl
none_of (Some x) apart = absurd (apart x refl)
