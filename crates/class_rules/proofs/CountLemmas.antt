-- How many classes there are, and how many parts a class has.
use Rattle.std.proofs.Common.{◌≡◌, ℕ, ◌+◌, ◌<◌, ◌≤◌, Bool, true, false, ◌||◌, nat_lt, nat_le, List, [], ◌∷◌, ◌++◌}
use Rattle.std.proofs.Common.{length, take, get_or, cond, Option, Some, None, is_some, sym, ap, ◌∙◌, append-nil}
use Rattle.std.proofs.Common.{arith}
use Rattle.std.specs.List.{list_any, cons_option}
use Rattle.std.proofs.lemmas.List.{take_more, take_all, length-append}
use Rattle.std.proofs.lemmas.List.Elements.{filter_map-append}
use Rattle.std.proofs.Math.Nat.{add-zero}
use Rattle.amdl_tree.specs.declared.class.Class.{Class}
use Rattle.amdl_tree.specs.declared.tree.Item.{Item}
use Rattle.amdl_tree.specs.Items.{class_item, class_items}
use Rattle.box_handlers.specs.declared.act.Act.{Act}
use Rattle.box_handlers.specs.Size.{statements_of_all, literals_of_all}
use Rattle.tree_rules.specs.Rules.{passes, class_too_many}
use Rattle.class_rules.specs.declared.read.ReadClass.{ReadClass}
use Rattle.class_rules.specs.Reads.{IsRead}

-- the classes so far, and one item more
next_item : (items : List Item) (i : ℕ) (item : Item) → i < length items → item ≡ get_or items i item →
    class_items (take (i + 1) items) ≡ class_items (take i items) ++ cons_option (class_item item) []
next_item items i item inside here =
    ap class_items (take_more items i item inside ∙ ap (λ one. take i items ++ one ∷ []) (sym here))
    ∙ filter_map-append class_item (take i items) (item ∷ [])

more : (classes : List Class) (found : Option Class) →
    length (classes ++ cons_option found []) ≡ length classes + cond (is_some found) 1 0
more classes None = ap length (append-nil classes) ∙ sym (add-zero (length classes))
more classes (Some class) = length-append classes (class ∷ [])

pub class_more : (items : List Item) (i : ℕ) (item : Item) (count : ℕ) (found : Bool) → i < length items →
    item ≡ get_or items i item → count ≡ length (class_items (take i items)) → found ≡ is_some (class_item item) →
    found ≡ true → count + 1 ≡ length (class_items (take (i + 1) items))
class_more items i item count found inside here so_far is e =
    sym (ap length (next_item items i item inside here) ∙ more (class_items (take i items)) (class_item item)
    ∙ ap (λ b. length (class_items (take i items)) + cond b 1 0) (sym is ∙ e) ∙ ap (λ n. n + 1) (sym so_far))

pub class_skipped : (items : List Item) (i : ℕ) (item : Item) (count : ℕ) (found : Bool) → i < length items →
    item ≡ get_or items i item → count ≡ length (class_items (take i items)) → found ≡ is_some (class_item item) →
    found ≡ false → count ≡ length (class_items (take (i + 1) items))
class_skipped items i item count found inside here so_far is e =
    sym (ap length (next_item items i item inside here) ∙ more (class_items (take i items)) (class_item item)
    ∙ ap (λ b. length (class_items (take i items)) + cond b 1 0) (sym is ∙ e)
    ∙ add-zero (length (class_items (take i items))) ∙ sym so_far)

pub class_all : (items : List Item) (i count : ℕ) → length items ≤ i → count ≡ length (class_items (take i items)) →
    count ≡ length (class_items items)
class_all items i count all so_far = so_far ∙ ap (λ t. length (class_items t)) (take_all i items all)

pub one_more : (count : ℕ) (full : Bool) → full ≡ nat_le 64 count → full ≡ nat_lt 64 (count + 1)
one_more count full is = is ∙ grind arith

module _ (read : ReadClass) (is_read : IsRead read) where
  abbrev bodies_over : Option (List (List Act)) → Bool
  bodies_over bodies =
      passes (λ bodies. nat_lt 1024 (statements_of_all bodies) || nat_lt 4096 (literals_of_all bodies)) bodies

  abbrev with_last : Bool → Bool
  with_last last =
      nat_lt 64 (length (class_items read.before.now) + 1) || nat_lt 32 (length read.class.now.ports)
      || nat_lt 16 (length read.class.now.relations)
      || list_any (λ relation. nat_lt 4 (length relation.kinds)) read.class.now.relations || last

  pub counts_are : (found : Bool) → found ≡ with_last (bodies_over read.bodies.now) →
      found ≡ class_too_many read.before.now read.class.now
  counts_are found is = is ∙ ap (λ bodies. with_last (bodies_over bodies)) is_read.bodies
