-- How many items are of a form.
use Rattle.std.proofs.Common.{◌≡◌, ℕ, ◌+◌, cond, List, [], ◌∷◌, length, Option, Some, None, is_some}
use Rattle.std.proofs.Common.{filter_map, count_by, nat_lt, refl, sym, ap, ◌∙◌, arith, suc, add-one}
use Rattle.std.specs.List.{cons_option}
use Rattle.std.proofs.lemmas.List.Sums.{sum_by-cons}
use Rattle.std.proofs.Math.Dec.{leb, leb-suc-suc}
use Rattle.amdl_tree.specs.declared.tree.Item.{Item}
use Rattle.amdl_tree.specs.Items.{kind_item, field_item, host_item, box_item, sends_item, forbid_item}
use Rattle.item_rules.specs.declared.forms.Form.{Form}
use Rattle.item_rules.specs.declared.forms.Form.TheVariants.{Kind, Field, Host, Instance, Sends, Forbid}
use Rattle.item_rules.specs.Counts.{has_form, count_of}

step : {B : Type 0} (found : Option B) (n : ℕ) (others : List B) → n ≡ length others →
    cond (is_some found) 1 0 + n ≡ length (cons_option found others)
step None n others is = omega (arith, is)
step (Some x) n others is = omega (arith, is)

count_form : {A B : Type 0} (form : A → Option B) (xs : List A) →
    count_by (λ x. is_some (form x)) xs ≡ length (filter_map form xs)
count_form form [] = refl
count_form form (x ∷ xs) =
    sum_by-cons (λ y. cond (is_some (form y)) 1 0) x xs
    ∙ step (form x) (count_by (λ x. is_some (form x)) xs) (filter_map form xs) (count_form form xs)

counted : (form : Form) (items : List Item) → count_by (has_form form) items ≡ count_of form items
counted Kind items = count_form kind_item items
counted Field items = count_form field_item items
counted Host items = count_form host_item items
counted Instance items = count_form box_item items
counted Sends items = count_form sends_item items
counted Forbid items = count_form forbid_item items

pub is_full : (form : Form) (items : List Item) (limit found : ℕ) → found ≡ count_by (has_form form) items →
    leb limit found ≡ nat_lt limit (count_of form items + 1)
is_full form items limit found is =
    sym (ap (leb (suc limit)) (add-one found) ∙ leb-suc-suc limit found)
    ∙ ap (λ n. nat_lt limit (n + 1)) (is ∙ counted form items)
