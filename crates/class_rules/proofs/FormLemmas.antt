-- Items of one form.
use Rattle.std.proofs.Common.{◌≡◌, Bool, ◌||◌, List, [], ◌∷◌, Option, Some, None, filter_map, refl, ap, ◌∙◌}
use Rattle.std.specs.List.{list_any, cons_option}
use Rattle.tree_rules.specs.Rules.{passes}

step : {B : Type 0} (t : B → Bool) (found : Option B) (others : List B) →
    passes t found || list_any t others ≡ list_any t (cons_option found others)
step t None others = refl
step t (Some y) others = refl

-- one of the items of a form passes exactly where one of all items is of the form and passes
pub any_of_form : {A B : Type 0} (form : A → Option B) (t : B → Bool) (xs : List A) →
    list_any (λ x. passes t (form x)) xs ≡ list_any t (filter_map form xs)
any_of_form form t [] = refl
any_of_form form t (x ∷ xs) =
    ap (λ b. passes t (form x) || b) (any_of_form form t xs) ∙ step t (form x) (filter_map form xs)
