-- Names in the tables of the code.
use Rattle.std.proofs.Common.{◌≡◌, ℕ, ◌+◌, ◌<◌, ◌≤◌, List, [], ◌∷◌, length, get_or, map, Option, Some, None}
use Rattle.std.proofs.Common.{slice_get, refl, sym, ap, ◌∙◌, cond}
use Rattle.std.specs.List.{position_from}
use Rattle.std.specs.Option.{option_map, option_and_then}
use Rattle.std.proofs.lemmas.Option.{slice_get-map, slice_get_past, slice_get-get_or}
use Rattle.std.specs.Borrow.{Bor}
use Rattle.std.specs.Slice.{IsItemAt}
use Rattle.net_plan.specs.declared.plan.KindPlan.{KindPlan}
use Rattle.amdl_tree.specs.Items.{KindItem}
use Rattle.tree_plan.specs.Names.{same_name, kind_number, kind_named, values_named}
use Rattle.tree_plan.specs.Tables.{kind_back, kind_lent, kinds_back}

-- the place of the first type whose name is the one that is sought
abbrev pub kind_at : List KindPlan → List ℕ → Option ℕ
kind_at kinds name = position_from (λ kind. same_name name kind.name) 0 kinds

kind_from : (kinds : List KindPlan) (name : List ℕ) (i : ℕ) →
    position_from (λ kind. same_name name kind.name) i kinds
    ≡ position_from (same_name name) i (map (λ kind. kind.name) (kinds_back kinds))
kind_from [] name i = refl
kind_from (kind ∷ kinds) name i =
    ap (λ later. cond (same_name name kind.name) (Some i) later) (kind_from kinds name (i + 1))

pub kind_found : (kinds : List KindPlan) (name : List ℕ) (found : Option ℕ) → found ≡ kind_at kinds name →
    found ≡ kind_number (kinds_back kinds) name
kind_found kinds name found at = at ∙ kind_from kinds name 0

-- how many values the type at its place has
counted : List KindItem → Option ℕ → Option ℕ
counted kinds place = option_map (λ kind. length kind.values) (option_and_then (slice_get kinds) place)

pub values_none : (kinds : List KindPlan) (name : List ℕ) → None ≡ kind_at kinds name →
    None ≡ values_named (kinds_back kinds) name
unfolding counted
values_none kinds name at = ap (counted (kinds_back kinds)) (kind_found kinds name None at)

pub values_lost : (kinds : List KindPlan) (name : List ℕ) (place : ℕ) → Some place ≡ kind_at kinds name →
    length kinds ≤ place → None ≡ values_named (kinds_back kinds) name
unfolding counted
values_lost kinds name place at past =
    ap (λ kind. option_map (λ kind. length kind.values) (option_map kind_back kind))
    (sym (slice_get_past kinds place past))
    ∙ ap (option_map (λ kind. length kind.values)) (sym (slice_get-map kind_back kinds place))
    ∙ ap (counted (kinds_back kinds)) (kind_found kinds name (Some place) at)

pub values_found : (kinds : List KindPlan) (name : List ℕ) (place : ℕ) (kind : KindPlan) →
    Some place ≡ kind_at kinds name → place < length kinds → kind ≡ get_or kinds place kind →
    Some (length kind.values) ≡ values_named (kinds_back kinds) name
unfolding counted
values_found kinds name place kind at inside here =
    ap (λ kind. option_map (λ kind. length kind.values) (option_map kind_back kind))
    (ap Some here ∙ sym (slice_get-get_or kinds place kind inside))
    ∙ ap (option_map (λ kind. length kind.values)) (sym (slice_get-map kind_back kinds place))
    ∙ ap (counted (kinds_back kinds)) (kind_found kinds name (Some place) at)

pub kind_none : (kinds : List KindPlan) (name : List ℕ) → None ≡ kind_at kinds name →
    None ≡ kind_named (kinds_back kinds) name
kind_none kinds name at = ap (option_and_then (slice_get (kinds_back kinds))) (kind_found kinds name None at)

-- the item that a look-up by a place lends
pub lent_at : {X Y : Type 0} (f : X → Y) (xs : List X) (k : ℕ) (lent : Option (Bor X)) → IsItemAt xs k lent →
    option_map (λ x. f x.now) lent ≡ slice_get (map f xs) k
lent_at f xs k None at = ap (option_map f) (sym (slice_get_past xs k at.3)) ∙ sym (slice_get-map f xs k)
lent_at f xs k (Some x) at =
    ap (option_map f) (ap Some at.1 ∙ sym (slice_get-get_or xs k x.now at.3.0)) ∙ sym (slice_get-map f xs k)

pub kind_here : (kinds : List KindPlan) (name : List ℕ) (place : ℕ) (lent : Option (Bor KindPlan)) →
    Some place ≡ kind_at kinds name → IsItemAt kinds place lent →
    option_map kind_lent lent ≡ kind_named (kinds_back kinds) name
kind_here kinds name place lent at here =
    lent_at kind_back kinds place lent here
    ∙ ap (option_and_then (slice_get (kinds_back kinds))) (kind_found kinds name (Some place) at)
