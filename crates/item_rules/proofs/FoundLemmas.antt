-- What the first of some items tells, found by a loop.
use Rattle.std.proofs.Common.{◌≡◌, ℕ, ◌+◌, ◌<◌, ◌≤◌, Bool, true, false, cond, List, [], ◌∷◌, length, drop, get_or, map}
use Rattle.std.proofs.Common.{Option, Some, None, filter_map, slice_get, refl, sym, ap, ◌∙◌, add-one}
use Rattle.std.specs.List.{cons_option, find, position_from}
use Rattle.std.specs.Option.{option_map, option_and_then, option_or}
use Rattle.std.proofs.lemmas.List.{drop_all}
use Rattle.amdl_tree.specs.declared.class.Class.{Class}
use Rattle.amdl_tree.specs.declared.tree.Item.{Item}
use Rattle.amdl_tree.specs.Items.{KindItem, kind_item, class_item, box_item, kind_items, class_items, box_items}
use Rattle.tree_plan.specs.Names.{same_name, values_named}
use Rattle.tree_plan.specs.Net.{class_named}
use Rattle.tree_plan.proofs.StepLemmas.{next_part}
use Rattle.item_rules.specs.Found.{first_told, tells_if, class_if, box_class_if, size_if}

-- the item tells something
pub told_here : {A B : Type 0} (tells : A → Option B) (xs : List A) (i : ℕ) (x : A) (y : B) (all : Option B) →
    i < length xs → x ≡ get_or xs i x → all ≡ first_told tells (drop i xs) → Some y ≡ tells x → Some y ≡ all
told_here tells xs i x y all inside here so_far is =
    sym (so_far ∙ ap (first_told tells) (next_part xs i x inside here)
    ∙ ap (λ found. option_or found (first_told tells (drop (i + 1) xs))) (sym is))

-- it tells nothing
pub told_later : {A B : Type 0} (tells : A → Option B) (xs : List A) (i : ℕ) (x : A) (all : Option B) →
    i < length xs → x ≡ get_or xs i x → all ≡ first_told tells (drop i xs) → None ≡ tells x →
    all ≡ first_told tells (drop (i + 1) xs)
told_later tells xs i x all inside here so_far is =
    so_far ∙ ap (first_told tells) (next_part xs i x inside here)
    ∙ ap (λ found. option_or found (first_told tells (drop (i + 1) xs))) (sym is)

pub told_nowhere : {A B : Type 0} (tells : A → Option B) (xs : List A) (i : ℕ) (all : Option B) → length xs ≤ i →
    all ≡ first_told tells (drop i xs) → None ≡ all
told_nowhere tells xs i all past so_far = sym (so_far ∙ ap (first_told tells) (drop_all i xs past))

-- the same by a test
pub found_here : {A : Type 0} (t : A → Bool) (xs : List A) (i : ℕ) (x : A) (all : Option A) → i < length xs →
    x ≡ get_or xs i x → all ≡ find t (drop i xs) → t x ≡ true → Some x ≡ all
found_here t xs i x all inside here so_far passes =
    sym (so_far ∙ ap (find t) (next_part xs i x inside here)
    ∙ ap (λ b. cond b (Some x) (find t (drop (i + 1) xs))) passes)

pub found_later : {A : Type 0} (t : A → Bool) (xs : List A) (i : ℕ) (x : A) (all : Option A) → i < length xs →
    x ≡ get_or xs i x → all ≡ find t (drop i xs) → t x ≡ false → all ≡ find t (drop (i + 1) xs)
found_later t xs i x all inside here so_far fails =
    so_far ∙ ap (find t) (next_part xs i x inside here)
    ∙ ap (λ b. cond b (Some x) (find t (drop (i + 1) xs))) fails

pub found_nowhere : {A : Type 0} (t : A → Bool) (xs : List A) (i : ℕ) (all : Option A) → length xs ≤ i →
    all ≡ find t (drop i xs) → None ≡ all
found_nowhere t xs i all past so_far = sym (so_far ∙ ap (find t) (drop_all i xs past))

-- the first by its place among the names is the first of the name
later_by : {A : Type 0} (t : A → Bool) (b : Bool) (i : ℕ) (later earlier : Option ℕ) →
    later ≡ option_map (λ k. k + 1) earlier →
    cond b (Some (i + 1)) later ≡ option_map (λ k. k + 1) (cond b (Some i) earlier)
later_by t true i later earlier is = refl
later_by t false i later earlier is = is

place_later : {A : Type 0} (t : A → Bool) (i : ℕ) (xs : List A) →
    position_from t (i + 1) xs ≡ option_map (λ k. k + 1) (position_from t i xs)
place_later t i [] = refl
place_later t i (x ∷ xs) =
    later_by t (t x) i (position_from t (i + 1 + 1) xs) (position_from t (i + 1) xs) (place_later t (i + 1) xs)

behind : {A : Type 0} (x : A) (xs : List A) (place : Option ℕ) →
    option_and_then (slice_get (x ∷ xs)) (option_map (λ k. k + 1) place) ≡ option_and_then (slice_get xs) place
behind x xs None = refl
behind x xs (Some k) = ap (slice_get (x ∷ xs)) (add-one k)

first_or : {A : Type 0} (b : Bool) (x : A) (xs : List A) (place : Option ℕ) (rest : Option A) →
    option_and_then (slice_get (x ∷ xs)) place ≡ rest →
    option_and_then (slice_get (x ∷ xs)) (cond b (Some 0) place) ≡ cond b (Some x) rest
first_or true x xs place rest is = refl
first_or false x xs place rest is = is

pub named_found : {A : Type 0} (named : A → List ℕ) (name : List ℕ) (xs : List A) →
    option_and_then (slice_get xs) (position_from (same_name name) 0 (map named xs))
    ≡ find (λ x. same_name name (named x)) xs
named_found named name [] = refl
named_found named name (x ∷ xs) =
    first_or (same_name name (named x)) x xs (position_from (same_name name) 1 (map named xs))
    (find (λ y. same_name name (named y)) xs)
    (ap (option_and_then (slice_get (x ∷ xs))) (place_later (same_name name) 0 (map named xs))
    ∙ behind x xs (position_from (same_name name) 0 (map named xs)) ∙ named_found named name xs)

-- the first of a form that passes a test is told by the first item of the form that passes it
chosen : {B C : Type 0} (b : Bool) (tells : B → C) (y : B) (others : Option B) (rest : Option C) →
    option_map tells others ≡ rest →
    option_map tells (cond b (Some y) others) ≡ option_or (cond b (Some (tells y)) None) rest
chosen true tells y others rest is = refl
chosen false tells y others rest is = is

one_more : {B C : Type 0} (t : B → Bool) (tells : B → C) (found : Option B) (others : List B) (rest : Option C) →
    option_map tells (find t others) ≡ rest →
    option_map tells (find t (cons_option found others)) ≡ option_or (option_and_then (tells_if t tells) found) rest
one_more t tells None others rest is = is
one_more t tells (Some y) others rest is = chosen (t y) tells y (find t others) rest is

pub form_told : {A B C : Type 0} (form : A → Option B) (t : B → Bool) (tells : B → C) (xs : List A) →
    option_map tells (find t (filter_map form xs)) ≡ first_told (λ x. option_and_then (tells_if t tells) (form x)) xs
form_told form t tells [] = refl
form_told form t tells (x ∷ xs) =
    one_more t tells (form x) (filter_map form xs) (first_told (λ y. option_and_then (tells_if t tells) (form y)) xs)
    (form_told form t tells xs)

same_option : {A : Type 0} (found : Option A) → found ≡ option_map (λ x. x) found
same_option None = refl
same_option (Some x) = refl

pub class_told : (name : List ℕ) (items : List Item) → class_named items name ≡ first_told (class_if name) items
class_told name items =
    named_found (λ class. class.name) name (class_items items)
    ∙ same_option (find (λ (class : Class). same_name name class.name) (class_items items))
    ∙ form_told class_item (λ class. same_name name class.name) (λ class. class) items

pub size_told : (name : List ℕ) (items : List Item) →
    values_named (kind_items items) name ≡ first_told (size_if name) items
size_told name items =
    ap (option_map (λ (kind : KindItem). length kind.values)) (named_found (λ kind. kind.name) name (kind_items items))
    ∙ form_told kind_item (λ kind. same_name name kind.name) (λ kind. length kind.values) items

pub box_told : (name : List ℕ) (items : List Item) →
    option_map (λ box. box.class) (find (λ box. same_name name box.name) (box_items items))
    ≡ first_told (box_class_if name) items
box_told name items = form_told box_item (λ box. same_name name box.name) (λ box. box.class) items
