-- Lists that a loop goes through: what the parts come to, where all of them come to something.
use Rattle.std.proofs.Common.{◌≡◌, ℕ, ◌+◌, ◌<◌, ◌≤◌, List, [], ◌∷◌, ◌++◌, length, drop, get_or, Option, Some, None}
use Rattle.std.proofs.Common.{refl, sym, ap, ◌∙◌, append_assoc, append-nil, add-one}
use Rattle.std.specs.Option.{option_map}
use Rattle.std.proofs.lemmas.List.{drop_all}
use Rattle.std.proofs.Math.Seq.{drop-cons}
use Rattle.tree_plan.specs.Names.{joined, all_some}

-- the part at an index stands before those behind it
pub next_part : {A : Type 0} (parts : List A) (i : ℕ) (part : A) → i < length parts → part ≡ get_or parts i part →
    drop i parts ≡ part ∷ drop (i + 1) parts
next_part parts i part inside here =
    let drop_next = rw (← add-one i) at (drop-cons parts i part inside) in
    drop_next ∙ ap (λ p. p ∷ drop (i + 1) parts) (sym here)

-- what the first parts came to, and then the others
abbrev pub with_front : {B : Type 0} → List B → Option (List B) → Option (List B)
with_front front others = option_map (λ ys. front ++ ys) others

front-nil : {B : Type 0} (others : Option (List B)) → others ≡ with_front [] others
front-nil None = refl
front-nil (Some ys) = refl

-- before the first part
pub all_begun : {A B : Type 0} (f : A → Option B) (xs : List A) → all_some f xs ≡ with_front [] (all_some f (drop 0 xs))
all_begun f xs = front-nil (all_some f xs)

pub front-push : {B : Type 0} (front : List B) (y : B) (others : Option (List B)) →
    with_front front (joined (λ y ys. y ∷ ys) (Some y) others) ≡ with_front (front ++ y ∷ []) others
front-push front y None = refl
front-push front y (Some ys) = ap Some (sym (append_assoc front (y ∷ []) ys))

-- one more part comes to something
pub all_more : {A B : Type 0} (f : A → Option B) (xs : List A) (i : ℕ) (x : A) (y : B) (front : List B) →
    i < length xs → x ≡ get_or xs i x → all_some f xs ≡ with_front front (all_some f (drop i xs)) → Some y ≡ f x →
    all_some f xs ≡ with_front (front ++ y ∷ []) (all_some f (drop (i + 1) xs))
all_more f xs i x y front inside here before comes =
    before ∙ ap (λ t. with_front front (all_some f t)) (next_part xs i x inside here)
    ∙ ap (λ t. with_front front (joined (λ y ys. y ∷ ys) t (all_some f (drop (i + 1) xs)))) (sym comes)
    ∙ front-push front y (all_some f (drop (i + 1) xs))

-- one part comes to nothing
pub all_lost : {A B : Type 0} (f : A → Option B) (xs : List A) (i : ℕ) (x : A) (front : List B) →
    i < length xs → x ≡ get_or xs i x → all_some f xs ≡ with_front front (all_some f (drop i xs)) → None ≡ f x →
    None ≡ all_some f xs
all_lost f xs i x front inside here before comes =
    sym (before ∙ ap (λ t. with_front front (all_some f t)) (next_part xs i x inside here)
    ∙ ap (λ t. with_front front (joined (λ y ys. y ∷ ys) t (all_some f (drop (i + 1) xs)))) (sym comes))

-- all parts came to something
pub all_came : {A B : Type 0} (f : A → Option B) (xs : List A) (i : ℕ) (front : List B) →
    length xs ≤ i → all_some f xs ≡ with_front front (all_some f (drop i xs)) → Some front ≡ all_some f xs
all_came f xs i front all before =
    sym (before ∙ ap (λ t. with_front front (all_some f t)) (drop_all i xs all) ∙ ap Some (append-nil front))
