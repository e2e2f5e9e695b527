-- The steps of the loops that read numbers.
use Rattle.std.proofs.Common.{◌≡◌, ℕ, ◌+◌, ◌*◌, ◌<◌, ◌≤◌, List, [], ◌∷◌, ◌++◌, length, take, drop, get_or, map}
use Rattle.std.proofs.Common.{refl, sym, ap, ◌∙◌, slice_set, slice_index}
use Rattle.std.proofs.lemmas.List.{drop_all, drop_more, take_all, take_more, map-append, set_past as past_all}
use Rattle.handler_runs.specs.Reading.{capped, number_by}

pub mapped_more : {A : Type 0} (f : A → ℕ) (xs : List A) (i : ℕ) (x : A) (front : List ℕ) → i < length xs →
    x ≡ get_or xs i x → front ≡ map f (take i xs) → front ++ f x ∷ [] ≡ map f (take (i + 1) xs)
mapped_more f xs i x front inside here so_far =
    ap (λ (l : List ℕ). l ++ f x ∷ []) so_far
    ∙ ap (λ y. map f (take i xs) ++ f y ∷ []) here
    ∙ sym (ap (map f) (take_more xs i x inside) ∙ map-append f (take i xs) (get_or xs i x ∷ []))

pub mapped_all : {A : Type 0} (f : A → ℕ) (xs : List A) (i : ℕ) (front : List ℕ) → length xs ≤ i →
    front ≡ map f (take i xs) → front ≡ map f xs
mapped_all f xs i front all so_far = so_far ∙ ap (map f) (take_all i xs all)

abbrev pub behind : List ℕ → List ℕ → ℕ → ℕ → ℕ
behind sizes values i number = number_by number (drop i sizes) (drop i values)

pub digit_more : (sizes values : List ℕ) (i number value whole much new : ℕ) → i < length sizes →
    i < length values → value ≡ get_or values i value → behind sizes values i number ≡ whole →
    much ≡ capped (number * slice_index sizes i) → new ≡ capped (much + value) →
    behind sizes values (i + 1) new ≡ whole
unfolding number_by
digit_more sizes values i number value whole much new inside within got so_far is_much is_new =
    let size : ℕ = slice_index sizes i in
    let valued : drop i values ≡ value ∷ drop (i + 1) values =
    drop_more values i value within ∙ ap (λ n. n ∷ drop (i + 1) values) (sym got) in
    let step : behind sizes values i number
    ≡ number_by (capped (capped (number * size) + value)) (drop (i + 1) sizes) (drop (i + 1) values) =
    ap (λ l. number_by number l (drop i values)) (drop_more sizes i 0 inside)
    ∙ ap (λ l. number_by number (size ∷ drop (i + 1) sizes) l) valued in
    ap (λ n. number_by n (drop (i + 1) sizes) (drop (i + 1) values)) (is_new ∙ ap (λ n. capped (n + value)) is_much)
    ∙ sym step ∙ so_far

no_value : (number : ℕ) (sizes : List ℕ) → number_by number sizes [] ≡ number
unfolding number_by
no_value number [] = refl
no_value number (size ∷ sizes) = refl

pub no_digit : (sizes values : List ℕ) (i number whole : ℕ) → length values ≤ i →
    behind sizes values i number ≡ whole → number ≡ whole
no_digit sizes values i number whole past so_far =
    sym (ap (number_by number (drop i sizes)) (drop_all i values past) ∙ no_value number (drop i sizes)) ∙ so_far

pub no_size : (sizes values : List ℕ) (i number whole : ℕ) → length sizes ≤ i →
    behind sizes values i number ≡ whole → number ≡ whole
unfolding number_by
no_size sizes values i number whole all so_far =
    sym (ap (λ l. number_by number l (drop i values)) (drop_all i sizes all)) ∙ so_far

pub set_past : (numbers : List ℕ) (place number : ℕ) → length numbers ≤ place → numbers ≡ slice_set numbers place number
set_past numbers place number past = sym (past_all numbers place number past)
