-- A loop that looks each name up among those before it.
use Rattle.std.proofs.Common.{
  ◌≡◌,
  ℕ,
  ◌+◌,
  ◌<◌,
  ◌≤◌,
  Bool,
  true,
  false,
  ◌||◌,
  not,
  if◌then◌else◌,
  List,
  [],
  ◌∷◌,
  ◌++◌,
  length,
  drop,
  get_or,
  refl,
  sym,
  ap,
  ◌∙◌,
  add-one,
}
use Rattle.std.specs.List.{list_any}
use Rattle.std.specs.Cmp.Lexicographic.{nat_list_eq_equiv}
use Rattle.std.proofs.lemmas.List.{drop_all}
use Rattle.std.proofs.Math.Seq.{drop-cons}
use Rattle.name_tables.specs.Names.{same_name, is_among, repeats}

-- one of the names stands among those seen, or a name stands twice
abbrev pub repeats_after : List (List ℕ) → List (List ℕ) → Bool
repeats_after seen [] = false
repeats_after seen (name ∷ names) = is_among seen name || repeats_after (seen ++ name ∷ []) names

same_back : (one two : List ℕ) → same_name one two ≡ same_name two one
same_back one two = nat_list_eq_equiv.symm one two

or_assoc : (a b c : Bool) → (a || b) || c ≡ a || (b || c)
or_assoc true b c = refl
or_assoc false b c = refl

or_false : (a : Bool) → a ≡ a || false
or_false true = refl
or_false false = refl

-- a name more is seen
among_more : (seen : List (List ℕ)) (x y : List ℕ) → is_among (seen ++ x ∷ []) y ≡ is_among seen y || same_name x y
among_more [] x y = sym (or_false (same_name y x)) ∙ same_back y x
among_more (z ∷ seen) x y =
    ap (λ b. same_name y z || b) (among_more seen x y)
    ∙ sym (or_assoc (same_name y z) (is_among seen y) (same_name x y))

swapped : (a b c d : Bool) → (a || b) || (c || d) ≡ (a || c) || (b || d)
swapped true b c d = refl
swapped false true true d = refl
swapped false true false d = refl
swapped false false true d = refl
swapped false false false d = refl

any_more : (seen : List (List ℕ)) (x : List ℕ) (xs : List (List ℕ)) →
    list_any (is_among (seen ++ x ∷ [])) xs ≡ list_any (is_among seen) xs || is_among xs x
any_more seen x [] = refl
any_more seen x (y ∷ ys) =
    ap (λ b. b || list_any (is_among (seen ++ x ∷ [])) ys) (among_more seen x y)
    ∙ ap (λ b. (is_among seen y || same_name x y) || b) (any_more seen x ys)
    ∙ swapped (is_among seen y) (same_name x y) (list_any (is_among seen) ys) (is_among ys x)

gathered : (a b c d : Bool) → a || ((b || c) || d) ≡ (a || b) || (c || d)
gathered true b c d = refl
gathered false true c d = refl
gathered false false c d = refl

after : (seen names : List (List ℕ)) → repeats_after seen names ≡ list_any (is_among seen) names || repeats names
after seen [] = refl
after seen (x ∷ xs) =
    ap (λ b. is_among seen x || b) (after (seen ++ x ∷ []) xs)
    ∙ ap (λ b. is_among seen x || (b || repeats xs)) (any_more seen x xs)
    ∙ gathered (is_among seen x) (list_any (is_among seen) xs) (is_among xs x) (repeats xs)

none_among : (names : List (List ℕ)) → list_any (is_among []) names ≡ false
none_among [] = refl
none_among (x ∷ xs) = none_among xs

-- before the first name
pub begun : (names : List (List ℕ)) → repeats names ≡ repeats_after [] (drop 0 names)
begun names = sym (after [] names ∙ ap (λ b. b || repeats names) (none_among names))

next_name : (names : List (List ℕ)) (i : ℕ) (name : List ℕ) → i < length names → name ≡ get_or names i name →
    drop i names ≡ name ∷ drop (i + 1) names
next_name names i name inside here =
    let drop_next = rw (← add-one i) at (drop-cons names i name inside) in
    drop_next ∙ ap (λ n. n ∷ drop (i + 1) names) (sym here)

step : (names seen : List (List ℕ)) (i : ℕ) (name : List ℕ) → i < length names → name ≡ get_or names i name →
    repeats names ≡ repeats_after seen (drop i names) →
    repeats names ≡ is_among seen name || repeats_after (seen ++ name ∷ []) (drop (i + 1) names)
step names seen i name inside here so_far = so_far ∙ ap (repeats_after seen) (next_name names i name inside here)

was_seen : (b : Bool) → not b ≡ false → b ≡ true
was_seen true e = refl
was_seen false e = absurd (cc)

was_new : (b : Bool) → not b ≡ true → b ≡ false
was_new true e = absurd (cc)
was_new false e = refl

-- the next name was seen
pub found : (names seen : List (List ℕ)) (i : ℕ) (name : List ℕ) (new : Bool) → i < length names →
    name ≡ get_or names i name →
    repeats names ≡ repeats_after seen (drop i names) → new ≡ not (is_among seen name) → new ≡ false →
    true ≡ repeats names
found names seen i name new inside here so_far is old =
    sym (step names seen i name inside here so_far
    ∙ ap (λ b. b || repeats_after (seen ++ name ∷ []) (drop (i + 1) names))
    (was_seen (is_among seen name) (sym is ∙ old)))

-- the next name wasn't seen
pub more : (names seen now : List (List ℕ)) (i : ℕ) (name : List ℕ) (new : Bool) → i < length names →
    name ≡ get_or names i name →
    repeats names ≡ repeats_after seen (drop i names) → new ≡ not (is_among seen name) → new ≡ true →
    now ≡ (if is_among seen name then seen else seen ++ name ∷ []) →
    repeats names ≡ repeats_after now (drop (i + 1) names)
more names seen now i name new inside here so_far is new_one put =
    let unseen : is_among seen name ≡ false = was_new (is_among seen name) (sym is ∙ new_one) in
    step names seen i name inside here so_far
    ∙ ap (λ b. b || repeats_after (seen ++ name ∷ []) (drop (i + 1) names)) unseen
    ∙ ap (λ s. repeats_after s (drop (i + 1) names))
    (sym (put ∙ ap (λ b. if b then seen else seen ++ name ∷ []) unseen))

-- all names were different
pub done : (names seen : List (List ℕ)) (i : ℕ) → length names ≤ i → repeats names ≡ repeats_after seen (drop i names) →
    false ≡ repeats names
done names seen i all so_far = sym (so_far ∙ ap (repeats_after seen) (drop_all i names all))
