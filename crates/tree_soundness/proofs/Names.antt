-- Names that are looked for in a list of names.
use Rattle.std.proofs.Common.{
  ◌⊎◌,
  inl,
  inr,
  ⊎_elim,
  ◌≡◌,
  ◌≢◌,
  ℕ,
  zero,
  suc,
  ◌+◌,
  Bool,
  true,
  false,
  cond,
  List,
  [],
  ◌∷◌,
  ◌++◌,
  Some,
  slice_get,
  All,
  AllPairs,
  refl,
  sym,
  ap,
  subst,
  ◌∙◌,
  arith,
}
use Rattle.std.specs.Cmp.Lexicographic.{bytes_decides}
use Rattle.std.specs.List.{list_any, position_from}
use Rattle.std.proofs.lemmas.Bool.{
  false≢true,
  or_parts,
  or_from,
  or_cases,
  or_left,
  or_right,
  both_ways,
  false_from_ne_true,
  cases_Bool,
  cond-true,
  cond-false,
}
use Rattle.std.proofs.lemmas.List.Elements.{All-cons}
use Rattle.std.proofs.lemmas.List.Folds.{list_any-append}
use Rattle.std.proofs.lemmas.Option.{none-some, same_Some}
use Rattle.tree_plan.specs.Names.{same_name, number_of}
use Rattle.tree_rules.specs.Spaces.{is_among, repeats}

-- a test that has two outcomes
pub split : {A : Type 0} {P : Type 0} (b : Bool) (x y z : A) → cond b x y ≡ z → (b ≡ true → x ≡ z → P) →
    (b ≡ false → y ≡ z → P) → P
split true x y z is held failed = held refl is
split false x y z is held failed = failed refl is

pub same_is : (one two : List ℕ) → same_name one two ≡ true → one ≡ two
same_is one two same = (bytes_decides one two).0 same

pub same_self : (name : List ℕ) → same_name name name ≡ true
same_self name = (bytes_decides name name).1 refl

pub other_is : (one two : List ℕ) → same_name one two ≡ false → one ≢ two
other_is one two other equal = both_ways (same_name one two) other ((bytes_decides one two).1 equal)

-- what is found stands at its place, which is counted from the start
pub found_from : {K : Type 0} (test : K → Bool) (i : ℕ) (xs : List K) (k : ℕ) → position_from test i xs ≡ Some k →
    (j : ℕ) × (x : K) × (k ≡ i + j) × (slice_get xs j ≡ Some x) × (test x ≡ true)
found_from test i [] k found = absurd (none-some k found)
found_from test i (x ∷ xs) k found =
    split (test x) (Some i) (position_from test (i + 1) xs) (Some k) found
    (λ held here. let e : k ≡ i + 0 = omega (arith, same_Some i k here) in (0, x, e, refl, held))
    (λ failed later.
    let rest = found_from test (i + 1) xs k later in
    let e : k ≡ i + suc rest.0 = omega (arith, rest.2) in
    (suc rest.0, rest.1, e, rest.3, rest.4))

pub found_first : {K : Type 0} (test : K → Bool) (xs : List K) (k : ℕ) → position_from test 0 xs ≡ Some k →
    (x : K) × (slice_get xs k ≡ Some x) × (test x ≡ true)
found_first test xs k found =
    let at = found_from test 0 xs k found in
    let e : at.0 ≡ k = omega (arith, at.2) in
    (at.1, subst (λ j. slice_get xs j ≡ Some at.1) e at.3, at.4)

-- a name found is at its number
pub number_is : (names : List (List ℕ)) (name : List ℕ) (k : ℕ) → number_of names name ≡ Some k →
    slice_get names k ≡ Some name
number_is names name k found =
    let at = found_first (same_name name) names k found in
    at.1 ∙ ap Some (sym (same_is name at.0 at.2))

-- what is found among the first stands at the same place among more
pub found_front : {K : Type 0} (test : K → Bool) (i : ℕ) (xs ys : List K) (k : ℕ) → position_from test i xs ≡ Some k →
    position_from test i (xs ++ ys) ≡ Some k
found_front test i [] ys k found = absurd (none-some k found)
found_front test i (x ∷ xs) ys k found =
    split (test x) (Some i) (position_from test (i + 1) xs) (Some k) found
    (λ held here. cond-true (test x) (Some i) (position_from test (i + 1) (xs ++ ys)) held ∙ here)
    (λ failed later.
    cond-false (test x) (Some i) (position_from test (i + 1) (xs ++ ys)) failed
    ∙ found_front test (i + 1) xs ys k later)

pub number_front : (names more : List (List ℕ)) (name : List ℕ) (k : ℕ) → number_of names name ≡ Some k →
    number_of (names ++ more) name ≡ Some k
number_front names more name k found = found_front (same_name name) 0 names more k found

-- where some pass the test, one is found
pub some_found : {K : Type 0} (test : K → Bool) (i : ℕ) (xs : List K) → list_any test xs ≡ true →
    (k : ℕ) × (position_from test i xs ≡ Some k)
some_found test i [] some = absurd (false≢true some)
some_found {K} test i (x ∷ xs) some =
    let both : (test x ≡ true) ⊎ (list_any test xs ≡ true) = or_cases (test x) (list_any test xs) some in
    elim (cases_Bool (test x)) as (λ s. (k : ℕ) × (cond (test x) (Some i) (position_from test (i + 1) xs) ≡ Some k)) [
      | inl held ↦ (i, cond-true (test x) (Some i) (position_from test (i + 1) xs) held)
      | inr failed ↦
          let later =
          some_found test (i + 1) xs
          (⊎_elim (λ held. absurd (both_ways (test x) failed held)) (λ rest. rest) both) in
          (later.0, cond-false (test x) (Some i) (position_from test (i + 1) xs) failed ∙ later.1)
    ]

pub number_among : (names : List (List ℕ)) (name : List ℕ) → is_among names name ≡ true →
    (k : ℕ) × (number_of names name ≡ Some k)
number_among names name among = some_found (same_name name) 0 names among

-- a name at a place is among the names
pub among_at : (names : List (List ℕ)) (k : ℕ) (name : List ℕ) → slice_get names k ≡ Some name →
    is_among names name ≡ true
among_at [] k name at = absurd (none-some name at)
among_at (x ∷ names) zero name at =
    or_left (same_name name x) (is_among names name) (same_at (sym (same_Some x name at)))
  where
    same_at : {one two : List ℕ} → one ≡ two → same_name one two ≡ true
    same_at {one} {two} is = (bytes_decides one two).1 is
among_at (x ∷ names) (suc k) name at = or_right (same_name name x) (is_among names name) (among_at names k name at)

pub among_number : (names : List (List ℕ)) (name : List ℕ) (k : ℕ) → number_of names name ≡ Some k →
    is_among names name ≡ true
among_number names name k found = among_at names k name (number_is names name k found)

-- a test that fails at all names of a list fails at each name among them
pub fails_among : (test : List ℕ → Bool) (names : List (List ℕ)) (name : List ℕ) → list_any test names ≡ false →
    is_among names name ≡ true → test name ≡ false
fails_among test [] name fails among = absurd (false≢true among)
fails_among test (x ∷ names) name fails among =
    let parts : (test x ≡ false) × (list_any test names ≡ false) = or_parts (test x) (list_any test names) fails in
    ⊎_elim (λ same. ap test (same_is name x same) ∙ parts.0) (λ rest. fails_among test names name parts.1 rest)
    (or_cases (same_name name x) (is_among names name) among)

-- no name is in both lists
pub record AreDisjoint (ones twos : List (List ℕ)) : Type 0 where
  pub none : (name : List ℕ) → is_among twos name ≡ true → is_among ones name ≡ false

pub disjoint_from : (ones twos : List (List ℕ)) → list_any (is_among ones) twos ≡ false → AreDisjoint ones twos
disjoint_from ones twos fails = record { none = λ name among. fails_among (is_among ones) twos name fails among }

pub disjoint_turned : (ones twos : List (List ℕ)) → AreDisjoint ones twos → AreDisjoint twos ones
disjoint_turned ones twos apart = record {
  none = λ name among. false_from_ne_true (is_among twos name)
      (λ other. both_ways (is_among ones name) (apart.none name other) among);
}

pub disjoint_append : (ones more twos : List (List ℕ)) → AreDisjoint ones twos → AreDisjoint more twos →
    AreDisjoint (ones ++ more) twos
disjoint_append ones more twos apart other = record {
  none = λ name among. list_any-append (same_name name) ones more
      ∙ or_from (is_among ones name) (is_among more name) (apart.none name among) (other.none name among);
}

pub disjoint_append_left : (ones more twos : List (List ℕ)) → AreDisjoint (ones ++ more) twos → AreDisjoint ones twos
disjoint_append_left ones more twos apart = record {
  none = λ name among.
      (or_parts (is_among ones name) (is_among more name)
      (sym (list_any-append (same_name name) ones more) ∙ apart.none name among)).0;
}

pub disjoint_append_right : (ones more twos : List (List ℕ)) → AreDisjoint (ones ++ more) twos → AreDisjoint more twos
disjoint_append_right ones more twos apart = record {
  none = λ name among.
      (or_parts (is_among ones name) (is_among more name)
      (sym (list_any-append (same_name name) ones more) ∙ apart.none name among)).1;
}

pub disjoint_single : (ones : List (List ℕ)) (name : List ℕ) → is_among ones name ≡ false →
    AreDisjoint ones (name ∷ [])
disjoint_single ones name apart = disjoint_from ones (name ∷ []) (or_from (is_among ones name) false apart refl)

pub disjoint_tail : (one : List ℕ) (ones twos : List (List ℕ)) → AreDisjoint (one ∷ ones) twos → AreDisjoint ones twos
disjoint_tail one ones twos apart = disjoint_append_right (one ∷ []) ones twos apart

-- lists without repeats that have no name in common, one behind the other
pub repeats_append : (ones twos : List (List ℕ)) → repeats ones ≡ false → repeats twos ≡ false →
    AreDisjoint ones twos →
    repeats (ones ++ twos) ≡ false
repeats_append [] twos first second apart = second
repeats_append (one ∷ ones) twos first second apart =
    let parts : (is_among ones one ≡ false) × (repeats ones ≡ false) =
    or_parts (is_among ones one) (repeats ones) first in
    let mine : is_among (one ∷ ones) one ≡ true = or_left (same_name one one) (is_among ones one) (same_self one) in
    let other : is_among twos one ≡ false = (disjoint_turned (one ∷ ones) twos apart).none one mine in
    or_from (is_among (ones ++ twos) one) (repeats (ones ++ twos))
    (list_any-append (same_name one) ones twos ∙ or_from (is_among ones one) (is_among twos one) parts.0 other)
    (repeats_append ones twos parts.1 second (disjoint_tail one ones twos apart))

-- each member differs from each later one, one member more in front
pub pairs_cons : {X : Type 0} (R : X → X → Type 0) (x : X) (xs : List X) → All (R x) xs → AllPairs R xs →
    AllPairs R (x ∷ xs)
pairs_cons R x xs first rest zero zero d below inside = absurd (omega arith)
pairs_cons R x xs first rest zero (suc j) d below inside = first j d (omega arith)
pairs_cons R x xs first rest (suc i) zero d below inside = absurd (omega arith)
pairs_cons R x xs first rest (suc i) (suc j) d below inside = rest i j d (omega arith) (omega arith)

pub others_apart : (name : List ℕ) (names : List (List ℕ)) → is_among names name ≡ false →
    All (λ other. name ≢ other) names
others_apart name [] apart = λ k d inside. absurd (omega arith)
others_apart name (x ∷ names) apart =
    let parts : (same_name name x ≡ false) × (is_among names name ≡ false) =
    or_parts (same_name name x) (is_among names name) apart in
    All-cons (λ other. name ≢ other) x names (other_is name x parts.0) (others_apart name names parts.1)

pub names_apart : (names : List (List ℕ)) → repeats names ≡ false → AllPairs (λ one two. one ≢ two) names
names_apart [] once = λ i j d below inside. absurd (omega arith)
names_apart (name ∷ names) once =
    let parts : (is_among names name ≡ false) × (repeats names ≡ false) =
    or_parts (is_among names name) (repeats names) once in
    pairs_cons (λ one two. one ≢ two) name names (others_apart name names parts.0) (names_apart names parts.1)

-- where no name stands twice, a name has the number of the place at which it stands
other_at : (names : List (List ℕ)) (k : ℕ) (one two : List ℕ) → is_among names one ≡ false →
    slice_get names k ≡ Some two → same_name two one ≡ false
other_at names k one two apart at =
    false_from_ne_true (same_name two one)
    (λ same. both_ways (is_among names one) apart
    (subst (λ name. is_among names name ≡ true) (same_is two one same) (among_at names k two at)))

placed_from : (names : List (List ℕ)) (i k : ℕ) (name : List ℕ) → repeats names ≡ false →
    slice_get names k ≡ Some name →
    position_from (same_name name) i names ≡ Some (i + k)
placed_from [] i k name once at = absurd (none-some name at)
placed_from (x ∷ names) i zero name once at =
    let e : i ≡ i + 0 = omega arith in
    let same : same_name name x ≡ true = (bytes_decides name x).1 (sym (same_Some x name at)) in
    cond-true (same_name name x) (Some i) (position_from (same_name name) (i + 1) names) same ∙ ap Some e
placed_from (x ∷ names) i (suc k) name once at =
    let parts : (is_among names x ≡ false) × (repeats names ≡ false) =
    or_parts (is_among names x) (repeats names) once in
    let e : i + 1 + k ≡ i + suc k = omega arith in
    cond-false (same_name name x) (Some i) (position_from (same_name name) (i + 1) names)
    (other_at names k x name parts.0 at)
    ∙ placed_from names (i + 1) k name parts.1 at ∙ ap Some e

pub number_at : (names : List (List ℕ)) (k : ℕ) (name : List ℕ) → repeats names ≡ false →
    slice_get names k ≡ Some name → number_of names name ≡ Some k
number_at names k name once at = let e : 0 + k ≡ k = omega arith in placed_from names 0 k name once at ∙ ap Some e
