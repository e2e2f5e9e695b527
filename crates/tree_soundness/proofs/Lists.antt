-- Lists each of whose members comes to something.
use Rattle.std.proofs.Common.{
  ◌≡◌,
  ℕ,
  zero,
  suc,
  ◌+◌,
  ◌<◌,
  Bool,
  true,
  false,
  cond,
  List,
  [],
  ◌∷◌,
  ◌++◌,
  length,
  get_or,
  map,
  Option,
  Some,
  None,
  option_map,
  slice_get,
  refl,
  ap,
  subst,
  ◌∙◌,
  arith,
}
use Rattle.std.specs.List.{list_any, find, position_from, AllByRecursion, AllZip}
use Rattle.std.proofs.lemmas.Bool.{or_parts, cond-true, cond-false}
use Rattle.std.proofs.lemmas.Option.{none-some, same_Some}
use Rattle.tree_plan.specs.Names.{number_of, joined, all_some}
use Rattle.tree_soundness.proofs.Names.{split, found_from, number_is}

-- what comes together came from two, and what is mapped from one
pub joined_some : {A B C P : Type 0} (f : A → B → C) (a : Option A) (b : Option B) (c : C) → joined f a b ≡ Some c →
    ((x : A) (y : B) → a ≡ Some x → b ≡ Some y → f x y ≡ c → P) → P
joined_some f (Some x) (Some y) c came next = next x y refl refl (same_Some (f x y) c came)
joined_some f (Some x) None c came next = absurd (none-some c came)
joined_some f None b c came next = absurd (none-some c came)

pub option_map_some : {A B P : Type 0} (f : A → B) (a : Option A) (b : B) → option_map f a ≡ Some b →
    ((x : A) → a ≡ Some x → f x ≡ b → P) → P
option_map_some f (Some x) b came next = next x refl (same_Some (f x) b came)
option_map_some f None b came next = absurd (none-some b came)

module _ {A B : Type 0} (f : A → Option B) where
  -- each member comes to the one at its place
  abbrev pub Come : List A → List B → Type 0
  Come = AllZip (λ x y. f x ≡ Some y)

  pub come_from : (xs : List A) (ys : List B) → all_some f xs ≡ Some ys → Come xs ys
  come_from [] [] came = tt
  come_from [] (y ∷ ys) came = absurd (other came)
    where
      other : Some [] ≡ Some (y ∷ ys) → ⊥
      other came = cc
  come_from (x ∷ xs) ys came =
      joined_some (λ y ys. y ∷ ys) (f x) (all_some f xs) ys came
      (λ y others here later both. subst (Come (x ∷ xs)) both (here, come_from xs others later))

  pub all_come : (xs : List A) (ys : List B) → Come xs ys → all_some f xs ≡ Some ys
  all_come [] [] come = refl
  all_come [] (y ∷ ys) come = absurd come
  all_come (x ∷ xs) [] come = absurd come
  all_come (x ∷ xs) (y ∷ ys) come = λ i. joined (λ y others. y ∷ others) (come.0 i) (all_come xs ys come.1 i)

  -- where each comes to something, all do
  pub some_come : (xs : List A) → AllByRecursion (λ x. (y : B) × (f x ≡ Some y)) xs →
      (ys : List B) × (all_some f xs ≡ Some ys)
  some_come [] each = ([], refl)
  some_come (x ∷ xs) each =
      let rest = some_come xs each.1 in
      (each.0.0 ∷ rest.0, λ i. joined (λ y others. y ∷ others) (each.0.1 i) (rest.1 i))

-- each member of the second list, by what the one at its place in the first is
pub zip_each : {A B : Type 0} (R : A → B → Type 0) (P : A → Type 0) (Q : B → Type 0) (xs : List A) (ys : List B) →
    ((x : A) (y : B) → P x → R x y → Q y) → AllZip R xs ys → AllByRecursion P xs → AllByRecursion Q ys
zip_each R P Q [] [] step zip each = tt
zip_each R P Q [] (y ∷ ys) step zip each = absurd zip
zip_each R P Q (x ∷ xs) [] step zip each = absurd zip
zip_each R P Q (x ∷ xs) (y ∷ ys) step zip each = (step x y each.0 zip.0, zip_each R P Q xs ys step zip.1 each.1)

pub zip_weaker : {A B : Type 0} (R S : A → B → Type 0) (xs : List A) (ys : List B) →
    ((x : A) (y : B) → R x y → S x y) →
    AllZip R xs ys → AllZip S xs ys
zip_weaker R S [] [] step zip = tt
zip_weaker R S [] (y ∷ ys) step zip = absurd zip
zip_weaker R S (x ∷ xs) [] step zip = absurd zip
zip_weaker R S (x ∷ xs) (y ∷ ys) step zip = (step x y zip.0, zip_weaker R S xs ys step zip.1)

pub zip_map : {A B C : Type 0} (R : A → B → Type 0) (g : A → C) (h : B → C) (xs : List A) (ys : List B) →
    ((x : A) (y : B) → R x y → h y ≡ g x) → AllZip R xs ys → map h ys ≡ map g xs
zip_map R g h [] [] step zip = refl
zip_map R g h [] (y ∷ ys) step zip = absurd zip
zip_map R g h (x ∷ xs) [] step zip = absurd zip
zip_map R g h (x ∷ xs) (y ∷ ys) step zip = λ i. step x y zip.0 i ∷ zip_map R g h xs ys step zip.1 i

pub zip_length : {A B : Type 0} (R : A → B → Type 0) (xs : List A) (ys : List B) → AllZip R xs ys →
    length ys ≡ length xs
zip_length R [] [] zip = refl
zip_length R [] (y ∷ ys) zip = absurd zip
zip_length R (x ∷ xs) [] zip = absurd zip
zip_length R (x ∷ xs) (y ∷ ys) zip = ap suc (zip_length R xs ys zip.1)

pub zip_get : {A B : Type 0} (R : A → B → Type 0) (xs : List A) (ys : List B) (k : ℕ) (x : A) → AllZip R xs ys →
    slice_get xs k ≡ Some x →
    (y : B) × (slice_get ys k ≡ Some y) × R x y
zip_get R [] [] k x zip at = absurd (none-some x at)
zip_get R [] (y ∷ ys) k x zip at = absurd zip
zip_get R (a ∷ xs) [] k x zip at = absurd zip
zip_get R (a ∷ xs) (b ∷ ys) zero x zip at = (b, refl, subst (λ x. R x b) (same_Some a x at) zip.0)
zip_get R (a ∷ xs) (b ∷ ys) (suc k) x zip at = zip_get R xs ys k x zip.1 at

pub each_weaker : {A : Type 0} (P Q : A → Type 0) (xs : List A) → ((x : A) → P x → Q x) → AllByRecursion P xs →
    AllByRecursion Q xs
each_weaker P Q [] step each = tt
each_weaker P Q (x ∷ xs) step each = (step x each.0, each_weaker P Q xs step each.1)

pub each_both : {A : Type 0} (P Q : A → Type 0) (xs : List A) → AllByRecursion P xs → AllByRecursion Q xs →
    AllByRecursion (λ x. P x × Q x) xs
each_both P Q [] one two = tt
each_both P Q (x ∷ xs) one two = ((one.0, two.0), each_both P Q xs one.1 two.1)

pub each_always : {A : Type 0} (P : A → Type 0) (xs : List A) → ((x : A) → P x) → AllByRecursion P xs
each_always P [] all = tt
each_always P (x ∷ xs) all = (all x, each_always P xs all)

-- a test that fails of all fails of each
pub each_fails : {A : Type 0} (test : A → Bool) (xs : List A) → list_any test xs ≡ false →
    AllByRecursion (λ x. test x ≡ false) xs
each_fails test [] fails = tt
each_fails test (x ∷ xs) fails =
    let parts : (test x ≡ false) × (list_any test xs ≡ false) = or_parts (test x) (list_any test xs) fails in
    (parts.0, each_fails test xs parts.1)

pub each_at : {A : Type 0} (P : A → Type 0) (xs : List A) (k : ℕ) (x : A) → AllByRecursion P xs →
    slice_get xs k ≡ Some x → P x
each_at P [] k x each at = absurd (none-some x at)
each_at P (a ∷ xs) zero x each at = subst P (same_Some a x at) each.0
each_at P (a ∷ xs) (suc k) x each at = each_at P xs k x each.1 at

-- what is looked for by a part of it
pub position_map : {A B : Type 0} (test : B → Bool) (g : A → B) (i : ℕ) (xs : List A) →
    position_from test i (map g xs) ≡ position_from (λ x. test (g x)) i xs
position_map test g i [] = refl
position_map test g i (x ∷ xs) = ap (cond (test (g x)) (Some i)) (position_map test g (i + 1) xs)

pub get_in_front : {A : Type 0} (xs ys : List A) (k : ℕ) (x : A) → slice_get xs k ≡ Some x →
    slice_get (xs ++ ys) k ≡ Some x
get_in_front [] ys k x at = absurd (none-some x at)
get_in_front (a ∷ xs) ys zero x at = at
get_in_front (a ∷ xs) ys (suc k) x at = get_in_front xs ys k x at

-- the member that a number found by name stands for
get_mapped : {A B : Type 0} (g : A → B) (xs : List A) (k : ℕ) (y : B) → slice_get (map g xs) k ≡ Some y →
    (x : A) × (slice_get xs k ≡ Some x) × (g x ≡ y)
get_mapped g [] k y at = absurd (none-some y at)
get_mapped g (x ∷ xs) zero y at = (x, refl, same_Some (g x) y at)
get_mapped g (x ∷ xs) (suc k) y at = get_mapped g xs k y at

pub map_get : {A B : Type 0} (g : A → B) (xs : List A) (k : ℕ) (x : A) → slice_get xs k ≡ Some x →
    slice_get (map g xs) k ≡ Some (g x)
map_get g [] k x at = absurd (none-some x at)
map_get g (a ∷ xs) zero x at = ap (option_map g) at
map_get g (a ∷ xs) (suc k) x at = map_get g xs k x at

pub named_at : {A : Type 0} (name_of : A → List ℕ) (xs : List A) (name : List ℕ) (k : ℕ) →
    number_of (map name_of xs) name ≡ Some k →
    (x : A) × (slice_get xs k ≡ Some x) × (name_of x ≡ name)
named_at name_of xs name k found = get_mapped name_of xs k name (number_is (map name_of xs) name k found)

-- the first that passes a test is at the place of the first that passes it
find_from : {A : Type 0} (test : A → Bool) (i : ℕ) (xs : List A) (x : A) → find test xs ≡ Some x →
    (k : ℕ) × (position_from test i xs ≡ Some (i + k)) × (slice_get xs k ≡ Some x) × (test x ≡ true)
find_from test i [] x found = absurd (none-some x found)
find_from test i (a ∷ xs) x found =
    split (test a) (Some a) (find test xs) (Some x) found
    (λ held here.
    let e : i ≡ i + 0 = omega arith in (
      0,
      cond-true (test a) (Some i) (position_from test (i + 1) xs) held ∙ ap Some e,
      here,
      subst (λ a. test a ≡ true) (same_Some a x here) held,
    ))
    (λ failed later.
    let rest = find_from test (i + 1) xs x later in
    let e : i + 1 + rest.0 ≡ i + suc rest.0 = omega arith in (
      suc rest.0,
      cond-false (test a) (Some i) (position_from test (i + 1) xs) failed ∙ rest.1 ∙ ap Some e,
      rest.2,
      rest.3,
    ))

pub find_at : {A : Type 0} (test : A → Bool) (xs : List A) (x : A) → find test xs ≡ Some x →
    (k : ℕ) × (position_from test 0 xs ≡ Some k) × (slice_get xs k ≡ Some x) × (test x ≡ true)
find_at test xs x found =
    let at = find_from test 0 xs x found in
    let e : 0 + at.0 ≡ at.0 = omega arith in
    (at.0, at.1 ∙ ap Some e, at.2, at.3)

-- and the other way round
found_is_from : {A : Type 0} (test : A → Bool) (i : ℕ) (xs : List A) (j k : ℕ) (x : A) →
    position_from test i xs ≡ Some j → j ≡ i + k → slice_get xs k ≡ Some x → find test xs ≡ Some x
found_is_from test i [] j k x found is at = absurd (none-some x at)
found_is_from test i (a ∷ xs) j zero x found is at =
    split (test a) (Some i) (position_from test (i + 1) xs) (Some j) found
    (λ held here. cond-true (test a) (Some a) (find test xs) held ∙ at)
    (λ failed later. let past = found_from test (i + 1) xs j later in absurd (omega (arith, past.2)))
found_is_from test i (a ∷ xs) j (suc k) x found is at =
    split (test a) (Some i) (position_from test (i + 1) xs) (Some j) found
    (λ held here. absurd (omega (arith, same_Some i j here)))
    (λ failed later.
    cond-false (test a) (Some a) (find test xs) failed ∙ found_is_from test (i + 1) xs j k x later (omega arith) at)

pub found_is : {A : Type 0} (test : A → Bool) (xs : List A) (k : ℕ) (x : A) → position_from test 0 xs ≡ Some k →
    slice_get xs k ≡ Some x → find test xs ≡ Some x
found_is test xs k x found at = found_is_from test 0 xs k k x found (omega arith) at

pub each_three : {A : Type 0} (P Q R : A → Type 0) (xs : List A) → AllByRecursion P xs → AllByRecursion Q xs →
    AllByRecursion R xs → AllByRecursion (λ x. P x × Q x × R x) xs
each_three P Q R [] one two three = tt
each_three P Q R (x ∷ xs) one two three = ((one.0, two.0, three.0), each_three P Q R xs one.1 two.1 three.1)

pub zip_get_or : {A B : Type 0} (R : A → B → Type 0) (xs : List A) (ys : List B) (k : ℕ) (d : A) (e : B) →
    AllZip R xs ys → k < length xs → R (get_or xs k d) (get_or ys k e)
zip_get_or R [] ys k d e zip inside = absurd (omega arith)
zip_get_or R (x ∷ xs) [] k d e zip inside = absurd zip
zip_get_or R (x ∷ xs) (y ∷ ys) zero d e zip inside = zip.0
zip_get_or R (x ∷ xs) (y ∷ ys) (suc k) d e zip inside = zip_get_or R xs ys k d e zip.1 (omega arith)
