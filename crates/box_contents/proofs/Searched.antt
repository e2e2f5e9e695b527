-- Where a binary search over a rising list ends, and what the list is with the key and without it.
use Rattle.std.proofs.Common.{◌≡◌, ℕ, zero, suc, ◌+◌, ◌<◌, ◌≤◌, Bool, true, false, cond, not, ◌||◌, List, [], ◌∷◌, ◌++◌}
use Rattle.std.proofs.Common.{length, take, drop, slice_index_or, refl, sym, ap, subst, ◌∙◌, arith}
use Rattle.std.specs.Prelude.{Result, Ok, Err, MatchResult}
use Rattle.std.specs.declared.cmp.Ordering.{Ordering}
use Rattle.std.specs.declared.cmp.Ordering.TheVariants.{Less, Equal, Greater}
use Rattle.std.specs.Ordering.{eq_by_cmp, is_eq, is_lt, ordering_index, ordering_reverse, match_ordering}
use Rattle.std.specs.Cmp.{IsTotalOrder, alike_right}
use Rattle.std.specs.List.{filter, list_any, insert, remove, AllByRecursion, AllWithin}
use Rattle.std.specs.List.Sorted.{IsStrictlySortedBy, IsNonDecreasingBy, IsSortedBy, IsPartitionPoint, IsSearchInRange}
use Rattle.std.specs.List.Sorted.{IsBinarySearchResult}
use Rattle.std.specs.BTreeSet.{insert_key}
use Rattle.std.proofs.lemmas.List.Sorted.{searchable_from_sorted}
use Rattle.std.proofs.lemmas.Map.Keys.{sorted_head, sorted_tail, Less-from_sorted}

module _ {K : Type 0} {R : K → K → Ordering} (o : IsTotalOrder R) where
  back : (x y : K) (r : Ordering) → R x y ≡ r → R y x ≡ ordering_reverse r
  back x y r e = o.antisymm y x ∙ ap ordering_reverse e

  rises_by : (xs : List K) → IsStrictlySortedBy R xs → IsSortedBy (λ a b. is_lt (R a b)) xs
  rises_by xs sorted k d low high =
      ap is_lt (back (slice_index_or xs k d) (slice_index_or xs (k + 1) d) Less
      (Less-from_sorted R xs k (k + 1) d sorted (omega arith) high))

  pub searchable : (xs : List K) (x : K) → IsStrictlySortedBy R xs → IsNonDecreasingBy (λ y. ordering_index (R y x)) xs
  searchable xs x sorted = searchable_from_sorted o (λ y. y) xs x (rises_by xs sorted)

  module _ (k : K) where
    abbrev Below : List K → Type 0
    Below xs = AllByRecursion (λ y. R y k ≡ Less) xs

    abbrev Above : List K → Type 0
    Above xs = AllByRecursion (λ y. R y k ≡ Greater) xs

    lacks_above : (xs : List K) → Above xs → list_any (eq_by_cmp R k) xs ≡ false
    lacks_above [] above = refl
    lacks_above (x ∷ xs) above =
        (λ i. is_eq (back x k Greater above.0 i) || list_any (eq_by_cmp R k) xs) ∙ lacks_above xs above.1

    kept_above : (xs : List K) → Above xs → filter (λ y. not (eq_by_cmp R k y)) xs ≡ xs
    kept_above [] above = refl
    kept_above (x ∷ xs) above =
        (λ i. cond (not (is_eq (back x k Greater above.0 i))) (x ∷ filter (λ y. not (eq_by_cmp R k y)) xs)
        (filter (λ y. not (eq_by_cmp R k y)) xs))
        ∙ ap (λ l. x ∷ l) (kept_above xs above.1)

    in_front : (xs : List K) → Above xs → insert_key R xs k ≡ k ∷ xs
    in_front [] above = refl
    in_front (x ∷ xs) above =
        λ i. match_ordering (back x k Greater above.0 i) (k ∷ x ∷ xs) (x ∷ xs) (x ∷ insert_key R xs k)

    -- the key stands between the two parts
    pub lacks_between : (front rest : List K) → Below front → Above rest →
        list_any (eq_by_cmp R k) (front ++ rest) ≡ false
    lacks_between [] rest below above = lacks_above rest above
    lacks_between (x ∷ front) rest below above =
        (λ i. is_eq (back x k Less below.0 i) || list_any (eq_by_cmp R k) (front ++ rest))
        ∙ lacks_between front rest below.1 above

    pub kept_between : (front rest : List K) → Below front → Above rest →
        filter (λ y. not (eq_by_cmp R k y)) (front ++ rest) ≡ front ++ rest
    kept_between [] rest below above = kept_above rest above
    kept_between (x ∷ front) rest below above =
        (λ i. cond (not (is_eq (back x k Less below.0 i))) (x ∷ filter (λ y. not (eq_by_cmp R k y)) (front ++ rest))
        (filter (λ y. not (eq_by_cmp R k y)) (front ++ rest)))
        ∙ ap (λ l. x ∷ l) (kept_between front rest below.1 above)

    pub put_between : (front rest : List K) → Below front → Above rest →
        insert_key R (front ++ rest) k ≡ front ++ (k ∷ rest)
    put_between [] rest below above = in_front rest above
    put_between (x ∷ front) rest below above =
        (λ i. match_ordering (back x k Less below.0 i) (k ∷ x ∷ (front ++ rest)) (x ∷ (front ++ rest))
        (x ∷ insert_key R (front ++ rest) k))
        ∙ ap (λ l. x ∷ l) (put_between front rest below.1 above)

    -- the key is the one between the two parts
    pub has_at : (front rest : List K) (x : K) → R x k ≡ Equal → list_any (eq_by_cmp R k) (front ++ (x ∷ rest)) ≡ true
    has_at [] rest x same = λ i. is_eq (back x k Equal same i) || list_any (eq_by_cmp R k) rest
    has_at (y ∷ front) rest x same =
        ap (λ b. eq_by_cmp R k y || b) (has_at front rest x same) ∙ true_behind (eq_by_cmp R k y)
      where
        true_behind : (b : Bool) → (b || true) ≡ true
        true_behind true = refl
        true_behind false = refl

    above_rest : (x : K) (rest : List K) → R x k ≡ Equal → AllByRecursion (λ y. R x y ≡ Less) rest → Above rest
    above_rest x [] same all = tt
    above_rest x (y ∷ rest) same all = (back k y Less (sym (o.congr x k y same) ∙ all.0), above_rest x rest same all.1)

    below_at : (y : K) (front rest : List K) (x : K) → R x k ≡ Equal →
        AllByRecursion (λ z. R y z ≡ Less) (front ++ (x ∷ rest)) → R y k ≡ Less
    below_at y [] rest x same all = sym (alike_right o x k y same) ∙ all.0
    below_at y (z ∷ front) rest x same all = below_at y front rest x same all.1

    pub taken_at : (front rest : List K) (x : K) → R x k ≡ Equal → IsStrictlySortedBy R (front ++ (x ∷ rest)) →
        filter (λ y. not (eq_by_cmp R k y)) (front ++ (x ∷ rest)) ≡ front ++ rest
    taken_at [] rest x same sorted =
        (λ i. cond (not (is_eq (back x k Equal same i))) (x ∷ filter (λ y. not (eq_by_cmp R k y)) rest)
        (filter (λ y. not (eq_by_cmp R k y)) rest))
        ∙ kept_above rest (above_rest x rest same (sorted_head R x rest sorted))
    taken_at (y ∷ front) rest x same sorted =
        (λ i. cond
        (not
        (is_eq (back y k Less (below_at y front rest x same (sorted_head R y (front ++ (x ∷ rest)) sorted)) i)))
        (y ∷ filter (λ z. not (eq_by_cmp R k z)) (front ++ (x ∷ rest)))
        (filter (λ z. not (eq_by_cmp R k z)) (front ++ (x ∷ rest))))
        ∙ ap (λ l. y ∷ l) (taken_at front rest x same (sorted_tail R y (front ++ (x ∷ rest)) sorted))

    pub there_at : (front rest : List K) (x : K) → R x k ≡ Equal → IsStrictlySortedBy R (front ++ (x ∷ rest)) →
        insert_key R (front ++ (x ∷ rest)) k ≡ front ++ (x ∷ rest)
    there_at [] rest x same sorted =
        λ i. match_ordering (back x k Equal same i) (k ∷ x ∷ rest) (x ∷ rest) (x ∷ insert_key R rest k)
    there_at (y ∷ front) rest x same sorted =
        (λ i. match_ordering
        (back y k Less (below_at y front rest x same (sorted_head R y (front ++ (x ∷ rest)) sorted)) i)
        (k ∷ y ∷ (front ++ (x ∷ rest))) (y ∷ (front ++ (x ∷ rest))) (y ∷ insert_key R (front ++ (x ∷ rest)) k))
        ∙ ap (λ l. y ∷ l) (there_at front rest x same (sorted_tail R y (front ++ (x ∷ rest)) sorted))

-- a fact of each element in a part of a list
within : {K : Type 0} (P : K → Type 0) (xs : List K) (n : ℕ) → n ≤ length xs → AllWithin P xs 0 n →
    AllByRecursion P (take n xs)
within P [] zero fits all = tt
within P [] (suc n) fits all = absurd (omega arith)
within P (x ∷ xs) zero fits all = tt
within P (x ∷ xs) (suc n) fits all = (
  all 0 x (omega arith) (omega arith),
  within P xs n (omega arith) (λ k d low high. all (suc k) d (omega arith) (omega arith)),
)

behind : {K : Type 0} (P : K → Type 0) (xs : List K) (n : ℕ) → AllWithin P xs n (length xs) →
    AllByRecursion P (drop n xs)
behind P [] zero all = tt
behind P [] (suc n) all = tt
behind P (x ∷ xs) zero all = (
  all 0 x (omega arith) (let some : 0 < suc (length xs) = omega arith in some),
  behind P xs 0
      (λ k d low high. all (suc k) d (omega arith) (let more : suc k < suc (length xs) = omega arith in more)),
)
behind P (x ∷ xs) (suc n) all =
    behind P xs n
    (λ k d low high. all (suc k) d (omega arith) (let more : suc k < suc (length xs) = omega arith in more))

cut : {K : Type 0} (xs : List K) (i : ℕ) (d : K) → i < length xs →
    take i xs ++ (slice_index_or xs i d ∷ drop (suc i) xs) ≡ xs
cut [] i d less = absurd (omega arith)
cut (x ∷ xs) zero d less = refl
cut (x ∷ xs) (suc i) d less = ap (λ l. x ∷ l) (cut xs i d (omega arith))

cut_off : {K : Type 0} (xs : List K) (i : ℕ) → take i xs ++ drop i xs ≡ xs
cut_off [] zero = refl
cut_off [] (suc i) = refl
cut_off (x ∷ xs) zero = refl
cut_off (x ∷ xs) (suc i) = ap (λ l. x ∷ l) (cut_off xs i)

module _ {K : Type 0} {R : K → K → Ordering} (o : IsTotalOrder R) (k : K) (xs : List K)
    (sorted : IsStrictlySortedBy R xs) where
  sorted_cut : (i : ℕ) → i < length xs → IsStrictlySortedBy R (take i xs ++ (slice_index_or xs i k ∷ drop (suc i) xs))
  sorted_cut i less = subst (IsStrictlySortedBy R) (sym (cut xs i k less)) sorted

  below_place : (i : ℕ) → i ≤ length xs →
      (IsNonDecreasingBy (λ y. ordering_index (R y k)) xs →
      IsPartitionPoint (λ y. R y k ≡ Less) (λ y. R y k ≡ Greater) xs i) →
      AllByRecursion (λ y. R y k ≡ Less) (take i xs)
  below_place i fits point = within (λ y. R y k ≡ Less) xs i fits (point (searchable o xs k sorted)).0

  above_place : (i : ℕ) → i ≤ length xs →
      (IsNonDecreasingBy (λ y. ordering_index (R y k)) xs →
      IsPartitionPoint (λ y. R y k ≡ Less) (λ y. R y k ≡ Greater) xs i) →
      AllByRecursion (λ y. R y k ≡ Greater) (drop i xs)
  above_place i fits point = behind (λ y. R y k ≡ Greater) xs i (point (searchable o xs k sorted)).1

  pub searched_has : (r : Result ℕ ℕ) → IsSearchInRange r (length xs) → IsBinarySearchResult (λ y. R y k) xs r →
      MatchResult r (λ _. list_any (eq_by_cmp R k) xs ≡ true) (λ _. list_any (eq_by_cmp R k) xs ≡ false)
  searched_has (Ok i) fits found =
      ap (list_any (eq_by_cmp R k)) (sym (cut xs i k fits))
      ∙ has_at o k (take i xs) (drop (suc i) xs) (slice_index_or xs i k) (found k)
  searched_has (Err i) fits point =
      ap (list_any (eq_by_cmp R k)) (sym (cut_off xs i))
      ∙ lacks_between o k (take i xs) (drop i xs) (below_place i fits point) (above_place i fits point)

  pub searched_with : (r : Result ℕ ℕ) → IsSearchInRange r (length xs) → IsBinarySearchResult (λ y. R y k) xs r →
      MatchResult r (λ _. insert_key R xs k ≡ xs) (λ i. insert_key R xs k ≡ insert xs i k)
  searched_with (Ok i) fits found =
      ap (λ l. insert_key R l k) (sym (cut xs i k fits))
      ∙ there_at o k (take i xs) (drop (suc i) xs) (slice_index_or xs i k) (found k) (sorted_cut i fits)
      ∙ cut xs i k fits
  searched_with (Err i) fits point =
      ap (λ l. insert_key R l k) (sym (cut_off xs i))
      ∙ put_between o k (take i xs) (drop i xs) (below_place i fits point) (above_place i fits point)

  pub searched_without : (r : Result ℕ ℕ) → IsSearchInRange r (length xs) → IsBinarySearchResult (λ y. R y k) xs r →
      MatchResult r (λ i. filter (λ y. not (eq_by_cmp R k y)) xs ≡ remove xs i)
      (λ _. filter (λ y. not (eq_by_cmp R k y)) xs ≡ xs)
  searched_without (Ok i) fits found =
      ap (filter (λ y. not (eq_by_cmp R k y))) (sym (cut xs i k fits))
      ∙ taken_at o k (take i xs) (drop (suc i) xs) (slice_index_or xs i k) (found k) (sorted_cut i fits)
  searched_without (Err i) fits point =
      ap (filter (λ y. not (eq_by_cmp R k y))) (sym (cut_off xs i))
      ∙ kept_between o k (take i xs) (drop i xs) (below_place i fits point) (above_place i fits point) ∙ cut_off xs i
