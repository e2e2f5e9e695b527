-- What is held with an entry more and without an entry.
use Rattle.std.proofs.Common.{◌≡◌, zero, suc, ◌<◌, Bool, true, false, cond, not, ◌||◌, ◌&&◌, List, [], ◌∷◌, length}
use Rattle.std.proofs.Common.{refl, sym, ap, subst, ◌∙◌, arith}
use Rattle.std.specs.declared.cmp.Ordering.{Ordering}
use Rattle.std.specs.declared.cmp.Ordering.TheVariants.{Less, Equal, Greater}
use Rattle.std.specs.Ordering.{eq_by_cmp, is_eq, ordering_reverse, match_ordering}
use Rattle.std.specs.Cmp.{IsTotalOrder, alike_right, tied_itself}
use Rattle.std.specs.List.{Contains, filter, list_any, AllByRecursion}
use Rattle.std.specs.List.Sorted.{IsStrictlySortedBy}
use Rattle.std.specs.BTreeSet.{insert_key}
use Rattle.std.proofs.lemmas.List.Elements.{Contains-append_left, Contains-append_right, Contains-push}
use Rattle.std.proofs.lemmas.Map.Keys.{sorted_head, sorted_tail}

true_or : (b : Bool) → (b || true) ≡ true
true_or true = refl
true_or false = refl

twice_or : (b c : Bool) → (b || c) ≡ (b || (b || c))
twice_or true c = refl
twice_or false c = refl

or_turned : (a b c : Bool) → (a || (b || c)) ≡ (b || (a || c))
or_turned true true c = refl
or_turned true false c = refl
or_turned false b c = refl

none_and : (b : Bool) → false ≡ (not b && false)
none_and true = refl
none_and false = refl

not_and_or : (b c : Bool) → (not b && c) ≡ (not b && (b || c))
not_and_or true c = refl
not_and_or false c = refl

module _ {K : Type 0} {R : K → K → Ordering} (o : IsTotalOrder R) where
  -- what follows from the answer of a comparison
  by_order : {P : Type 0} (r : Ordering) → (r ≡ Less → P) → (r ≡ Equal → P) → (r ≡ Greater → P) → P
  by_order Less one two three = one refl
  by_order Equal one two three = two refl
  by_order Greater one two three = three refl

  turned : (x y : K) (r : Ordering) → R x y ≡ r → R y x ≡ ordering_reverse r
  turned x y r e = o.antisymm y x ∙ ap ordering_reverse e

  module _ (k q : K) where
    with_step : (x : K) (xs : List K) (r : Ordering) → R k x ≡ r →
        list_any (eq_by_cmp R q) (insert_key R xs k) ≡ (eq_by_cmp R q k || list_any (eq_by_cmp R q) xs) →
        list_any (eq_by_cmp R q) (match_ordering r (k ∷ x ∷ xs) (x ∷ xs) (x ∷ insert_key R xs k))
        ≡ (eq_by_cmp R q k || (eq_by_cmp R q x || list_any (eq_by_cmp R q) xs))
    with_step x xs Less is rest = refl
    with_step x xs Equal is rest =
        twice_or (eq_by_cmp R q x) (list_any (eq_by_cmp R q) xs)
        ∙ (λ i. is_eq (sym (alike_right o k x q is) i) || (eq_by_cmp R q x || list_any (eq_by_cmp R q) xs))
    with_step x xs Greater is rest =
        ap (λ b. eq_by_cmp R q x || b) rest
        ∙ or_turned (eq_by_cmp R q x) (eq_by_cmp R q k) (list_any (eq_by_cmp R q) xs)

    pub held_with : (xs : List K) →
        list_any (eq_by_cmp R q) (insert_key R xs k) ≡ (eq_by_cmp R q k || list_any (eq_by_cmp R q) xs)
    held_with [] = refl
    held_with (x ∷ xs) = with_step x xs (R k x) refl (held_with xs)

    without_kept : (x : K) (l : Bool) (b : Bool) → is_eq (R q k) ≡ b → is_eq (R k x) ≡ false →
        (eq_by_cmp R q x || (not b && l)) ≡ (not b && (eq_by_cmp R q x || l))
    without_kept x l false is apart = refl
    without_kept x l true is apart = (λ i. is_eq (o.congr q k x (tied (R q k) is) i) || false) ∙ (λ i. apart i || false)
      where
        tied : (r : Ordering) → is_eq r ≡ true → r ≡ Equal
        tied Less e = absurd (cc)
        tied Equal e = refl
        tied Greater e = absurd (cc)

    without_step : (x : K) (xs : List K) (r : Ordering) → R k x ≡ r →
        list_any (eq_by_cmp R q) (filter (λ y. not (eq_by_cmp R k y)) xs)
        ≡ (not (eq_by_cmp R q k) && list_any (eq_by_cmp R q) xs) →
        list_any (eq_by_cmp R q)
        (cond (not (is_eq r)) (x ∷ filter (λ y. not (eq_by_cmp R k y)) xs) (filter (λ y. not (eq_by_cmp R k y)) xs))
        ≡ (not (eq_by_cmp R q k) && (eq_by_cmp R q x || list_any (eq_by_cmp R q) xs))
    without_step x xs Less is rest =
        ap (λ b. eq_by_cmp R q x || b) rest
        ∙ without_kept x (list_any (eq_by_cmp R q) xs) (eq_by_cmp R q k) refl (ap is_eq is)
    without_step x xs Equal is rest =
        rest ∙ not_and_or (eq_by_cmp R q k) (list_any (eq_by_cmp R q) xs)
        ∙ (λ i. not (eq_by_cmp R q k) && (is_eq (alike_right o k x q is i) || list_any (eq_by_cmp R q) xs))
    without_step x xs Greater is rest =
        ap (λ b. eq_by_cmp R q x || b) rest
        ∙ without_kept x (list_any (eq_by_cmp R q) xs) (eq_by_cmp R q k) refl (ap is_eq is)

    pub held_without : (xs : List K) →
        list_any (eq_by_cmp R q) (filter (λ y. not (eq_by_cmp R k y)) xs)
        ≡ (not (eq_by_cmp R q k) && list_any (eq_by_cmp R q) xs)
    held_without [] = none_and (eq_by_cmp R q k)
    held_without (x ∷ xs) = without_step x xs (R k x) refl (held_without xs)

  -- a list with a key still rises
  all_put : (P : K → Type 0) (k : K) (xs : List K) → P k → AllByRecursion P xs → AllByRecursion P (insert_key R xs k)
  all_put P k [] here all = (here, tt)
  all_put P k (x ∷ xs) here all = by (all_put P k xs here all.1) (R k x)
    where
      by : AllByRecursion P (insert_key R xs k) → (r : Ordering) →
          AllByRecursion P (match_ordering r (k ∷ x ∷ xs) (x ∷ xs) (x ∷ insert_key R xs k))
      by rest Less = (here, (all.0, all.1))
      by rest Equal = all
      by rest Greater = (all.0, rest)

  below_all : (k x : K) (xs : List K) → R k x ≡ Less → AllByRecursion (λ y. R x y ≡ Less) xs →
      AllByRecursion (λ y. R k y ≡ Less) xs
  below_all k x [] less all = tt
  below_all k x (y ∷ xs) less all = (o.trans k x y less all.0, below_all k x xs less all.1)

  pub with_rises : (k : K) (xs : List K) → IsStrictlySortedBy R xs → IsStrictlySortedBy R (insert_key R xs k)
  unfolding IsStrictlySortedBy
  with_rises k [] sorted = (tt, tt)
  with_rises k (x ∷ xs) sorted = by (with_rises k xs sorted.1) (R k x) refl
    where
      by : IsStrictlySortedBy R (insert_key R xs k) → (r : Ordering) → R k x ≡ r →
          IsStrictlySortedBy R (match_ordering r (k ∷ x ∷ xs) (x ∷ xs) (x ∷ insert_key R xs k))
      by rest Less is = ((is, below_all k x xs is sorted.0), sorted)
      by rest Equal is = sorted
      by rest Greater is = (all_put (λ y. R x y ≡ Less) k xs (turned k x Greater is) sorted.0, rest)

  -- rising lists that hold the same keys
  lacks_below : (k : K) (xs : List K) → AllByRecursion (λ y. R k y ≡ Less) xs → list_any (eq_by_cmp R k) xs ≡ false
  lacks_below k [] all = refl
  lacks_below k (x ∷ xs) all = (λ i. is_eq (all.0 i) || list_any (eq_by_cmp R k) xs) ∙ lacks_below k xs all.1

  head_held : (x : K) (xs : List K) → list_any (eq_by_cmp R x) (x ∷ xs) ≡ true
  head_held x xs = λ i. is_eq (tied_itself o x i) || list_any (eq_by_cmp R x) xs

  abbrev Alike : List K → List K → Type 0
  Alike xs ys = (q : K) → list_any (eq_by_cmp R q) xs ≡ list_any (eq_by_cmp R q) ys

  not_less : (x y : K) (xs ys : List K) → IsStrictlySortedBy R (y ∷ ys) → Alike (x ∷ xs) (y ∷ ys) → R x y ≡ Less → ⊥
  not_less x y xs ys two alike less =
      let lacks : list_any (eq_by_cmp R x) (y ∷ ys) ≡ false =
      lacks_below x (y ∷ ys) (less, below_all x y ys less (sorted_head R y ys two)) in
      let e : true ≡ false = sym (head_held x xs) ∙ alike x ∙ lacks in absurd (cc)

  alike_tails : (x y : K) (xs ys : List K) → IsStrictlySortedBy R (x ∷ xs) → IsStrictlySortedBy R (y ∷ ys) →
      R x y ≡ Equal → Alike (x ∷ xs) (y ∷ ys) → Alike xs ys
  alike_tails x y xs ys one two same alike q = by (R q x) refl
    where
      first : (r : Ordering) → R q x ≡ r → is_eq r ≡ false → list_any (eq_by_cmp R q) xs ≡ list_any (eq_by_cmp R q) ys
      first r is apart =
          (λ i. (sym apart ∙ ap is_eq (sym is)) i || list_any (eq_by_cmp R q) xs) ∙ alike q
          ∙ (λ i. is_eq (sym (alike_right o x y q same) i) || list_any (eq_by_cmp R q) ys)
          ∙ (λ i. (ap is_eq is ∙ apart) i || list_any (eq_by_cmp R q) ys)

      by : (r : Ordering) → R q x ≡ r → list_any (eq_by_cmp R q) xs ≡ list_any (eq_by_cmp R q) ys
      by Less is = first Less is refl
      by Greater is = first Greater is refl
      by Equal is =
          lacks_below q xs (all_alike q x xs is (sorted_head R x xs one))
          ∙ sym (lacks_below q ys (all_alike q y ys (o.congr q x y is ∙ same) (sorted_head R y ys two)))
        where
          all_alike : (q x : K) (xs : List K) → R q x ≡ Equal → AllByRecursion (λ y. R x y ≡ Less) xs →
              AllByRecursion (λ y. R q y ≡ Less) xs
          all_alike q x [] tie all = tt
          all_alike q x (y ∷ xs) tie all = (o.congr q x y tie ∙ all.0, all_alike q x xs tie all.1)

  pub settled : (exact : (x y : K) → R x y ≡ Equal → x ≡ y) (xs ys : List K) → IsStrictlySortedBy R xs →
      IsStrictlySortedBy R ys → Alike xs ys → xs ≡ ys
  settled exact [] [] one two alike = refl
  settled exact [] (y ∷ ys) one two alike = let e : false ≡ true = alike y ∙ head_held y ys in absurd (cc)
  settled exact (x ∷ xs) [] one two alike = let e : true ≡ false = sym (head_held x xs) ∙ alike x in absurd (cc)
  settled exact (x ∷ xs) (y ∷ ys) one two alike =
      by_order (R x y)
      (λ less. absurd (not_less x y xs ys two alike less))
      (λ same. ap (λ z. z ∷ xs) (exact x y same)
      ∙ ap (λ l. y ∷ l)
      (settled exact xs ys (sorted_tail R x xs one) (sorted_tail R y ys two)
      (alike_tails x y xs ys one two same alike)))
      (λ more. absurd (not_less y x ys xs one (λ q. sym (alike q)) (turned x y Greater more)))

  -- what is held is a member
  member_head : (x : K) (xs : List K) → Contains (x ∷ xs) x
  member_head x xs = Contains-append_left (x ∷ []) xs x (Contains-push [] x)

  pub held_member : (exact : (x y : K) → R x y ≡ Equal → x ≡ y) (k : K) (xs : List K) →
      list_any (eq_by_cmp R k) xs ≡ true → Contains xs k
  held_member exact k [] held = absurd (cc)
  held_member exact k (x ∷ xs) held = by (held_member exact k xs) (R k x) refl held
    where
      by : (list_any (eq_by_cmp R k) xs ≡ true → Contains xs k) → (r : Ordering) → R k x ≡ r →
          (is_eq r || list_any (eq_by_cmp R k) xs) ≡ true → Contains (x ∷ xs) k
      by rest Equal is held = subst (Contains (x ∷ xs)) (sym (exact k x is)) (member_head x xs)
      by rest Less is held = Contains-append_right (x ∷ []) xs k (rest held)
      by rest Greater is held = Contains-append_right (x ∷ []) xs k (rest held)

  pub member_held : (k : K) (xs : List K) → Contains xs k → list_any (eq_by_cmp R k) xs ≡ true
  member_held k [] there = let none : there.0 < 0 = there.1 in absurd (omega arith)
  member_held k (x ∷ xs) (zero, in', same) =
      (λ i. is_eq ((ap (R k) same ∙ tied_itself o k) i) || list_any (eq_by_cmp R k) xs)
  member_held k (x ∷ xs) (suc i, in', same) =
      ap (λ b. eq_by_cmp R k x || b)
      (member_held k xs (i, (let less : suc i < suc (length xs) = in' in omega arith), same))
      ∙ true_or (eq_by_cmp R k x)
