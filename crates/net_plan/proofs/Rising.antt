-- A rising list is settled by its members.
use Rattle.std.proofs.Common.{◌≡◌, ℕ, suc, zero, ◌<◌, List, [], ◌∷◌, length, refl, sym, ap, subst, ◌∙◌, ◌⊎◌, inl, inr}
use Rattle.std.proofs.Common.{◌↔◌, arith}
use Rattle.std.specs.List.{All, AllPairs, Contains}
use Rattle.std.proofs.lemmas.List.Elements.{All-contains, Contains-append_left, Contains-append_right}
use Rattle.std.proofs.lemmas.List.Elements.{Contains-append_cases, Contains-push}
use Rattle.net_plan.specs.declared.fact.Fact.{Fact}
use Rattle.net_plan.specs.Fact.{numbers_of, IsBelow, Precedes, IsRising}

below_itself : (xs : List ℕ) → IsBelow xs xs → ⊥
below_itself [] below = below
below_itself (x ∷ xs) (inl less) = absurd (omega arith)
below_itself (x ∷ xs) (inr same) = below_itself xs same.1

below_one_way : (xs ys : List ℕ) → IsBelow xs ys → IsBelow ys xs → ⊥
below_one_way [] ys one two = one
below_one_way (x ∷ xs) [] one two = one
below_one_way (x ∷ xs) (y ∷ ys) (inl less) (inl more) = absurd (omega arith)
below_one_way (x ∷ xs) (y ∷ ys) (inl less) (inr same) = let e : y ≡ x = same.0 in absurd (omega arith)
below_one_way (x ∷ xs) (y ∷ ys) (inr same) (inl more) = let e : x ≡ y = same.0 in absurd (omega arith)
below_one_way (x ∷ xs) (y ∷ ys) (inr same) (inr back) = below_one_way xs ys same.1 back.1

-- no fact precedes itself, and no two precede one another
not_before_itself : (fact : Fact) → Precedes fact fact → ⊥
not_before_itself fact before = below_itself (numbers_of fact) before

one_way : (one two : Fact) → Precedes one two → Precedes two one → ⊥
one_way one two before after = below_one_way (numbers_of one) (numbers_of two) before after

module _ {X : Type 0} where
  pub head_contained : (x : X) (xs : List X) → Contains (x ∷ xs) x
  head_contained x xs = Contains-append_left (x ∷ []) xs x (Contains-push [] x)

  pub tail_contained : (x y : X) (xs : List X) → Contains xs y → Contains (x ∷ xs) y
  tail_contained x y xs there = Contains-append_right (x ∷ []) xs y there

  only_member : (x y : X) → Contains (x ∷ []) y → x ≡ y
  only_member x y (zero, in', same) = same
  only_member x y (suc k, in', same) = absurd (omega arith)

  pub contained_cases : (x y : X) (xs : List X) → Contains (x ∷ xs) y → (x ≡ y) ⊎ Contains xs y
  contained_cases x y xs there =
      elim (Contains-append_cases (x ∷ []) xs y there) [ inl here ↦ inl (only_member x y here) | inr later ↦ inr later ]

  pub none_contained : (y : X) → Contains [] y → ⊥
  none_contained y there = let less : there.0 < 0 = there.1 in absurd (omega arith)

  pub pairs_head : (R : X → X → Type 0) (x : X) (xs : List X) → AllPairs R (x ∷ xs) → All (R x) xs
  pairs_head R x xs pairs k d in' =
      pairs 0 (suc k) d (omega arith) (let less : suc k < suc (length xs) = omega arith in less)

  pub pairs_tail : (R : X → X → Type 0) (x : X) (xs : List X) → AllPairs R (x ∷ xs) → AllPairs R xs
  pairs_tail R x xs pairs i j d less in' =
      pairs (suc i) (suc j) d (omega arith) (let more : suc j < suc (length xs) = omega arith in more)

-- the members are the same
abbrev pub Same : List Fact → List Fact → Type 0
Same xs ys = (fact : Fact) → Contains xs fact ↔ Contains ys fact

-- what is behind the head of a rising list isn't the head
behind_head : (x y : Fact) (xs : List Fact) → IsRising (x ∷ xs) → Contains xs y → Precedes x y
behind_head x y xs rising there = All-contains (Precedes x) xs y (pairs_head Precedes x xs rising) there

heads_meet : (x y : Fact) (xs ys : List Fact) → IsRising (x ∷ xs) → IsRising (y ∷ ys) → Same (x ∷ xs) (y ∷ ys) → x ≡ y
heads_meet x y xs ys one two same =
    elim (contained_cases y x ys ((same x).0 (head_contained x xs))) [
      | inl meet ↦ sym meet
      | inr later ↦ elim (contained_cases x y xs ((same y).1 (head_contained y ys))) [
        | inl meet ↦ meet
        | inr also ↦ absurd (one_way x y (behind_head x y xs one also) (behind_head y x ys two later))
      ]
    ]

tail_of_same : (x : Fact) (xs ys : List Fact) → IsRising (x ∷ xs) → Same (x ∷ xs) (x ∷ ys) → (fact : Fact) →
    Contains xs fact → Contains ys fact
tail_of_same x xs ys rising same fact there =
    elim (contained_cases x fact ys ((same fact).0 (tail_contained x fact xs there))) [
      | inl meet ↦ absurd
          (not_before_itself fact (subst (λ (f : Fact). Precedes f fact) meet (behind_head x fact xs rising there)))
      | inr later ↦ later
    ]

same_back : (xs ys : List Fact) → Same xs ys → Same ys xs
same_back xs ys same fact = ((same fact).1, (same fact).0)

pub rising_is_unique : (xs ys : List Fact) → IsRising xs → IsRising ys → Same xs ys → xs ≡ ys
rising_is_unique [] [] one two same = refl
rising_is_unique [] (y ∷ ys) one two same = absurd (none_contained y ((same y).1 (head_contained y ys)))
rising_is_unique (x ∷ xs) [] one two same = absurd (none_contained x ((same x).0 (head_contained x xs)))
rising_is_unique (x ∷ xs) (y ∷ ys) one two same =
    let meet : x ≡ y = heads_meet x y xs ys one two same in
    let two' : IsRising (x ∷ ys) = subst (λ (f : Fact). IsRising (f ∷ ys)) (sym meet) two in
    let same' : Same (x ∷ xs) (x ∷ ys) = subst (λ (f : Fact). Same (x ∷ xs) (f ∷ ys)) (sym meet) same in
    let rest : xs ≡ ys = rising_is_unique xs ys (pairs_tail Precedes x xs one) (pairs_tail Precedes y ys two)
    (λ fact. (
      tail_of_same x xs ys one same' fact,
      tail_of_same x ys xs two' (same_back (x ∷ xs) (x ∷ ys) same') fact,
    )) in
    ap (λ (f : Fact). f ∷ xs) meet ∙ ap (λ (rest : List Fact). y ∷ rest) rest
