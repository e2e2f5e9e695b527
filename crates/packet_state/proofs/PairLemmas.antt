-- A set has one number of pairs.
use Rattle.std.proofs.Common.{◌≡◌, ◌≢◌, ℕ, ◌≤◌, List, [], ◌∷◌, ◌++◌, length, ap, subst}
use Rattle.std.proofs.Common.{inl, inr, arith}
use Rattle.std.specs.List.{AllPairs, Contains}
use Rattle.std.proofs.lemmas.List.{length-append}
use Rattle.std.proofs.lemmas.List.Elements.{All-contains, Contains-append_left, Contains-append_right}
use Rattle.std.proofs.lemmas.List.Elements.{Contains-append_cases}
use Rattle.net_plan.specs.declared.plan.Plan.{Plan}
use Rattle.net_plan.specs.declared.fact.Fact.{Fact}
use Rattle.net_plan.proofs.Rising.{head_contained, tail_contained, contained_cases, none_contained, pairs_head}
use Rattle.net_plan.proofs.Rising.{pairs_tail}
use Rattle.packet_state.specs.Pairs.{CountsPairs}

module _ {X : Type 0} where
  abbrev Differ : X → X → Type 0
  Differ x y = x ≢ y

  split : (x : X) (xs : List X) → Contains xs x →
      (front : List X) × (rest : List X) × (xs ≡ front ++ (x ∷ rest))
  split x [] there = absurd (none_contained x there)
  split x (y ∷ xs) there =
      elim (contained_cases y x xs there) [
        | inl same ↦ ([], xs, ap (λ (z : X). z ∷ xs) same)
        | inr later ↦ let found = split x xs later in (y ∷ found.0, found.1, ap (λ (l : List X). y ∷ l) found.2)
      ]

  -- members of which no two are equal are at most as many as those of a list that has them all
  at_most : (xs ys : List X) → AllPairs Differ xs → ((x : X) → Contains xs x → Contains ys x) → length xs ≤ length ys
  at_most [] ys apart within = omega arith
  at_most (x ∷ xs) ys apart within =
      let found = split x ys (within x (head_contained x xs)) in
      let front : List X = found.0 in
      let rest : List X = found.1 in
      let fewer : length xs ≤ length (front ++ rest) =
      at_most xs (front ++ rest) (pairs_tail Differ x xs apart)
      (λ y there.
      others y (All-contains (Differ x) xs y (pairs_head Differ x xs apart) there) front rest
      (subst (λ (l : List X). Contains l y) found.2 (within y (tail_contained x y xs there)))) in
      let all : length ys ≡ length (front ++ (x ∷ rest)) = ap length found.2 in
      omega (arith, fewer, all, length-append front rest, length-append front (x ∷ rest))
    where
      others : (y : X) → x ≢ y → (front rest : List X) → Contains (front ++ (x ∷ rest)) y → Contains (front ++ rest) y
      others y differ front rest there =
          elim (Contains-append_cases front (x ∷ rest) y there) [
            | inl before ↦ Contains-append_left front rest y before
            | inr behind ↦ elim (contained_cases x y rest behind) [
              | inl same ↦ absurd (differ same)
              | inr later ↦ Contains-append_right front rest y later
            ]
          ]

pub count_is_unique : (plan : Plan) (facts : List Fact) (one two : ℕ) → CountsPairs plan (Contains facts) one →
    CountsPairs plan (Contains facts) two → one ≡ two
count_is_unique plan facts one two a b =
    let up : length a.pairs ≤ length b.pairs =
    at_most a.pairs b.pairs a.apart (λ pair there. (b.member pair).1 ((a.member pair).0 there)) in
    let down : length b.pairs ≤ length a.pairs =
    at_most b.pairs a.pairs b.apart (λ pair there. (a.member pair).1 ((b.member pair).0 there)) in
    omega (arith, up, down, a.counted, b.counted)
