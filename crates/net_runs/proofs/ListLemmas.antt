-- Members of lists by their places, and lists with one member taken out or changed.
use Rattle.std.proofs.Common.{◌≡◌, ◌≢◌, ℕ, ◌<◌, zero, suc, List, [], ◌∷◌, ◌++◌, length, Some, slice_set, get_or}
use Rattle.std.proofs.Common.{replicate, refl, sym, ap, subst, ◌∙◌, inl, inr, arith}
use Rattle.std.specs.Prelude.{slice_get}
use Rattle.std.specs.List.{All, Contains}
use Rattle.std.proofs.lemmas.Bool.{cases_eq}
use Rattle.std.proofs.lemmas.Option.{get_or_from_slice_get, slice_get_within}
use Rattle.std.proofs.lemmas.List.Elements.{All-contains, Contains-get_or, Contains-append_left, Contains-append_right}
use Rattle.std.proofs.lemmas.List.Elements.{Contains-append_cases}
use Rattle.net_plan.proofs.Rising.{head_contained, tail_contained, contained_cases, none_contained}
use Rattle.net_runs.specs.World.{TakesFirst}

pub some_inside : {X : Type 0} {x y : X} → Some x ≡ Some y → x ≡ y
some_inside e = cc

-- places

module _ {X : Type 0} where
  pub get_set_same : (xs : List X) (i : ℕ) (x : X) → i < length xs → slice_get (slice_set xs i x) i ≡ Some x
  get_set_same [] i x less = absurd (omega arith)
  get_set_same (y ∷ xs) zero x less = refl
  get_set_same (y ∷ xs) (suc i) x less = get_set_same xs i x (omega (arith, less))

  pub get_set_other : (xs : List X) (i j : ℕ) (x : X) → j ≢ i → slice_get (slice_set xs i x) j ≡ slice_get xs j
  get_set_other [] i j x apart = refl
  get_set_other (y ∷ xs) zero zero x apart = absurd (apart refl)
  get_set_other (y ∷ xs) zero (suc j) x apart = refl
  get_set_other (y ∷ xs) (suc i) zero x apart = refl
  get_set_other (y ∷ xs) (suc i) (suc j) x apart = get_set_other xs i j x (λ same. apart (ap suc same))

  pub get_replicate : (n i : ℕ) (x y : X) → slice_get (replicate n x) i ≡ Some y → y ≡ x
  get_replicate zero i x y e = absurd (cc)
  get_replicate (suc n) zero x y e = sym (some_inside e)
  get_replicate (suc n) (suc i) x y e = get_replicate n i x y e

  -- what holds of all members holds of the one at a place
  pub all_get : (P : X → Type 0) (xs : List X) (i : ℕ) (x : X) → All P xs → slice_get xs i ≡ Some x → P x
  all_get P xs i x all e = subst P (get_or_from_slice_get xs i x x e) (all i x (slice_get_within xs i x e))

-- one member taken out

pub in_a_wider : (packet other : ℕ) (front rest : List ℕ) → Contains (front ++ rest) packet →
    Contains (front ++ (other ∷ rest)) packet
in_a_wider packet other front rest there =
    elim (Contains-append_cases front rest packet there) [
      | inl before ↦ Contains-append_left front (other ∷ rest) packet before
      | inr behind ↦ Contains-append_right front (other ∷ rest) packet (tail_contained other packet rest behind)
    ]

module _ (packet : ℕ) where
  pub stood_there : (before after : List ℕ) → TakesFirst packet before after → Contains before packet
  stood_there before after takes =
      subst (λ (l : List ℕ). Contains l packet) (sym takes.stood)
      (Contains-append_right takes.front (packet ∷ takes.rest) packet (head_contained packet takes.rest))

  pub was_there : (before after : List ℕ) (other : ℕ) → TakesFirst packet before after → Contains after other →
      Contains before other
  was_there before after other takes there =
      subst (λ (l : List ℕ). Contains l other) (sym takes.stood)
      (in_a_wider other packet takes.front takes.rest (subst (λ (l : List ℕ). Contains l other) takes.taken there))

  pub all_fewer : (P : ℕ → Type 0) (before after : List ℕ) → TakesFirst packet before after → All P before →
      All P after
  all_fewer P before after takes all k d less =
      All-contains P before (get_or after k d) all
      (was_there before after (get_or after k d) takes (Contains-get_or after k d less))

  takes_later : (x : ℕ) (xs others : List ℕ) → (x ≡ packet → ⊥) → TakesFirst packet xs others →
      TakesFirst packet (x ∷ xs) (x ∷ others)
  takes_later x xs others apart takes = record {
    front = x ∷ takes.front;
    rest = takes.rest;
    stood = ap (λ (l : List ℕ). x ∷ l) takes.stood;
    first = λ there. elim (contained_cases x packet takes.front there)
        [ inl same ↦ apart same | inr later ↦ takes.first later ];
    taken = ap (λ (l : List ℕ). x ∷ l) takes.taken;
  }

  -- the first copy can be taken out
  pub take_first : (packets : List ℕ) → Contains packets packet → (others : List ℕ) × TakesFirst packet packets others
  take_first [] there = absurd (none_contained packet there)
  take_first (x ∷ xs) there =
      elim (cases_eq x packet) [
        | inl same ↦ (
          xs,
          record {
            front = [];
            rest = xs;
            stood = ap (λ (n : ℕ). n ∷ xs) same;
            first = none_contained packet;
            taken =
                refl;
          },
        )
        | inr apart ↦
            let apart_is : x ≡ packet → ⊥ = apart in
            elim (contained_cases x packet xs there) [
              | inl same ↦ absurd (apart_is same)
              | inr later ↦ let found = take_first xs later in (x ∷ found.0, takes_later x xs found.0 apart_is found.1)
            ]
      ]

-- and in one way

takes_one : (packet : ℕ) (front rest other others : List ℕ) → (Contains front packet → ⊥) →
    (Contains other packet → ⊥) →
    front ++ (packet ∷ rest) ≡ other ++ (packet ∷ others) → front ++ rest ≡ other ++ others
takes_one packet [] rest [] others one two e = cc
takes_one packet [] rest (y ∷ other) others one two e =
    let same : packet ≡ y =
    cc in absurd (two (subst (λ (n : ℕ). Contains (n ∷ other) packet) same (head_contained packet other)))
takes_one packet (x ∷ front) rest [] others one two e =
    let same : x ≡ packet =
    cc in absurd (one (subst (λ (n : ℕ). Contains (n ∷ front) packet) (sym same) (head_contained packet front)))
takes_one packet (x ∷ front) rest (y ∷ other) others one two e =
    let same : x ≡ y = cc in
    let tail : front ++ (packet ∷ rest) ≡ other ++ (packet ∷ others) = cc in
    let again : front ++ rest ≡ other ++ others =
    takes_one packet front rest other others (λ there. one (tail_contained x packet front there))
    (λ there. two (tail_contained y packet other there)) tail in
    ap (λ (n : ℕ). n ∷ (front ++ rest)) same ∙ ap (λ (l : List ℕ). y ∷ l) again

pub taken_once : (packet : ℕ) (before one two : List ℕ) → TakesFirst packet before one → TakesFirst packet before two →
    one ≡ two
taken_once packet before one two a b =
    a.taken ∙ takes_one packet a.front a.rest b.front b.rest a.first b.first (sym a.stood ∙ b.stood) ∙ sym b.taken
