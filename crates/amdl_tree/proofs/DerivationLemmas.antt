-- How derivations grow, and what follows from a derivation, for any relation.
use Rattle.std.proofs.Common.{◌≡◌, List, [], ◌∷◌, ◌++◌, refl, sym, ap, subst, ◌∙◌, ◌⊎◌, inl, inr, ◌↔◌, append_assoc}
use Rattle.std.specs.List.{All, Contains}
use Rattle.std.proofs.lemmas.List.{append-nil}
use Rattle.std.proofs.lemmas.List.Elements.{All-nil, All-cons, All-head, All-tail, All-push, All-weaker, All-contains}
use Rattle.std.proofs.lemmas.List.Elements.{Contains-append_left, Contains-append_right, Contains-push}
use Rattle.amdl_tree.specs.Derivation.{IsDerivation, IsDerivable}

-- where two lists are cut at a member, it stands in the first or in the second
seam : {A : Type 0} (xs ys earlier later : List A) (member : A) → xs ++ ys ≡ earlier ++ (member ∷ later)
    → ((rest : List A) × (xs ≡ earlier ++ (member ∷ rest)))
    ⊎ ((rest : List A) × (earlier ≡ xs ++ rest) × (ys ≡ rest ++ (member ∷ later)))
seam [] ys earlier later member e = inr (earlier, refl, e)
seam (x ∷ xs) ys [] later member e = inl (xs, cc)
seam (x ∷ xs) ys (y ∷ earlier) later member e =
    let here : x ≡ y = cc in
    let tail : xs ++ ys ≡ earlier ++ (member ∷ later) = cc in
    elim (seam xs ys earlier later member tail) [
      | inl found ↦ inl (found.0, cc)
      | inr found ↦ inr (found.0, (cc), found.2)
    ]

-- a list of one is cut at its one member
only : {A : Type 0} (x : A) (earlier later : List A) (member : A) → x ∷ [] ≡ earlier ++ (member ∷ later) →
    (earlier ≡ []) × (x ≡ member)
only x [] later member e = (refl, cc)
only x (y ∷ []) later member e = absurd (cc)
only x (y ∷ z ∷ earlier) later member e = absurd (cc)

module _ {A : Type 0} (follows : List A → A → Type 0) where
  pub derivation_empty : IsDerivation follows []
  derivation_empty [] member later e = absurd (cc)
  derivation_empty (x ∷ earlier) member later e = absurd (cc)

  -- one more thing, which follows from what was derived before
  pub derivation_push : (list premises : List A) (conclusion : A) → IsDerivation follows list →
      All (Contains list) premises → follows premises conclusion → IsDerivation follows (list ++ conclusion ∷ [])
  derivation_push list premises conclusion derived known gives earlier member later e =
      elim (seam list (conclusion ∷ []) earlier later member e) [
        | inl found ↦ derived earlier member found.0 found.1
        | inr found ↦
            let last = only conclusion found.0 later member found.2 in
            let whole : list ≡ earlier = cc (append-nil list) in
            (premises, subst (λ l. All (Contains l) premises) whole known, subst (follows premises) last.1 gives)
      ]

  -- two derivations one behind the other are one
  pub derivation_append : (xs ys : List A) → IsDerivation follows xs → IsDerivation follows ys →
      IsDerivation follows (xs ++ ys)
  derivation_append xs ys first second earlier member later e =
      elim (seam xs ys earlier later member e) [
        | inl found ↦ first earlier member found.0 found.1
        | inr found ↦
            let why = second found.0 member later found.2 in
            let known : All (Contains (xs ++ found.0)) why.0 =
            All-weaker (Contains found.0) (Contains (xs ++ found.0))
            (Contains-append_right xs found.0) why.0 why.1 in
            (why.0, subst (λ l. All (Contains l) why.0) (sym found.1) known, why.2)
      ]

  -- the front of a derivation is one
  pub derivation_front : (xs ys : List A) → IsDerivation follows (xs ++ ys) → IsDerivation follows xs
  derivation_front xs ys whole earlier member later e =
      whole earlier member (later ++ ys) (ap (λ l. l ++ ys) e ∙ append_assoc earlier (member ∷ later) ys)

  -- what stands in a derivation is derivable
  members_derivable : (done later : List A) → IsDerivation follows (done ++ later) → All (IsDerivable follows) done →
      All (IsDerivable follows) (done ++ later)
  members_derivable done [] derived all = subst (All (IsDerivable follows)) (sym (append-nil done)) all
  members_derivable done (member ∷ later) derived all =
      let e : (done ++ member ∷ []) ++ later ≡ done ++ (member ∷ later) = append_assoc done (member ∷ []) later in
      let same : IsDerivation follows ((done ++ member ∷ []) ++ later) = subst (IsDerivation follows) (sym e) derived in
      let here : IsDerivable follows member = (done, derivation_front (done ++ member ∷ []) later same) in
      subst (All (IsDerivable follows)) e
      (members_derivable (done ++ member ∷ []) later same (All-push (IsDerivable follows) done member all here))

  pub derivation_derivable : (list : List A) → IsDerivation follows list → All (IsDerivable follows) list
  derivation_derivable list derived = members_derivable [] list derived (All-nil (IsDerivable follows))

  -- derivable things stand together in one derivation
  pub derivable_together : (premises : List A) → All (IsDerivable follows) premises →
      (list : List A) × IsDerivation follows list × All (Contains list) premises
  derivable_together [] all = ([], derivation_empty, All-nil (Contains []))
  derivable_together (premise ∷ premises) all =
      let one : IsDerivable follows premise = All-head (IsDerivable follows) premise premises all in
      let first : List A = one.0 ++ premise ∷ [] in
      let others = derivable_together premises (All-tail (IsDerivable follows) premise premises all) in
      let known : All (Contains (first ++ others.0)) premises =
      All-weaker (Contains others.0) (Contains (first ++ others.0))
      (Contains-append_right first others.0) premises others.2 in
      let here : Contains (first ++ others.0) premise =
      Contains-append_left first others.0 premise (Contains-push one.0 premise) in (
        first ++ others.0,
        derivation_append first others.0 one.1 others.1,
        All-cons (Contains (first ++ others.0)) premise premises here known,
      )

  -- what follows from nothing is derivable
  pub derivable_start : (conclusion : A) → follows [] conclusion → IsDerivable follows conclusion
  derivable_start conclusion gives =
      ([], derivation_push [] [] conclusion derivation_empty (All-nil (Contains [])) gives)

  -- what follows from derivable things is derivable
  pub derivable_step : (premises : List A) (conclusion : A) → All (IsDerivable follows) premises →
      follows premises conclusion → IsDerivable follows conclusion
  derivable_step premises conclusion all gives =
      let together = derivable_together premises all in
      (together.0, derivation_push together.0 premises conclusion together.1 together.2 gives)

  -- a derivable thing follows from derivable things
  pub derivable_from : (conclusion : A) → IsDerivable follows conclusion →
      (premises : List A) × All (IsDerivable follows) premises × follows premises conclusion
  derivable_from conclusion derivable =
      let earlier = derivable.0 in
      let why = derivable.1 earlier conclusion [] refl in
      let all : All (IsDerivable follows) earlier =
      derivation_derivable earlier (derivation_front earlier (conclusion ∷ []) derivable.1) in (
        why.0,
        All-weaker (Contains earlier) (IsDerivable follows)
            (λ premise stands. All-contains (IsDerivable follows) earlier premise all stands) why.0 why.1,
        why.2,
      )

  -- what the rules keep holds of each derivable thing
  kept_members : (P : A → Type 0) →
      ((premises : List A) (conclusion : A) → All P premises → follows premises conclusion → P conclusion) →
      (done later : List A) → IsDerivation follows (done ++ later) → All P done → All P (done ++ later)
  kept_members P keeps done [] derived all = subst (All P) (sym (append-nil done)) all
  kept_members P keeps done (member ∷ later) derived all =
      let why = derived done member later refl in
      let known : All P why.0 =
      All-weaker (Contains done) P (λ premise stands. All-contains P done premise all stands) why.0 why.1 in
      let e : (done ++ member ∷ []) ++ later ≡ done ++ (member ∷ later) = append_assoc done (member ∷ []) later in
      subst (All P) e
      (kept_members P keeps (done ++ member ∷ []) later (subst (IsDerivation follows) (sym e) derived)
      (All-push P done member all (keeps why.0 member known why.2)))

  pub derivable_kept : (P : A → Type 0) →
      ((premises : List A) (conclusion : A) → All P premises → follows premises conclusion → P conclusion) →
      (conclusion : A) → IsDerivable follows conclusion → P conclusion
  derivable_kept P keeps conclusion derivable =
      All-contains P (derivable.0 ++ conclusion ∷ []) conclusion
      (kept_members P keeps [] (derivable.0 ++ conclusion ∷ []) derivable.1 (All-nil P))
      (Contains-push derivable.0 conclusion)

  -- where all that follows comes from nothing, that is all that is derivable
  pub derivable_from_none : ((premises : List A) (conclusion : A) → follows premises conclusion → premises ≡ []) →
      (conclusion : A) → IsDerivable follows conclusion ↔ follows [] conclusion
  derivable_from_none none conclusion = (
    λ derivable. let why =
        derivable_from conclusion derivable in subst (λ premises. follows premises conclusion)
        (none why.0 conclusion why.2) why.2,
    derivable_start conclusion,
  )

-- a wider relation derives as much
pub derivable_wider : {A : Type 0} (follows wider : List A → A → Type 0) →
    ((premises : List A) (conclusion : A) → follows premises conclusion → wider premises conclusion) →
    (conclusion : A) → IsDerivable follows conclusion → IsDerivable wider conclusion
derivable_wider follows wider grows conclusion =
    derivable_kept follows (IsDerivable wider)
    (λ premises c all gives. derivable_step wider premises c all (grows premises c gives)) conclusion
