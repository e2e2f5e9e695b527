-- What is offered for a fact is what follows from it and facts that are done.
use Rattle.std.proofs.Common.{◌≡◌, ℕ, zero, suc, ◌⊎◌, inl, inr, List, [], ◌∷◌, map, refl, sym, subst}
use Rattle.std.proofs.Common.{arith}
use Rattle.std.specs.List.{All, Contains}
use Rattle.std.proofs.lemmas.List.Elements.{All-nil, All-cons, All-head, All-tail, Contains-append_left}
use Rattle.amdl_tree.specs.Derivation.{IsDerivable}
use Rattle.fix_engine.specs.Progress.{Progress, found_in}
use Rattle.fix_engine.specs.Rules.{GivenOrFollows, HasReacted}
use Rattle.fix_engine.proofs.RuleLemmas.{derivable_given, derivable_once}
use Rattle.net_plan.specs.declared.plan.Plan.{Plan}
use Rattle.net_plan.specs.declared.fact.Fact.{Fact}
use Rattle.net_plan.specs.declared.fact.Fact.TheVariants.{Out, State, Abort}
use Rattle.net_plan.specs.Cells.{IsInRange, cell_of}
use Rattle.net_plan.proofs.CellLemmas.{cell_once}
use Rattle.packet_state.specs.Follows as packet_state
use Rattle.packet_domain.specs.Follows.{Follows}
use Rattle.move_table.specs.Offered.{Offered, IsDone}
use Rattle.packet_domain.specs.Reasons.{IsDelivered, AsState, AsChanged, Reacts}
use Rattle.move_table.proofs.OfferedLemmas.{offered_both}

among_two : (one two cell : ℕ) → Contains (one ∷ two ∷ []) cell → (one ≡ cell) ⊎ (two ≡ cell)
among_two one two cell (zero, within, is) = inl is
among_two one two cell (suc zero, within, is) = inr is
among_two one two cell (suc (suc k), within, is) = absurd (omega (arith, within))

among_three : (one two three cell : ℕ) → Contains (one ∷ two ∷ three ∷ []) cell →
    (one ≡ cell) ⊎ ((two ≡ cell) ⊎ (three ≡ cell))
among_three one two three cell (zero, within, is) = inl is
among_three one two three cell (suc zero, within, is) = inr (inl is)
among_three one two three cell (suc (suc zero), within, is) = inr (inr is)
among_three one two three cell (suc (suc (suc k)), within, is) = absurd (omega (arith, within))

same_numbers : (plan : Plan) (end packet box at mask same second before : ℕ) (fact : Fact) →
    packet_state.Follows plan (Out end packet ∷ State box at mask ∷ State same second before ∷ []) fact →
    (at ≡ packet) × (same ≡ box)
same_numbers plan end packet box at mask same second before (Out to sent) never = absurd never
same_numbers plan end packet box at mask same second before (State other also after) follows = (follows.0, follows.1)
same_numbers plan end packet box at mask same second before (Abort other also) never = absurd never

module _ (plan : Plan) (done : List ℕ) where
  abbrev pub Known : Fact → Type 0
  Known fact = IsDone plan done fact

  -- a delivery, with each of its facts given
  module _ (end packet box mask : ℕ) (fact given : Fact) (out : Known (Out end packet))
      (state : Known (State box packet mask)) where
    one_given : packet_state.Follows plan (Out end packet ∷ State box packet mask ∷ []) fact →
        (Out end packet ≡ given) ⊎ (State box packet mask ≡ given) → Reacts plan done given fact
    one_given follows (inl is) =
        subst (λ f. Reacts plan done f fact) is (box, (mask, state, inl follows))
    one_given follows (inr is) =
        subst (λ f. Reacts plan done f fact) is (inl (end, (out, inl follows)))

    two_given : (second before : ℕ) → Known (State box second before) →
        packet_state.Follows plan (Out end packet ∷ State box packet mask ∷ State box second before ∷ []) fact →
        (Out end packet ≡ given) ⊎ ((State box packet mask ≡ given) ⊎ (State box second before ≡ given)) →
        Reacts plan done given fact
    two_given second before other follows (inl is) =
        subst (λ f. Reacts plan done f fact) is (box, (mask, state, inr (second, before, other, follows)))
    two_given second before other follows (inr (inl is)) =
        subst (λ f. Reacts plan done f fact) is (inl (end, (out, inr (second, before, other, follows))))
    two_given second before other follows (inr (inr is)) =
        subst (λ f. Reacts plan done f fact) is (inr (end, (packet, out, (mask, state, follows))))

  module _ (given : Fact) (inside : IsInRange plan given) where
    same_fact : (other : Fact) → IsInRange plan other → cell_of plan other ≡ cell_of plan given → other ≡ given
    same_fact other in' is = cell_once plan other given in' inside is

    reacts : (facts : List Fact) (fact : Fact) → All (IsInRange plan) facts → packet_state.Follows plan facts fact →
        Contains (map (cell_of plan) facts) (cell_of plan given) → All (Contains done) (map (cell_of plan) facts) →
        Reacts plan done given fact
    reacts [] fact in' follows among all = absurd (omega (arith, among.1))
    reacts (Out end packet ∷ State box at mask ∷ []) fact in' follows among all =
        let out_in = All-head (IsInRange plan) (Out end packet) (State box at mask ∷ []) in' in
        let state_in = All-head (IsInRange plan) (State box at mask) []
        (All-tail (IsInRange plan) (Out end packet) (State box at mask ∷ []) in') in
        let out = All-head (Contains done) (cell_of plan (Out end packet)) (cell_of plan (State box at mask) ∷ []) all in
        let state = All-head (Contains done) (cell_of plan (State box at mask)) []
        (All-tail (Contains done) (cell_of plan (Out end packet)) (cell_of plan (State box at mask) ∷ []) all) in
        let role : (Out end packet ≡ given) ⊎ (State box at mask ≡ given) =
        elim (among_two (cell_of plan (Out end packet)) (cell_of plan (State box at mask)) (cell_of plan given) among) [
          | inl is ↦ inl (same_fact (Out end packet) out_in is)
          | inr is ↦ inr (same_fact (State box at mask) state_in is)
        ] in
        one_given end packet box mask fact given (out_in, out)
        (subst (λ (p : ℕ). Known (State box p mask)) follows.0 (state_in, state))
        (subst (λ (p : ℕ). packet_state.Follows plan (Out end packet ∷ State box p mask ∷ []) fact) follows.0 follows)
        (subst (λ (p : ℕ). (Out end packet ≡ given) ⊎ (State box p mask ≡ given)) follows.0 role)
    reacts (Out end packet ∷ State box at mask ∷ State same second before ∷ []) fact in' follows among all =
        let rest_in = All-tail (IsInRange plan) (Out end packet) (State box at mask ∷ State same second before ∷ []) in' in
        let out_in = All-head (IsInRange plan) (Out end packet) (State box at mask ∷ State same second before ∷ []) in' in
        let state_in = All-head (IsInRange plan) (State box at mask) (State same second before ∷ []) rest_in in
        let other_in = All-head (IsInRange plan) (State same second before) []
        (All-tail (IsInRange plan) (State box at mask) (State same second before ∷ []) rest_in) in
        let one = cell_of plan (Out end packet) in
        let two = cell_of plan (State box at mask) in
        let three = cell_of plan (State same second before) in
        let out = All-head (Contains done) one (two ∷ three ∷ []) all in
        let state = All-head (Contains done) two (three ∷ []) (All-tail (Contains done) one (two ∷ three ∷ []) all) in
        let other = All-head (Contains done) three []
        (All-tail (Contains done) two (three ∷ []) (All-tail (Contains done) one (two ∷ three ∷ []) all)) in
        let role : (Out end packet ≡ given) ⊎ ((State box at mask ≡ given) ⊎ (State same second before ≡ given)) =
        elim (among_three one two three (cell_of plan given) among) [
          | inl is ↦ inl (same_fact (Out end packet) out_in is)
          | inr more ↦ elim more [
            | inl is ↦ inr (inl (same_fact (State box at mask) state_in is))
            | inr is ↦ inr (inr (same_fact (State same second before) other_in is))
          ]
        ] in
        let numbers = same_numbers plan end packet box at mask same second before fact follows in
        two_given end packet box mask fact given (out_in, out)
        (subst (λ (p : ℕ). Known (State box p mask)) numbers.0 (state_in, state)) second before
        (subst (λ (b : ℕ). Known (State b second before)) numbers.1 (other_in, other))
        (subst
        (λ (p : ℕ). packet_state.Follows plan (Out end packet ∷ State box p mask ∷ State box second before ∷ []) fact)
        numbers.0
        (subst
        (λ (b : ℕ). packet_state.Follows plan (Out end packet ∷ State box at mask ∷ State b second before ∷ []) fact)
        numbers.1 follows))
        (subst
        (λ (p : ℕ). (Out end packet ≡ given) ⊎ ((State box p mask ≡ given) ⊎ (State box second before ≡ given)))
        numbers.0
        (subst
        (λ (b : ℕ). (Out end packet ≡ given) ⊎ ((State box at mask ≡ given) ⊎ (State b second before ≡ given)))
        numbers.1 role))
    reacts _ fact in' follows among all = absurd follows

    pub all_reacted : (old new : Progress) → Offered plan (Reacts plan done given) old new →
        HasReacted (Follows plan) (cell_of plan given) done (found_in new)
    all_reacted old new offered premises conclusion follows among all =
        let reason = reacts follows.facts follows.fact follows.facts_in_range follows.follows
        (subst (λ (l : List ℕ). Contains l (cell_of plan given)) follows.premises_are among)
        (subst (λ (l : List ℕ). All (Contains done) l) follows.premises_are all) in
        subst (Contains (found_in new)) (sym follows.cell_is) (offered.all follows.fact follows.in_range reason)

  -- the other way round
  module _ (found : List ℕ) (inside : (cell : ℕ) → Contains done cell → Contains found cell) (fact : Fact)
      (in' : IsInRange plan fact) where
    abbrev Derived : Type 0
    Derived = IsDerivable (GivenOrFollows (Follows plan) found) (cell_of plan fact)

    by_two : (one two : Fact) → Known one → Known two → packet_state.Follows plan (one ∷ two ∷ []) fact → Derived
    by_two one two first second follows =
        derivable_once (Follows plan) found (map (cell_of plan) (one ∷ two ∷ [])) (cell_of plan fact)
        (All-cons (Contains found) (cell_of plan one) (cell_of plan two ∷ []) (inside (cell_of plan one) first.1)
        (All-cons (Contains found) (cell_of plan two) [] (inside (cell_of plan two) second.1) (All-nil (Contains found))))
        (record {
          facts = one ∷ two ∷ [];
          fact = fact;
          facts_in_range = All-cons (IsInRange plan) one (two ∷ []) first.0
              (All-cons (IsInRange plan) two [] second.0 (All-nil (IsInRange plan)));
          in_range = in';
          premises_are = refl;
          cell_is = refl;
          follows = follows;
        })

    by_three : (one two three : Fact) → Known one → Known two → Known three →
        packet_state.Follows plan (one ∷ two ∷ three ∷ []) fact → Derived
    by_three one two three first second third follows =
        derivable_once (Follows plan) found (map (cell_of plan) (one ∷ two ∷ three ∷ [])) (cell_of plan fact)
        (All-cons (Contains found) (cell_of plan one) (cell_of plan two ∷ cell_of plan three ∷ [])
        (inside (cell_of plan one) first.1)
        (All-cons (Contains found) (cell_of plan two) (cell_of plan three ∷ []) (inside (cell_of plan two) second.1)
        (All-cons (Contains found) (cell_of plan three) [] (inside (cell_of plan three) third.1)
        (All-nil (Contains found)))))
        (record {
          facts = one ∷ two ∷ three ∷ [];
          fact = fact;
          facts_in_range = All-cons (IsInRange plan) one (two ∷ three ∷ []) first.0
              (All-cons (IsInRange plan) two (three ∷ []) second.0
              (All-cons (IsInRange plan) three [] third.0 (All-nil (IsInRange plan))));
          in_range = in';
          premises_are = refl;
          cell_is = refl;
          follows = follows;
        })

    by_delivery : (end packet box mask : ℕ) → Known (Out end packet) → Known (State box packet mask) →
        IsDelivered plan done end packet box mask fact → Derived
    by_delivery end packet box mask out state (inl follows) =
        by_two (Out end packet) (State box packet mask) out state follows
    by_delivery end packet box mask out state (inr (second, before, other, follows)) =
        by_three (Out end packet) (State box packet mask) (State box second before) out state other follows

    by_reason : (given : Fact) → Known given → Reacts plan done given fact → Derived
    by_reason (Out end packet) known (box, (mask, state, delivered)) =
        by_delivery end packet box mask known state delivered
    by_reason (State box packet mask) known (inl (end, (out, delivered))) =
        by_delivery end packet box mask out known delivered
    by_reason (State box second before) known (inr (end, (packet, out, (mask, state, follows)))) =
        by_three (Out end packet) (State box packet mask) (State box second before) out state known follows
    by_reason (Abort box packet) known never = absurd never

pub only_derived : (plan : Plan) (old new : Progress) (given : Fact) → IsInRange plan given →
    Contains old.done (cell_of plan given) → Offered plan (Reacts plan old.done given) old new → (cell : ℕ) →
    Contains (found_in new) cell → IsDerivable (GivenOrFollows (Follows plan) (found_in old)) cell
only_derived plan old new given inside known offered cell found =
    elim (offered.only cell found) [
      | inl before ↦ derivable_given (Follows plan) (found_in old) cell before
      | inr reason ↦ subst (IsDerivable (GivenOrFollows (Follows plan) (found_in old))) (sym reason.3)
          (by_reason plan old.done (found_in old) (Contains-append_left old.done old.todo) reason.0 reason.1 given
          (inside, known) reason.2)
    ]

-- both roles of answers
pub both_roles : (plan : Plan) (old mid new : Progress) (box packet mask : ℕ) →
    Offered plan (AsState plan old.done box packet mask) old mid →
    Offered plan (AsChanged plan mid.done box packet mask) mid new →
    Offered plan (Reacts plan old.done (State box packet mask)) old new
both_roles plan old mid new box packet mask first second =
    offered_both plan (AsState plan old.done box packet mask) (AsChanged plan old.done box packet mask) old mid new first
    (subst (λ (d : List ℕ). Offered plan (AsChanged plan d box packet mask) mid new) first.grows.done second)
