-- The facts of the firewall are closed, and none of them is bad.
use Rattle.std.proofs.Common.{◌≡◌, ℕ, zero, suc, ◌+◌, ◌<◌, Bool, true, false, ◌||◌, List, [], ◌∷◌, ◌++◌, Some}
use Rattle.std.proofs.Common.{refl, sym, ap, subst, ◌∙◌, ◌⊎◌, inl, inr, arith, lit<}
use Rattle.std.specs.Prelude.{slice_get}
use Rattle.std.specs.List.{All, Contains}
use Rattle.std.proofs.lemmas.Option.{get_or_from_slice_get}
use Rattle.std.proofs.lemmas.List.Elements.{All-contains, All-weaker, All-from_recursion, All-head, All-tail}
use Rattle.header_set.specs.Headers.{field_of}
use Rattle.header_set.specs.Pattern.{fixed_at, Matches}
use Rattle.box_contents.specs.declared.entry.Entry.{Entry}
use Rattle.box_contents.specs.Contents.{same_entry, holds_entry, with_entry}
use Rattle.box_contents.specs.Laws.{HeldIsMember, HeldWith}
use Rattle.box_handlers.specs.declared.act.Act.{Act}
use Rattle.box_handlers.specs.Body.{Body, Stop, Emit, NoBranch, OneBranch, body_of, BodiesAreRead, FormulasAreRead}
use Rattle.box_executions.specs.Environment.{Environment, entry_in, IsChanged}
use Rattle.box_executions.specs.Guard.{IsSatisfied}
use Rattle.box_executions.specs.Execution.{Outcome, Done, Aborted, Emission, after_outputs, InSequence, BodyRuns}
use Rattle.box_executions.specs.Execution.{BranchRuns}
use Rattle.net_plan.specs.declared.plan.ClassPlan.{ClassPlan}
use Rattle.net_plan.specs.declared.plan.BoxPlan.{BoxPlan}
use Rattle.net_plan.specs.declared.plan.LinkPlan.{LinkPlan}
use Rattle.net_plan.specs.declared.fact.Place.TheVariants.{Host, Port}
use Rattle.net_plan.specs.declared.fact.Fact.{Fact}
use Rattle.net_plan.specs.declared.fact.Fact.TheVariants.{Out, State, Abort}
use Rattle.net_plan.specs.Plan.{box_at, Sends, Forbids}
use Rattle.net_plan.specs.Ends.{IsEndAt, Joins, IsLinked}
use Rattle.net_plan.specs.Follows.{IsBad, IsForbiddenDelivery}
use Rattle.net_plan.proofs.Rising.{contained_cases, none_contained, head_contained}
use Rattle.net_plan.proofs.EndLemmas.{host_ends, port_ends}
use Rattle.net_runs.specs.World.{environment_of, Handles}
use Rattle.packet_state.specs.Answers.{mask_of, answers}
use Rattle.packet_state.specs.Follows.{IsSent, IsFirst, Meets, PutsOutAt, Changes}
use Rattle.packet_state.specs.Covers.{IsClosed}
use Rattle.packet_state.specs.Laws.{ClosedSetRunsSafely}
use Rattle.net_examples.specs.Firewall.{known_peer, at_inner, at_outer, fence, peer, firewall, firewall_facts}
use Rattle.net_examples.specs.Firewall.{FirewallIsSafe}
use Rattle.net_examples.proofs.BoxLemmas.{one_pattern, field_is, field_is_not}
use Rattle.net_examples.proofs.FirewallSound.{guard, inner_body, outer_body, inner_read, outer_read, firewall_sound}

some_inside : {X : Type 0} {x y : X} → Some x ≡ Some y → x ≡ y
some_inside e = cc

-- the facts by their numbers

abbrev pub Known : Fact → Type 0
Known (Out zero packet) = packet ≡ 0
Known (Out (suc zero) packet) = packet < 2
Known (Out (suc (suc zero)) packet) = packet ≡ 0
Known (Out (suc (suc (suc zero))) packet) = packet ≡ 0
Known (State zero zero mask) = mask < 2
Known (State zero (suc zero) mask) = mask ≡ 0
Known _ = ⊥

pub all_known : All Known firewall_facts
all_known =
    All-from_recursion Known firewall_facts (
      refl,
      (
        lit< tt,
        (
          lit< tt,
          (
            refl,
            (
              refl,
              (
                lit< tt,
                (
                  lit< tt,
                  (refl, tt),
                ),
              ),
            ),
          ),
        ),
      ),
    )

listed_at : (k : ℕ) (fact : Fact) → slice_get firewall_facts k ≡ Some fact → k < 8 → Contains firewall_facts fact
listed_at k fact e less = (k, less, get_or_from_slice_get firewall_facts k fact fact e)

pub listed : (fact : Fact) → Known fact → Contains firewall_facts fact
listed (Out zero packet) is =
    subst (λ (p : ℕ). Contains firewall_facts (Out 0 p)) (sym is) (listed_at 0 (Out 0 0) refl (lit< tt))
listed (Out (suc zero) zero) is = listed_at 1 (Out 1 0) refl (lit< tt)
listed (Out (suc zero) (suc zero)) is = listed_at 2 (Out 1 1) refl (lit< tt)
listed (Out (suc zero) (suc (suc packet))) is = absurd (omega (arith, is))
listed (Out (suc (suc zero)) packet) is =
    subst (λ (p : ℕ). Contains firewall_facts (Out 2 p)) (sym is) (listed_at 3 (Out 2 0) refl (lit< tt))
listed (Out (suc (suc (suc zero))) packet) is =
    subst (λ (p : ℕ). Contains firewall_facts (Out 3 p)) (sym is) (listed_at 4 (Out 3 0) refl (lit< tt))
listed (Out (suc (suc (suc (suc end)))) packet) is = absurd is
listed (State zero zero zero) is = listed_at 5 (State 0 0 0) refl (lit< tt)
listed (State zero zero (suc zero)) is = listed_at 6 (State 0 0 1) refl (lit< tt)
listed (State zero zero (suc (suc mask))) is = absurd (omega (arith, is))
listed (State zero (suc zero) mask) is =
    subst (λ (m : ℕ). Contains firewall_facts (State 0 1 m)) (sym is) (listed_at 7 (State 0 1 0) refl (lit< tt))
listed (State zero (suc (suc packet)) mask) is = absurd is
listed (State (suc box) packet mask) is = absurd is
listed (Abort box packet) is = absurd is

-- packets

-- the two packets are told apart by their field
pub one_packet : (p q : ℕ) → p < 2 → q < 2 → field_of (2 ∷ []) p 0 ≡ field_of (2 ∷ []) q 0 → p ≡ q
one_packet zero zero less below e = refl
one_packet zero (suc zero) less below e =
    absurd (let never : ◌≡◌ {A = ℕ} 0 1 = sym field_is_not ∙ e ∙ field_is in omega (arith, never))
one_packet (suc zero) zero less below e =
    absurd (let never : ◌≡◌ {A = ℕ} 1 0 = sym field_is ∙ e ∙ field_is_not in omega (arith, never))
one_packet (suc zero) (suc zero) less below e = refl
one_packet (suc (suc p)) q less below e = absurd (omega (arith, less))
one_packet p (suc (suc q)) less below e = absurd (omega (arith, below))

abbrev pub env : ℕ → Environment
env packet = environment_of firewall fence packet

abbrev pub entry_at : ℕ → Entry
entry_at packet = entry_in (env packet) known_peer

one_member : {a b : ℕ} → a ∷ [] ≡ b ∷ [] → a ≡ b
one_member e = cc

unchanged : (packet sent : ℕ) → packet < 2 → IsChanged (env packet) [] sent → sent ≡ packet
unchanged packet sent less changed = one_packet sent packet changed.in_range less (one_member changed.fields)

entries_differ : same_entry (entry_at 1) (entry_at 0) ≡ false
unfolding field_of
entries_differ = refl

-- executions

abbrev pub out : ℕ → ℕ → Emission
out port packet = record { port = port; packet = packet }

inner_runs : (packet : ℕ) (contents : List Entry) (choices : List ℕ) (outcome : Outcome) → packet < 2 →
    BodyRuns inner_body (env packet) contents choices outcome [] →
    outcome ≡ Done (with_entry contents (entry_at packet)) (out 1 packet ∷ [])
inner_runs packet contents choices outcome less runs =
    runs.ends ∙ ap (after_outputs (out 1 runs.packet ∷ [])) runs.second.0
    ∙ ap (λ (p : ℕ). Done (with_entry contents (entry_at packet)) (out 1 p ∷ []))
    (unchanged packet runs.packet less runs.changed)

-- what the outer handler may come to
abbrev OuterEnds : ℕ → List Entry → Outcome → Type 0
OuterEnds packet contents outcome =
    (outcome ≡ Done contents [])
    ⊎ (Contains contents (entry_at packet) × (outcome ≡ Done contents (out 0 packet ∷ [])))

not_done : {s : List Entry} {outs : List Emission} → Aborted ≡ Done s outs → ⊥
not_done e = cc

same_contents : {s t : List Entry} {outs others : List Emission} → Done s outs ≡ Done t others → s ≡ t
same_contents e = cc

same_outputs : {s t : List Entry} {outs others : List Emission} → Done s outs ≡ Done t others → outs ≡ others
same_outputs e = cc

branch_runs : (packet : ℕ) (contents : List Entry) (choice : ℕ) (others : List ℕ) (outcome : Outcome) → packet < 2 →
    InSequence (BranchRuns (OneBranch guard (Emit 0 [] Stop) NoBranch) (env packet) choice) (BodyRuns Stop (env packet))
    contents others outcome [] →
    OuterEnds packet contents outcome
branch_runs packet contents zero others outcome less (inl (aborts, ends)) =
    absurd (not_done (aborts.1.ends ∙ ap (after_outputs (out 0 aborts.1.packet ∷ [])) aborts.1.second.0))
branch_runs packet contents zero others outcome less (inr goes) =
    let first : Done goes.mid goes.outputs ≡ Done contents (out 0 packet ∷ []) =
    goes.first.1.ends ∙ ap (after_outputs (out 0 goes.first.1.packet ∷ [])) goes.first.1.second.0
    ∙ ap (λ (p : ℕ). Done contents (out 0 p ∷ [])) (unchanged packet goes.first.1.packet less goes.first.1.changed) in
    let mid : goes.mid ≡ contents = same_contents first in
    let outputs : goes.outputs ≡ out 0 packet ∷ [] = same_outputs first in
    inr (
      satisfied goes.first.0,
      goes.ends ∙ ap (after_outputs goes.outputs) goes.second.0
          ∙ (λ i. Done (mid i) (outputs i ++ [])),
    )
  where
    satisfied : IsSatisfied (env packet) contents guard → Contains contents (entry_at packet)
    satisfied (inl (there, always)) = there
    satisfied (inr never) = absurd never
branch_runs packet contents (suc choice) others outcome less (inl (never, ends)) = absurd never
branch_runs packet contents (suc choice) others outcome less (inr goes) = absurd goes.first

outer_runs : (packet : ℕ) (contents : List Entry) (choices : List ℕ) (outcome : Outcome) → packet < 2 →
    BodyRuns outer_body (env packet) contents choices outcome [] → OuterEnds packet contents outcome
outer_runs packet contents choices outcome less (inl (none, runs)) = inl runs.0
outer_runs packet contents choices outcome less (inr uses) =
    branch_runs packet contents uses.choice uses.others outcome less uses.runs

-- links

link_cases : (end other : ℕ) → IsLinked firewall end other →
    Joins (record { one = 0; two = 2 }) end other ⊎ Joins (record { one = 3; two = 1 }) end other
link_cases end other linked =
    elim (contained_cases (record { one = 0; two = 2 }) linked.0 (record { one = 3; two = 1 } ∷ []) linked.1) [
      | inl same ↦ inl (subst (λ (l : LinkPlan). Joins l end other) (sym same) linked.2)
      | inr later ↦ elim (contained_cases (record { one = 3; two = 1 }) linked.0 [] later) [
        | inl same ↦ inr (subst (λ (l : LinkPlan). Joins l end other) (sym same) linked.2)
        | inr none ↦ absurd (none_contained linked.0 none)
      ]
    ]

-- the port that a packet comes to
abbrev ComesTo : ℕ → ℕ → ℕ → Type 0
ComesTo end box port = ((end ≡ 0) × (box ≡ 0) × (port ≡ 0)) ⊎ ((end ≡ 1) × (box ≡ 0) × (port ≡ 1))

place_at : {other end box port : ℕ} → end ≡ other → IsEndAt firewall other (Port box port) →
    IsEndAt firewall end (Port box port)
place_at {box = box} {port = port} e there = subst (λ (n : ℕ). IsEndAt firewall n (Port box port)) (sym e) there

comes : (end other box port : ℕ) → IsLinked firewall end other → IsEndAt firewall other (Port box port) →
    ComesTo end box port
comes end other box port linked there =
    elim (link_cases end other linked) [
      | inl joins ↦ elim joins [
        | inl here ↦
            let found : Some (Port 0 0) ≡ Some (Port box port) = place_at here.1 there in
            inl (sym here.0, (cc), (cc))
        | inr here ↦ absurd (let never : Some (Host 0) ≡ Some (Port box port) = place_at here.0 there in cc)
      ]
      | inr joins ↦ elim joins [
        | inl here ↦ absurd (let never : Some (Host 1) ≡ Some (Port box port) = place_at here.1 there in cc)
        | inr here ↦
            let found : Some (Port 0 1) ≡ Some (Port box port) = place_at here.0 there in
            inr (sym here.1, (cc), (cc))
      ]
    ]

-- what the box does

module _ (bodies : BodiesAreRead) (formulas : FormulasAreRead) where
  runs_as : (port packet : ℕ) (contents : List Entry) (choices : List ℕ) (outcome : Outcome) (acts : List Act)
      (body : Body) → slice_get fence.handlers port ≡ Some acts → body_of acts ≡ body →
      Handles firewall 0 port packet contents choices outcome → BodyRuns body (env packet) contents choices outcome []
  runs_as port packet contents choices outcome acts body found read handles =
      let box : record { name = 102 ∷ []; class = 0; first = [] } ≡ handles.box_plan =
      some_inside handles.at_box.numbered in
      let class : fence ≡ handles.class =
      some_inside (ap (λ (b : BoxPlan). slice_get firewall.classes b.class) box ∙ handles.at_box.of_class) in
      let handler : acts ≡ handles.handler =
      some_inside (sym found ∙ ap (λ (c : ClassPlan). slice_get c.handlers port) class ∙ handles.at_port) in
      subst (λ (c : ClassPlan). BodyRuns body (environment_of firewall c packet) contents choices outcome [])
      (sym class)
      (subst (λ (b : Body). BodyRuns b (environment_of firewall handles.class packet) contents choices outcome [])
      (ap body_of (sym handler) ∙ read) handles.executes)

  -- what may come of a packet at the box
  abbrev Comes : ℕ → ℕ → ℕ → List Entry → Outcome → Type 0
  Comes end packet box contents outcome =
      ((end ≡ 0) × (box ≡ 0) × (outcome ≡ Done (with_entry contents (entry_at packet)) (out 1 packet ∷ [])))
      ⊎ ((end ≡ 1) × (box ≡ 0) × OuterEnds packet contents outcome)

  met : (end packet box mask : ℕ) (contents : List Entry) (outcome : Outcome) →
      Meets firewall end packet box mask contents outcome → Comes end packet box contents outcome
  met end packet box mask contents outcome meets =
      elim (comes end meets.other box meets.port meets.linked meets.at_port) [
        | inl inner ↦ inl (
          inner.0,
          inner.1,
          inner_runs packet contents meets.choices outcome meets.packet_in_range
              (runs_as 0 packet contents meets.choices outcome at_inner inner_body refl (inner_read bodies formulas)
              (moved inner.1 inner.2)),
        )
        | inr outer ↦ inr (
          outer.0,
          outer.1,
          outer_runs packet contents meets.choices outcome meets.packet_in_range
              (runs_as 1 packet contents meets.choices outcome at_outer outer_body refl (outer_read bodies formulas)
              (moved outer.1 outer.2)),
        )
      ]
    where
      moved : {b p : ℕ} → box ≡ b → meets.port ≡ p → Handles firewall b p packet contents meets.choices outcome
      moved {b} {p} same port =
          subst (λ (n : ℕ). Handles firewall n p packet contents meets.choices outcome) same
          (subst (λ (n : ℕ). Handles firewall box n packet contents meets.choices outcome) port meets.handles)

  -- where an end of a port is
  end_is : (to box port at : ℕ) → IsEndAt firewall to (Port box port) → box ≡ 0 → port ≡ at → to ≡ 2 + at
  end_is to box port at there first same =
      let found : IsEndAt firewall to (Port 0 at) =
      subst (λ (b : ℕ). IsEndAt firewall to (Port b at)) first
      (subst (λ (n : ℕ). IsEndAt firewall to (Port box n)) same there) in
      ((port_ends firewall to 0 at).0 found).2

  the_one : (outputs : List Emission) (only emission : Emission) → outputs ≡ only ∷ [] → Contains outputs emission →
      only ≡ emission
  the_one outputs only emission e there =
      elim (contained_cases only emission [] (subst (λ (l : List Emission). Contains l emission) e there)) [
        | inl same ↦ same
        | inr none ↦ absurd (none_contained emission none)
      ]

  module _ (held : HeldIsMember) (held_with : HeldWith) where
    -- who is known at the packet is a
    known_alone : (packet box mask : ℕ) (contents : List Entry) → packet < 2 → box ≡ 0 → Known (State box packet mask) →
        answers firewall box packet contents ≡ mask → Contains contents (entry_at packet) → packet ≡ 0
    known_alone packet box mask contents less first known answered there =
        by packet less (subst (λ (b : ℕ). Known (State b packet mask)) first known)
        (subst (λ (b : ℕ). answers firewall b packet contents ≡ mask) first answered) there
      where
        by : (packet : ℕ) → packet < 2 → Known (State 0 packet mask) → answers firewall 0 packet contents ≡ mask →
            Contains contents (entry_at packet) → packet ≡ 0
        by zero less known answered there = refl
        by (suc zero) less known answered there =
            let yes' : holds_entry contents (entry_at 1) ≡ true = (held contents (entry_at 1)).1 there in
            let one : 1 ≡ mask = sym (ap (λ (b : Bool). mask_of (b ∷ [])) yes') ∙ answered in
            absurd (omega (arith, one, known))
        by (suc (suc packet)) less known answered there = absurd (omega (arith, less))

    put_out : (end packet box mask to sent : ℕ) → Known (Out end packet) → Known (State box packet mask) →
        PutsOutAt firewall end packet box mask to sent → Known (Out to sent)
    put_out end packet box mask to sent sender state puts =
        elim (met end packet box mask puts.contents (Done puts.left puts.outputs) puts.meets) [
          | inl inner ↦
              let same : out 1 packet ≡ out puts.port sent =
              the_one puts.outputs (out 1 packet) (out puts.port sent) (same_outputs inner.2) puts.put_out in
              let to_is : to ≡ 3 = end_is to box puts.port 1 puts.at_port inner.1 (sym (ap (λ
              (o : Emission). o.port) same))
              in
              let packet_is : packet ≡ 0 = subst (λ (e : ℕ). Known (Out e packet)) inner.0 sender in
              subst (λ (t : ℕ). Known (Out t sent)) (sym to_is)
              (sym (ap (λ (o : Emission). o.packet) same) ∙ packet_is)
          | inr outer ↦ elim outer.2 [
            | inl quiet ↦ absurd
                (none_contained (out puts.port sent)
                (subst (λ (l : List Emission). Contains l (out puts.port sent)) (same_outputs quiet) puts.put_out))
            | inr loud ↦
                let same : out 0 packet ≡ out puts.port sent =
                the_one puts.outputs (out 0 packet) (out puts.port sent) (same_outputs loud.1) puts.put_out in
                let to_is : to ≡ 2 =
                end_is to box puts.port 0 puts.at_port outer.1 (sym (ap (λ (o : Emission). o.port) same)) in
                let packet_is : packet ≡ 0 =
                known_alone packet box mask puts.contents puts.meets.packet_in_range outer.1 state puts.meets.answered
                loud.0 in
                subst (λ (t : ℕ). Known (Out t sent)) (sym to_is)
                (sym (ap (λ (o : Emission). o.packet) same) ∙ packet_is)
          ]
        ]

    no_abort : (end packet box mask : ℕ) (contents : List Entry) →
        Meets firewall end packet box mask contents Aborted → ⊥
    no_abort end packet box mask contents meets =
        elim (met end packet box mask contents Aborted meets) [
          | inl inner ↦ not_done inner.2
          | inr outer ↦ elim outer.2 [ inl quiet ↦ not_done quiet | inr loud ↦ not_done loud.1 ]
        ]

    small : (bit : Bool) → mask_of (bit ∷ []) < 2
    small true = lit< tt
    small false = lit< tt

    -- a is put in, which no other packet sees
    noted : (second before : ℕ) (contents : List Entry) → second < 2 → Known (State 0 second before) →
        answers firewall 0 second contents ≡ before →
        Known (State 0 second (answers firewall 0 second (with_entry contents (entry_at 0))))
    noted zero before contents less known answered = small (holds_entry (with_entry contents (entry_at 0)) (entry_at 0))
    noted (suc zero) before contents less known answered =
        ap (λ (b : Bool). mask_of (b ∷ []))
        (held_with contents (entry_at 0) (entry_at 1)
        ∙ ap (λ (b : Bool). b || holds_entry contents (entry_at 1)) entries_differ)
        ∙ answered ∙ known
    noted (suc (suc second)) before contents less known answered = absurd (omega (arith, less))

    changed : (end packet box mask second before after : ℕ) → Known (Out end packet) →
        Known (State box second before) → Changes firewall end packet box mask second before after →
        Known (State box second after)
    changed end packet box mask second before after sender state changes =
        elim (met end packet box mask changes.contents (Done changes.left changes.outputs) changes.meets) [
          | inl inner ↦
              let packet_is : packet ≡ 0 = subst (λ (e : ℕ). Known (Out e packet)) inner.0 sender in
              let left : with_entry changes.contents (entry_at 0) ≡ changes.left =
              ap (λ (p : ℕ). with_entry changes.contents (entry_at p)) (sym packet_is) ∙ sym (same_contents inner.2) in
              subst (λ (b : ℕ). Known (State b second after)) (sym inner.1)
              (subst (λ (m : ℕ). Known (State 0 second m))
              (ap (answers firewall 0 second) left
              ∙ subst (λ (b : ℕ). answers firewall b second changes.left ≡ after) inner.1 changes.leaves)
              (noted second before changes.contents changes.second_in_range
              (subst (λ (b : ℕ). Known (State b second before)) inner.1 state)
              (subst (λ (b : ℕ). answers firewall b second changes.contents ≡ before) inner.1 changes.answered)))
          | inr outer ↦
              let left : changes.left ≡ changes.contents =
              elim outer.2 [ inl quiet ↦ same_contents quiet | inr loud ↦ same_contents loud.1 ] in
              subst (λ (m : ℕ). Known (State box second m))
              (sym changes.answered ∙ ap (answers firewall box second) (sym left) ∙ changes.leaves) state
        ]

    -- what follows from nothing

    sent_known : (end packet : ℕ) → IsSent firewall end packet → Known (Out end packet)
    sent_known end packet sent = by sent.host (host_ends firewall end sent.host).0 sent.at_host sent.sends
      where
        by : (host : ℕ) → (IsEndAt firewall end (Host host) → (host < 2) × (end ≡ host)) →
            IsEndAt firewall end (Host host) → Sends firewall host packet → Known (Out end packet)
        by zero is there sends =
            let matches : Matches (2 ∷ []) (peer (Some 0)) packet =
            one_pattern (λ only. Matches (2 ∷ []) only packet) (peer (Some 0)) sends in
            subst (λ (e : ℕ). Known (Out e packet)) (sym (is there).1)
            (one_packet packet 0 sent.packet_in_range (lit< tt) (matches.each 0 0 (lit< tt) refl ∙ sym field_is_not))
        by (suc zero) is there sends =
            subst (λ (e : ℕ). Known (Out e packet)) (sym (is there).1) sent.packet_in_range
        by (suc (suc host)) is there sends =
            absurd (let less : suc (suc host) < 2 = (is there).0 in omega (arith, less))

    first_known : (box packet mask : ℕ) → IsFirst firewall box packet mask → Known (State box packet mask)
    first_known box packet mask first = by box packet first.box_in_range first.packet_in_range first.answered
      where
        by : (box packet : ℕ) → box < 1 → packet < 2 →
            answers firewall box packet (box_at firewall box).first ≡ mask → Known (State box packet mask)
        by zero zero less below answered = subst (λ (m : ℕ). m < 2) answered (lit< tt)
        by zero (suc zero) less below answered = sym answered
        by zero (suc (suc packet)) less below answered = absurd (omega (arith, below))
        by (suc box) packet less below answered = absurd (omega (arith, less))

    pub known_closed : IsClosed firewall Known
    known_closed [] (Out end packet) known sent = sent_known end packet sent
    known_closed [] (State box packet mask) known first = first_known box packet mask first
    known_closed [] (Abort box packet) known never = absurd never
    known_closed (Out end packet ∷ State box at mask ∷ []) (Out to sent) known (same, fires) =
        put_out end packet box mask to sent
        (All-head Known (Out end packet) (State box at mask ∷ []) known)
        (subst (λ (p : ℕ). Known (State box p mask)) same
        (All-head Known (State box at mask) []
        (All-tail Known (Out end packet) (State box at mask ∷ []) known)))
        fires
    known_closed (Out end packet ∷ State box at mask ∷ []) (State other second after) known (same, never) = absurd never
    known_closed (Out end packet ∷ State box at mask ∷ []) (Abort other also) known (same, (here, twice, aborts)) =
        absurd (no_abort end packet box mask aborts.contents aborts.meets)
    known_closed (Out end packet ∷ State box at mask ∷ State too second before ∷ []) (State other also after) known
        (same, alike, here, twice, changes) =
        let later : All Known (State box at mask ∷ State too second before ∷ []) =
        All-tail Known (Out end packet) (State box at mask ∷ State too second before ∷ []) known in
        let last : Known (State too second before) =
        All-head Known (State too second before) []
        (All-tail Known (State box at mask) (State too second before ∷ []) later) in
        subst (λ (b : ℕ). Known (State b also after)) (sym here)
        (subst (λ (q : ℕ). Known (State box q after)) (sym twice)
        (changed end packet box mask second before after
        (All-head Known (Out end packet) (State box at mask ∷ State too second before ∷ []) known)
        (subst (λ (b : ℕ). Known (State b second before)) alike last) changes))
    known_closed _ fact known never = absurd never

    facts_closed : IsClosed firewall (Contains firewall_facts)
    facts_closed premises fact known follows =
        listed fact
        (known_closed premises fact
        (All-weaker (Contains firewall_facts) Known
        (λ one there. All-contains Known firewall_facts one all_known there) premises known)
        follows)

-- what is bad

nobody_else : (packet : ℕ) → Forbids firewall 0 packet → packet ≡ 0 → ⊥
nobody_else packet forbids is =
    let matches : Matches (2 ∷ []) (peer (Some 1)) packet =
    one_pattern (λ only. Matches (2 ∷ []) only packet) (peer (Some 1)) forbids in
    let one : field_of (2 ∷ []) packet 0 ≡ 1 = matches.each 0 1 (lit< tt) refl in
    let never : ◌≡◌ {A = ℕ} 0 1 =
    sym field_is_not ∙ ap (λ (p : ℕ). field_of (2 ∷ []) p 0) (sym is) ∙ one in
    omega (arith, never)

-- q forbids nothing
no_pattern : (packet : ℕ) → Forbids firewall 1 packet → ⊥
no_pattern packet forbids = let less : forbids.0 < 0 = forbids.2 in omega (arith, less)

host_at : {other end host : ℕ} → end ≡ other → IsEndAt firewall other (Host host) → IsEndAt firewall end (Host host)
host_at {host = host} e there = subst (λ (n : ℕ). IsEndAt firewall n (Host host)) (sym e) there

host_inside : {one two : ℕ} → Some (Host one) ≡ Some (Host two) → one ≡ two
host_inside e = cc

not_forbidden : (end packet : ℕ) → Known (Out end packet) → IsForbiddenDelivery firewall end packet → ⊥
not_forbidden end packet known (host, other, linked, there, forbids) =
    elim (link_cases end other linked) [
      | inl joins ↦ elim joins [
        | inl here ↦ let never : Some (Port 0 0) ≡ Some (Host host) = host_at here.1 there in cc
        | inr here ↦
            let found : 0 ≡ host = host_inside (host_at here.0 there) in
            nobody_else packet (subst (λ (h : ℕ). Forbids firewall h packet) (sym found) forbids)
            (subst (λ (e : ℕ). Known (Out e packet)) (sym here.1) known)
      ]
      | inr joins ↦ elim joins [
        | inl here ↦
            let found : 1 ≡ host = host_inside (host_at here.1 there) in
            no_pattern packet (subst (λ (h : ℕ). Forbids firewall h packet) (sym found) forbids)
        | inr here ↦ let never : Some (Port 0 1) ≡ Some (Host host) = host_at here.0 there in cc
      ]
    ]

none_bad : (fact : Fact) → Known fact → IsBad firewall fact → ⊥
none_bad (Out end packet) known bad = not_forbidden end packet known bad
none_bad (State box packet mask) known bad = bad
none_bad (Abort box packet) known bad = known

b_forbidden : Forbids firewall 0 1
b_forbidden = (0, peer (Some 1), lit< tt, refl, record { each = λ k y less fixed. each k y less fixed })
  where
    each : (k y : ℕ) → k < 1 → fixed_at (peer (Some 1)) k ≡ Some y → field_of (2 ∷ []) 1 k ≡ y
    each zero y less fixed = let same : 1 ≡ y = cc in field_is ∙ same
    each (suc k) y less fixed = absurd (omega (arith, less))

pub firewall_is_safe : BodiesAreRead → FormulasAreRead → HeldIsMember → HeldWith → ClosedSetRunsSafely → FirewallIsSafe
firewall_is_safe bodies formulas held held_with law =
    let closed : IsClosed firewall (Contains firewall_facts) = facts_closed bodies formulas held held_with in
    let good : (fact : Fact) → Contains firewall_facts fact → IsBad firewall fact → ⊥ =
    λ fact there. none_bad fact (All-contains Known firewall_facts fact all_known there) in
    record {
      sound = firewall_sound bodies formulas;
      closed = closed;
      good = good;
      other = (
        0,
        0,
        (
          record { one = 0; two = 2 },
          head_contained (record { one = 0; two = 2 }) (record { one = 3; two = 1 } ∷ []),
          inr (refl, refl),
        ),
        refl,
        b_forbidden,
      );
      safe = law firewall firewall_facts (firewall_sound bodies formulas) closed good;
    }
