-- Over ordered channels the two packets come back in turn, so that nothing passes.
use Rattle.std.proofs.Common.{◌≡◌, ℕ, zero, suc, ◌<◌, List, [], ◌∷◌, ◌++◌, Some, refl, sym, ap, subst, ◌∙◌}
use Rattle.std.proofs.Common.{◌⊎◌, inl, inr, arith, lit<}
use Rattle.std.specs.Prelude.{slice_get}
use Rattle.std.specs.List.{Contains}
use Rattle.std.proofs.lemmas.Option.{slice_get_within}
use Rattle.header_set.specs.Headers.{field_of}
use Rattle.box_contents.specs.declared.entry.Entry.{Entry}
use Rattle.box_contents.specs.Contents.{without_entry}
use Rattle.box_handlers.specs.declared.act.Act.{Act}
use Rattle.box_handlers.specs.Body.{Body, Stop, body_of, BodiesAreRead, FormulasAreRead}
use Rattle.box_executions.specs.Environment.{IsChanged}
use Rattle.box_executions.specs.Guard.{IsSatisfied}
use Rattle.box_executions.specs.Execution.{Outcome, Done, Aborted, Emission, after_outputs, InSequence, BodyRuns}
use Rattle.box_executions.specs.Execution.{BranchRuns}
use Rattle.net_plan.specs.declared.plan.BoxPlan.{BoxPlan}
use Rattle.net_plan.specs.declared.plan.ClassPlan.{ClassPlan}
use Rattle.net_plan.specs.declared.fact.Place.TheVariants.{Port}
use Rattle.net_plan.specs.Plan.{Sends}
use Rattle.net_plan.specs.Ends.{IsEndAt}
use Rattle.net_plan.proofs.Rising.{contained_cases, none_contained}
use Rattle.net_plan.proofs.EndLemmas.{host_ends, port_ends}
use Rattle.net_runs.specs.declared.world.Mode.TheVariants.{Ordered}
use Rattle.net_runs.specs.declared.world.Step.{Step}
use Rattle.net_runs.specs.declared.world.Step.TheVariants.{Send, Deliver, Revert}
use Rattle.net_runs.specs.declared.world.Event.{Event}
use Rattle.net_runs.specs.declared.world.Event.TheVariants.{Moved}
use Rattle.net_runs.specs.declared.world.World.{World}
use Rattle.net_runs.specs.World.{Waits, with_waiting, HasContents, with_contents, IsTaken, PutsOut, PutsOutAll}
use Rattle.net_runs.specs.World.{environment_of, Handles, Reacts, IsSend, IsHostDelivery, IsBoxDelivery, IsRevert}
use Rattle.net_runs.specs.World.{Leads, Run, IsBadEvent}
use Rattle.net_examples.specs.Overtaken.{written, at_inlet, at_back, pairer, overtaken, state, seen, SafeInOrder}
use Rattle.net_examples.proofs.BoxLemmas.{field_is, field_is_not}
use Rattle.net_examples.proofs.WireLemmas.{head_is_first}
use Rattle.net_examples.proofs.FirewallLemmas.{one_packet}
use Rattle.net_examples.proofs.ForgetfulSafe.{comes_from}
use Rattle.net_examples.proofs.OvertakenLemmas.{linked_in, linked_round, is_b, is_seen, is_new, inlet_body}
use Rattle.net_examples.proofs.OvertakenLemmas.{back_branches, back_body, env, out, inlet_read, back_read}

inside : {X : Type 0} {x y : X} → Some x ≡ Some y → x ≡ y
inside e = cc

-- a and b, so many times
abbrev pairs : ℕ → List ℕ
pairs zero = []
pairs (suc n) = 0 ∷ 1 ∷ pairs n

one_pair_more : (n : ℕ) → (pairs n ++ 0 ∷ []) ++ 1 ∷ [] ≡ pairs (suc n)
one_pair_more zero = refl
one_pair_more (suc n) = ap (λ (l : List ℕ). 0 ∷ 1 ∷ l) (one_pair_more n)

-- whole pairs go round, and nothing was seen; or a b waits in front of them
abbrev IsWhole : List ℕ → List Entry → Type 0
IsWhole round contents = (n : ℕ) × (round ≡ pairs n) × (contents ≡ [])

abbrev IsHalf : List ℕ → List Entry → Type 0
IsHalf round contents = (n : ℕ) × (round ≡ 1 ∷ pairs n) × ((contents ≡ []) ⊎ (contents ≡ seen))

abbrev AreInTurn : List ℕ → List Entry → Type 0
AreInTurn round contents = IsWhole round contents ⊎ IsHalf round contents

record IsInTurn (world : World) : Type 0 where
  sent : List ℕ
  round : List ℕ
  contents : List Entry
  is : world ≡ state sent round [] contents
  known : AreInTurn round contents

-- what is taken is what p sent, or the head of what goes round
abbrev Takes : ℕ → ℕ → List ℕ → List ℕ → List Entry → World → Type 0
Takes end packet sent round contents left =
    ((end ≡ 2) × (others : List ℕ) × (left ≡ state others round [] contents))
    ⊎ ((end ≡ 5) × (others : List ℕ) × (round ≡ packet ∷ others) × (left ≡ state sent others [] contents))

not_empty : (packet : ℕ) (front rest : List ℕ) → [] ≡ front ++ (packet ∷ rest) → ⊥
not_empty packet [] rest e = cc
not_empty packet (x ∷ front) rest e = cc

takes : (end packet : ℕ) (sent round : List ℕ) (contents : List Entry) (left : World) →
    IsTaken overtaken Ordered end packet (state sent round [] contents) left →
    Takes end packet sent round contents left
takes end packet sent round contents left taken =
    elim (comes_from taken.from end taken.linked) [
      | inl first ↦ inl (
        first.1,
        taken.others,
        taken.leaves ∙ ap (λ (f : ℕ). with_waiting (state sent round [] contents) f taken.others) first.0,
      )
      | inr other ↦ elim other [
        | inl second ↦ inr (
          second.1,
          taken.others,
          heads (inside (sym (ap (slice_get (state sent round [] contents).waiting) second.0) ∙ taken.waits)),
          taken.leaves ∙ ap (λ (f : ℕ). with_waiting (state sent round [] contents) f taken.others) second.0,
        )
        | inr still ↦ absurd (nothing (still sent round contents))
      ]
    ]
  where
    nothing : Waits (state sent round [] contents) taken.from [] → ⊥
    nothing waits =
        not_empty packet taken.takes.front taken.takes.rest
        (inside (sym waits ∙ taken.waits) ∙ taken.takes.stood)

    heads : round ≡ taken.packets → round ≡ packet ∷ taken.others
    heads same =
        same ∙ taken.next.1
        ∙ ap (λ (l : List ℕ). packet ∷ l)
        (sym
        (taken.takes.taken
        ∙ head_is_first packet taken.next.0 taken.takes.front taken.takes.rest
        (sym taken.next.1 ∙ taken.takes.stood) taken.takes.first))

-- the handlers

one_member : {a b : ℕ} → a ∷ [] ≡ b ∷ [] → a ≡ b
one_member e = cc

written_0 : (packet changed : ℕ) → IsChanged (env packet) (written 0) changed → changed ≡ 0
written_0 packet changed is =
    one_packet changed 0 is.in_range (lit< tt) (one_member is.fields ∙ sym field_is_not)

written_1 : (packet changed : ℕ) → IsChanged (env packet) (written 1) changed → changed ≡ 1
written_1 packet changed is =
    one_packet changed 1 is.in_range (lit< tt) (one_member is.fields ∙ sym field_is)

abbrev both_out : List Emission
both_out = out 2 0 ∷ out 2 1 ∷ []

inlet_runs : (packet : ℕ) (contents : List Entry) (choices : List ℕ) (outcome : Outcome) →
    BodyRuns inlet_body (env packet) contents choices outcome [] → outcome ≡ Done contents both_out
inlet_runs packet contents choices outcome runs =
    let last : runs.last ≡ Done contents (out 2 1 ∷ []) =
    runs.second.ends ∙ ap (after_outputs (out 2 runs.second.packet ∷ [])) runs.second.second.0
    ∙ ap (λ (p : ℕ). Done contents (out 2 p ∷ [])) (written_1 packet runs.second.packet runs.second.changed) in
    runs.ends ∙ ap (after_outputs (out 2 runs.packet ∷ [])) last
    ∙ ap (λ (p : ℕ). Done contents (out 2 p ∷ out 2 1 ∷ [])) (written_0 packet runs.packet runs.changed)

not_done : {s : List Entry} {outs : List Emission} → Aborted ≡ Done s outs → ⊥
not_done e = cc

same_contents : {s t : List Entry} {outs others : List Emission} → Done s outs ≡ Done t others → s ≡ t
same_contents e = cc

same_outputs : {s t : List Entry} {outs others : List Emission} → Done s outs ≡ Done t others → outs ≡ others
same_outputs e = cc

-- a branch that is done goes on to the end
ended : (outcome last : Outcome) (mid left : List Entry) (outputs : List Emission) →
    Done mid outputs ≡ Done left [] → last ≡ Done mid [] → outcome ≡ after_outputs outputs last → outcome ≡ Done left []
ended outcome last mid left outputs first second ends =
    ends ∙ ap (after_outputs outputs) second
    ∙ (λ i. Done (same_contents first i) (same_outputs first i ++ []))

a_is_no_b : IsSatisfied (env 0) [] is_b → ⊥
a_is_no_b (inl (same, every)) =
    let never : ◌≡◌ {A = ℕ} 0 1 = sym field_is_not ∙ same in omega (arith, never)
a_is_no_b (inr never) = never

nothing_seen : IsSatisfied (env 0) [] is_seen → ⊥
nothing_seen (inl (same, (there, every))) = let less : there.0 < 0 = there.1 in absurd (omega arith)
nothing_seen (inr never) = never

a_is_new : IsSatisfied (env 0) [] is_new
a_is_new = inl (field_is_not, ((λ there. let less : there.0 < 0 = there.1 in absurd (omega arith)), tt))

a_branch : (choice : ℕ) (others : List ℕ) (outcome : Outcome) →
    InSequence (BranchRuns back_branches (env 0) choice) (BodyRuns Stop (env 0)) [] others outcome [] →
    outcome ≡ Done seen []
a_branch zero others outcome (inl (aborts, ends)) = absurd (a_is_no_b aborts.0)
a_branch zero others outcome (inr goes) = absurd (a_is_no_b goes.first.0)
a_branch (suc zero) others outcome (inl (aborts, ends)) = absurd (nothing_seen aborts.0)
a_branch (suc zero) others outcome (inr goes) = absurd (nothing_seen goes.first.0)
a_branch (suc (suc zero)) others outcome (inl (aborts, ends)) = absurd (not_done aborts.1.0)
a_branch (suc (suc zero)) others outcome (inr goes) =
    ended outcome goes.last goes.mid seen goes.outputs goes.first.1.0 goes.second.0 goes.ends
a_branch (suc (suc (suc choice))) others outcome (inl (never, ends)) = absurd never
a_branch (suc (suc (suc choice))) others outcome (inr goes) = absurd goes.first

a_runs : (choices : List ℕ) (outcome : Outcome) → BodyRuns back_body (env 0) [] choices outcome [] →
    outcome ≡ Done seen []
a_runs choices outcome (inl ((no_b, (no_seen, (no_new, every))), runs)) = absurd (no_new a_is_new)
a_runs choices outcome (inr uses) = a_branch uses.choice uses.others outcome uses.runs

b_is_b : (contents : List Entry) → IsSatisfied (env 1) contents is_b
b_is_b contents = inl (field_is, tt)

b_is_no_a : field_of (2 ∷ []) 1 0 ≡ 0 → ⊥
b_is_no_a same = let never : ◌≡◌ {A = ℕ} 1 0 = sym field_is ∙ same in omega (arith, never)

b_not_seen : (contents : List Entry) → IsSatisfied (env 1) contents is_seen → ⊥
b_not_seen contents (inl (same, more)) = b_is_no_a same
b_not_seen contents (inr never) = never

b_not_new : (contents : List Entry) → IsSatisfied (env 1) contents is_new → ⊥
b_not_new contents (inl (same, more)) = b_is_no_a same
b_not_new contents (inr never) = never

abbrev entry_a : Entry
entry_a = record { relation = 0; tuple = 0 }

b_branch : (contents : List Entry) (choice : ℕ) (others : List ℕ) (outcome : Outcome) →
    InSequence (BranchRuns back_branches (env 1) choice) (BodyRuns Stop (env 1)) contents others outcome [] →
    outcome ≡ Done (without_entry contents entry_a) []
b_branch contents zero others outcome (inl (aborts, ends)) = absurd (not_done aborts.1.0)
b_branch contents zero others outcome (inr goes) =
    ended outcome goes.last goes.mid (without_entry contents entry_a) goes.outputs goes.first.1.0 goes.second.0
    goes.ends
b_branch contents (suc zero) others outcome (inl (aborts, ends)) = absurd (b_not_seen contents aborts.0)
b_branch contents (suc zero) others outcome (inr goes) = absurd (b_not_seen contents goes.first.0)
b_branch contents (suc (suc zero)) others outcome (inl (aborts, ends)) = absurd (b_not_new contents aborts.0)
b_branch contents (suc (suc zero)) others outcome (inr goes) = absurd (b_not_new contents goes.first.0)
b_branch contents (suc (suc (suc choice))) others outcome (inl (never, ends)) = absurd never
b_branch contents (suc (suc (suc choice))) others outcome (inr goes) = absurd goes.first

b_runs : (contents : List Entry) (choices : List ℕ) (outcome : Outcome) →
    BodyRuns back_body (env 1) contents choices outcome [] → outcome ≡ Done (without_entry contents entry_a) []
b_runs contents choices outcome (inl ((no_b, more), runs)) = absurd (no_b (b_is_b contents))
b_runs contents choices outcome (inr uses) = b_branch contents uses.choice uses.others outcome uses.runs

runs_as : (port packet at : ℕ) (contents : List Entry) (choices : List ℕ) (outcome : Outcome) (acts : List Act)
    (body : Body) → slice_get pairer.handlers port ≡ Some acts → body_of acts ≡ body → packet ≡ at →
    Handles overtaken 0 port packet contents choices outcome → BodyRuns body (env at) contents choices outcome []
runs_as port packet at contents choices outcome acts body found read is handles =
    let box : record { name = 103 ∷ []; class = 0; first = [] } ≡ handles.box_plan = inside handles.at_box.numbered in
    let class : pairer ≡ handles.class =
    inside (ap (λ (b : BoxPlan). slice_get overtaken.classes b.class) box ∙ handles.at_box.of_class) in
    let handler : acts ≡ handles.handler =
    inside (sym found ∙ ap (λ (c : ClassPlan). slice_get c.handlers port) class ∙ handles.at_port) in
    subst (λ (p : ℕ). BodyRuns body (environment_of overtaken pairer p) contents choices outcome []) is
    (subst (λ (c : ClassPlan). BodyRuns body (environment_of overtaken c packet) contents choices outcome [])
    (sym class)
    (subst (λ (b : Body). BodyRuns b (environment_of overtaken handles.class packet) contents choices outcome [])
    (ap body_of (sym handler) ∙ read) handles.executes))

-- steps

abbrev Stays : Event → World → Type 0
Stays event new = IsInTurn new × (event ≡ Moved)

nothing_sent : (packet : ℕ) → Sends overtaken 1 packet → ⊥
nothing_sent packet sends = let less : sends.0 < 0 = sends.2 in absurd (omega arith)

sender : (host packet : ℕ) → host < 2 → Sends overtaken host packet → host ≡ 0
sender zero packet less sends = refl
sender (suc zero) packet less sends = absurd (nothing_sent packet sends)
sender (suc (suc host)) packet less sends = absurd (omega (arith, less))

send_stays : (host packet : ℕ) (sent round : List ℕ) (contents : List Entry) (event : Event) (new : World) →
    AreInTurn round contents → IsSend overtaken host packet (state sent round [] contents) event new → Stays event new
send_stays host packet sent round contents event new known leads =
    let place : (host < 2) × (leads.end ≡ host) = (host_ends overtaken leads.end host).0 leads.at_host in
    let first : leads.end ≡ 0 = place.1 ∙ sender host packet place.0 leads.sends in
    let puts : PutsOut overtaken 0 packet (state sent round [] contents) new =
    subst (λ (e : ℕ). PutsOut overtaken e packet (state sent round [] contents) new) first leads.put_out in
    let last = puts.linked 2 linked_in in
    let waits : last.packets ≡ sent = inside (sym last.waits) in (
      record {
        sent = sent ++ packet ∷ [];
        round = round;
        contents = contents;
        is = last.leaves ∙ ap (λ (l : List ℕ). state (l ++ packet ∷ []) round [] contents) waits;
        known = known;
      },
      leads.happens,
    )

no_delivery : (end packet : ℕ) (choices sent round : List ℕ) (contents : List Entry) (event : Event) (new : World) →
    IsHostDelivery overtaken Ordered end packet choices (state sent round [] contents) event new → ⊥
no_delivery end packet choices sent round contents event new leads =
    let place : (leads.host < 2) × (end ≡ leads.host) = (host_ends overtaken end leads.host).0 leads.at_host in
    elim (takes end packet sent round contents new leads.taken) [
      | inl first ↦ let here : end ≡ 2 = first.0 in omega (arith, place.0, place.1, here)
      | inr second ↦ let here : end ≡ 5 = second.0 in omega (arith, place.0, place.1, here)
    ]

-- a pair goes behind what is in turn
pair_behind : (round : List ℕ) (contents : List Entry) → AreInTurn round contents →
    AreInTurn ((round ++ 0 ∷ []) ++ 1 ∷ []) contents
pair_behind round contents (inl (n, is, none)) = inl (
  suc n,
  ap (λ (l : List ℕ). (l ++ 0 ∷ []) ++ 1 ∷ []) is ∙ one_pair_more n,
  none,
)
pair_behind round contents (inr (n, is, some)) = inr (
  suc n,
  ap (λ (l : List ℕ). (l ++ 0 ∷ []) ++ 1 ∷ []) is ∙ ap (λ (l : List ℕ). 1 ∷ l) (one_pair_more n),
  some,
)

there_is : (end : ℕ) → IsEndAt overtaken end (Port 0 2) → end ≡ 4
there_is end there = ((port_ends overtaken end 0 2).0 there).2

-- a packet that is put out on the way round
round_put : (packet end : ℕ) (sent round : List ℕ) (contents : List Entry) (mid : World) →
    IsEndAt overtaken end (Port 0 2) → PutsOut overtaken end packet (state sent round [] contents) mid →
    mid ≡ state sent (round ++ packet ∷ []) [] contents
round_put packet end sent round contents mid there puts =
    let out_there : PutsOut overtaken 4 packet (state sent round [] contents) mid =
    subst (λ (e : ℕ). PutsOut overtaken e packet (state sent round [] contents) mid) (there_is end there) puts in
    let last = out_there.linked 5 linked_round in
    let waits : last.packets ≡ round = inside (sym last.waits) in
    last.leaves ∙ ap (λ (l : List ℕ). state sent (l ++ packet ∷ []) [] contents) waits

heads_same : {x y : ℕ} {xs ys : List ℕ} → x ∷ xs ≡ y ∷ ys → x ≡ y
heads_same e = cc

tails_same : {x y : ℕ} {xs ys : List ℕ} → x ∷ xs ≡ y ∷ ys → xs ≡ ys
tails_same e = cc

not_none : {x : ℕ} {xs : List ℕ} → [] ≡ x ∷ xs → ⊥
not_none e = cc

nothing_left : (contents : List Entry) → (contents ≡ []) ⊎ (contents ≡ seen) → without_entry contents entry_a ≡ []
nothing_left contents (inl none) = ap (λ (l : List Entry). without_entry l entry_a) none
nothing_left contents (inr some) = ap (λ (l : List Entry). without_entry l entry_a) some

module _ (bodies : BodiesAreRead) (formulas : FormulasAreRead) where
  inlet_stays : (packet : ℕ) (others round choices : List ℕ) (contents : List Entry) (outcome : Outcome)
      (event : Event) (new : World) → AreInTurn round contents →
      Handles overtaken 0 0 packet contents choices outcome →
      Reacts overtaken 0 packet outcome (state others round [] contents) event new → Stays event new
  inlet_stays packet others round choices contents outcome event new known handles reacts =
      by
      (subst (λ (o : Outcome). Reacts overtaken 0 packet o (state others round [] contents) event new)
      (inlet_runs packet contents choices outcome
      (runs_as 0 packet packet contents choices outcome at_inlet inlet_body refl (inlet_read bodies formulas) refl
      handles))
      reacts)
    where
      by : (event ≡ Moved) × PutsOutAll overtaken 0 both_out (state others round [] contents) new → Stays event new
      by (happens, (end, mid, there, puts, (next, later, too, more, same))) =
          let first : mid ≡ state others (round ++ 0 ∷ []) [] contents =
          round_put 0 end others round contents mid there puts in
          let second : later ≡ state others ((round ++ 0 ∷ []) ++ 1 ∷ []) [] contents =
          round_put 1 next others (round ++ 0 ∷ []) contents later too
          (subst (λ (w : World). PutsOut overtaken next 1 w later) first more) in (
            record {
              sent = others;
              round = (round ++ 0 ∷ []) ++ 1 ∷ [];
              contents = contents;
              is = same ∙ second;
              known = pair_behind round contents known;
            },
            happens,
          )

  back_stays : (packet : ℕ) (sent others round choices : List ℕ) (contents : List Entry) (outcome : Outcome)
      (event : Event) (new : World) → AreInTurn round contents → round ≡ packet ∷ others →
      Handles overtaken 0 3 packet contents choices outcome →
      Reacts overtaken 0 packet outcome (state sent others [] contents) event new → Stays event new
  back_stays packet sent others round choices contents outcome event new (inl (zero, is, none)) heads handles reacts =
      absurd (not_none (sym is ∙ heads))
  back_stays packet sent others round choices contents outcome event new (inl (suc n, is, none)) heads handles reacts =
      let turn : 0 ∷ 1 ∷ pairs n ≡ packet ∷ others = sym is ∙ heads in
      let ends : outcome ≡ Done seen [] =
      a_runs choices outcome
      (subst (λ (l : List Entry). BodyRuns back_body (env 0) l choices outcome []) none
      (runs_as 3 packet 0 contents choices outcome at_back back_body refl (back_read bodies formulas)
      (sym (heads_same turn)) handles)) in
      let after : Reacts overtaken 0 packet (Done seen []) (state sent others [] contents) event new =
      subst (λ (o : Outcome). Reacts overtaken 0 packet o (state sent others [] contents) event new) ends reacts in (
        record {
          sent = sent;
          round = others;
          contents = seen;
          is = after.1;
          known = inr (n, sym (tails_same turn), inr refl);
        },
        after.0,
      )
  back_stays packet sent others round choices contents outcome event new (inr (n, is, some)) heads handles reacts =
      let turn : 1 ∷ pairs n ≡ packet ∷ others = sym is ∙ heads in
      let ends : outcome ≡ Done [] [] =
      b_runs contents choices outcome
      (runs_as 3 packet 1 contents choices outcome at_back back_body refl (back_read bodies formulas)
      (sym (heads_same turn)) handles)
      ∙ ap (λ (l : List Entry). Done l []) (nothing_left contents some) in
      let after : Reacts overtaken 0 packet (Done [] []) (state sent others [] contents) event new =
      subst (λ (o : Outcome). Reacts overtaken 0 packet o (state sent others [] contents) event new) ends reacts in (
        record {
          sent = sent;
          round = others;
          contents = [];
          is = after.1;
          known = inl (n, sym (tails_same turn), refl);
        },
        after.0,
      )

  port_inside : {one two port other : ℕ} → Some (Port one port) ≡ Some (Port two other) →
      (one ≡ two) × (port ≡ other)
  port_inside e = (cc, cc)

  box_stays : (end packet : ℕ) (choices sent round : List ℕ) (contents : List Entry) (event : Event) (new : World) →
      AreInTurn round contents →
      IsBoxDelivery overtaken Ordered end packet choices (state sent round [] contents) event new → Stays event new
  box_stays end packet choices sent round contents event new known leads =
      elim (takes end packet sent round contents leads.left leads.taken) [
        | inl (here, others, left) ↦
            let place : (0 ≡ leads.box) × (0 ≡ leads.port) = port_inside (at 2 here) in
            inlet_stays packet others round choices contents leads.outcome event new known
            (handled 0 (sym place.0) (sym place.1) (sym (has_now place.0)))
            (reacted (state others round [] contents) (sym place.0) left)
        | inr (here, others, heads, left) ↦
            let place : (0 ≡ leads.box) × (3 ≡ leads.port) = port_inside (at 5 here) in
            back_stays packet sent others round choices contents leads.outcome event new known heads
            (handled 3 (sym place.0) (sym place.1) (sym (has_now place.0)))
            (reacted (state sent others [] contents) (sym place.0) left)
      ]
    where
      at : (other : ℕ) → end ≡ other → IsEndAt overtaken other (Port leads.box leads.port)
      at other e = subst (λ (n : ℕ). IsEndAt overtaken n (Port leads.box leads.port)) e leads.at_port

      has_now : 0 ≡ leads.box → contents ≡ leads.contents
      has_now e =
          inside (subst (λ (b : ℕ). HasContents (state sent round [] contents) b leads.contents) (sym e) leads.has)

      handled : (port : ℕ) → leads.box ≡ 0 → leads.port ≡ port → leads.contents ≡ contents →
          Handles overtaken 0 port packet contents choices leads.outcome
      handled port e same alike =
          subst (λ (b : ℕ). Handles overtaken b port packet contents choices leads.outcome) e
          (subst (λ (n : ℕ). Handles overtaken leads.box n packet contents choices leads.outcome) same
          (subst (λ (l : List Entry). Handles overtaken leads.box leads.port packet l choices leads.outcome) alike
          leads.handles))

      reacted : (world : World) → leads.box ≡ 0 → leads.left ≡ world →
          Reacts overtaken 0 packet leads.outcome world event new
      reacted world e same =
          subst (λ (b : ℕ). Reacts overtaken b packet leads.outcome world event new) e
          (subst (λ (w : World). Reacts overtaken leads.box packet leads.outcome w event new) same leads.reacts)

  -- a revert forgets what was seen
  forgotten : (round : List ℕ) (contents : List Entry) → AreInTurn round contents → AreInTurn round []
  forgotten round contents (inl (n, is, none)) = inl (n, is, refl)
  forgotten round contents (inr (n, is, some)) = inr (n, is, inl refl)

  revert_stays : (box : ℕ) (sent round : List ℕ) (contents : List Entry) (event : Event) (new : World) →
      AreInTurn round contents → IsRevert overtaken box (state sent round [] contents) event new → Stays event new
  revert_stays box sent round contents event new known leads =
      let less : box < 1 = slice_get_within overtaken.boxes box leads.box_plan leads.numbered in
      let first : box ≡ 0 = omega (arith, less) in
      let plan : record { name = 103 ∷ []; class = 0; first = [] } ≡ leads.box_plan =
      inside (ap (slice_get overtaken.boxes) (sym first) ∙ leads.numbered) in (
        record {
          sent = sent;
          round = round;
          contents = [];
          is = leads.leaves
              ∙ (λ i. with_contents (state sent round [] contents) (first i) (sym plan i).first);
          known = forgotten round contents known;
        },
        leads.happens,
      )

  step_stays : (old new : World) (step : Step) (event : Event) → IsInTurn old →
      Leads overtaken Ordered old step event new → Stays event new
  step_stays old new (Send host packet) event turn leads =
      send_stays host packet turn.sent turn.round turn.contents event new turn.known
      (subst (λ (w : World). IsSend overtaken host packet w event new) turn.is leads)
  step_stays old new (Deliver end packet choices) event turn (inl leads) =
      absurd
      (no_delivery end packet choices turn.sent turn.round turn.contents event new
      (subst (λ (w : World). IsHostDelivery overtaken Ordered end packet choices w event new) turn.is leads))
  step_stays old new (Deliver end packet choices) event turn (inr leads) =
      box_stays end packet choices turn.sent turn.round turn.contents event new turn.known
      (subst (λ (w : World). IsBoxDelivery overtaken Ordered end packet choices w event new) turn.is leads)
  step_stays old new (Revert box) event turn leads =
      revert_stays box turn.sent turn.round turn.contents event new turn.known
      (subst (λ (w : World). IsRevert overtaken box w event new) turn.is leads)

  runs_safely : (steps : List Step) (events : List Event) (old new : World) → IsInTurn old →
      Run overtaken Ordered old steps events new → (event : Event) → Contains events event → event ≡ Moved
  runs_safely [] events old new turn runs event there =
      absurd (none_contained event (subst (λ (l : List Event). Contains l event) runs.0 there))
  runs_safely (step ∷ steps) events old new turn (first, others, mid, same, leads, runs) event there =
      let stays : Stays first mid = step_stays old mid step first turn leads in
      elim (contained_cases first event others (subst (λ (l : List Event). Contains l event) same there)) [
        | inl here ↦ sym here ∙ stays.1
        | inr later ↦ runs_safely steps others mid new stays.0 runs event later
      ]

  pub safe_in_order : SafeInOrder
  safe_in_order steps events new runs event there bad =
      let moved : event ≡ Moved =
      runs_safely steps events (state [] [] [] []) new
      (record { sent = []; round = []; contents = []; is = refl; known = inl (0, refl, refl) }) runs event there in
      subst (IsBadEvent overtaken) moved bad
