-- Without a revert the box blocks what goes round, so that nothing passes.
use Rattle.std.proofs.Common.{◌≡◌, ℕ, zero, suc, ◌<◌, List, [], ◌∷◌, ◌++◌, Some, refl, sym, ap, subst, ◌∙◌, ◌⊎◌}
use Rattle.std.proofs.Common.{inl, inr, arith}
use Rattle.std.specs.Prelude.{slice_get}
use Rattle.std.specs.List.{All, Contains}
use Rattle.std.proofs.lemmas.List.Elements.{All-head, All-tail}
use Rattle.box_contents.specs.declared.entry.Entry.{Entry}
use Rattle.box_contents.specs.Contents.{with_entry}
use Rattle.box_handlers.specs.declared.act.Act.{Act}
use Rattle.box_handlers.specs.Body.{Body, Stop, Emit, NoBranch, OneBranch, body_of, BodiesAreRead, FormulasAreRead}
use Rattle.box_executions.specs.Guard.{IsSatisfied}
use Rattle.box_executions.specs.Execution.{Outcome, Done, after_outputs, InSequence, BodyRuns, BranchRuns}
use Rattle.net_plan.specs.declared.plan.BoxPlan.{BoxPlan}
use Rattle.net_plan.specs.declared.plan.ClassPlan.{ClassPlan}
use Rattle.net_plan.specs.declared.plan.LinkPlan.{LinkPlan}
use Rattle.net_plan.specs.declared.fact.Place.TheVariants.{Port}
use Rattle.net_plan.specs.Plan.{Sends}
use Rattle.net_plan.specs.Ends.{IsEndAt, Joins, IsLinked}
use Rattle.net_plan.proofs.Rising.{contained_cases, none_contained, head_contained}
use Rattle.net_plan.proofs.EndLemmas.{host_ends, port_ends}
use Rattle.net_runs.specs.declared.world.Mode.{Mode}
use Rattle.net_runs.specs.declared.world.Step.{Step}
use Rattle.net_runs.specs.declared.world.Step.TheVariants.{Send, Deliver, Revert}
use Rattle.net_runs.specs.declared.world.Event.{Event}
use Rattle.net_runs.specs.declared.world.Event.TheVariants.{Moved}
use Rattle.net_runs.specs.declared.world.World.{World}
use Rattle.net_runs.specs.World.{Waits, with_waiting, HasContents, IsTaken, PutsOut, PutsOutAll}
use Rattle.net_runs.specs.World.{environment_of, Handles, Reacts, IsSend, IsHostDelivery, IsBoxDelivery, Leads, Run}
use Rattle.net_runs.specs.World.{IsBadEvent}
use Rattle.net_examples.specs.Forgetful.{at_inlet, at_back, blocker, forgetful, state, blocked_a}
use Rattle.net_examples.specs.Forgetful.{IsNoRevert, SafeWithoutReverts}
use Rattle.net_examples.proofs.ForgetfulLemmas.{sent_link, passed_link, round_link, sent_linked, round_linked, guard}
use Rattle.net_examples.proofs.ForgetfulLemmas.{inlet_body, back_body, env, out, entry_is, inlet_read, back_read}

inside : {X : Type 0} {x y : X} → Some x ≡ Some y → x ≡ y
inside e = cc

-- what g has, once something goes round
abbrev IsKnown : List ℕ → List Entry → Type 0
IsKnown round contents = (contents ≡ blocked_a) ⊎ ((contents ≡ []) × (round ≡ []))

-- nothing waits but at p and on the way round, where g blocks it
record IsQuiet (world : World) : Type 0 where
  sent : List ℕ
  round : List ℕ
  contents : List Entry
  is : world ≡ state sent round [] contents
  known : IsKnown round contents

-- links

-- nothing waits out of this end
abbrev pub IsStill : ℕ → Type 0
IsStill from = (sent round : List ℕ) (contents : List Entry) → Waits (state sent round [] contents) from []

abbrev pub ComesFrom : ℕ → ℕ → Type 0
ComesFrom from end = ((from ≡ 0) × (end ≡ 2)) ⊎ (((from ≡ 4) × (end ≡ 5)) ⊎ IsStill from)

still_at : (from at : ℕ) → at ≡ from → IsStill at → IsStill from
still_at from at e still = subst IsStill e still

joined : (one two from end : ℕ) → Joins (record { one = one; two = two }) from end →
    ComesFrom one two → IsStill two → ComesFrom from end
joined one two from end (inl here) (inl first) still = inl (sym here.0 ∙ first.0, sym here.1 ∙ first.1)
joined one two from end (inl here) (inr (inl first)) still = inr (inl (sym here.0 ∙ first.0, sym here.1 ∙ first.1))
joined one two from end (inl here) (inr (inr first)) still = inr (inr (still_at from one here.0 first))
joined one two from end (inr here) first still = inr (inr (still_at from two here.1 still))

pub comes_from : (from end : ℕ) → IsLinked forgetful from end → ComesFrom from end
comes_from from end linked =
    elim (contained_cases sent_link linked.0 (passed_link ∷ round_link ∷ []) linked.1) [
      | inl same ↦ joined 0 2 from end (moved sent_link same) (inl (refl, refl)) (λ _ _ _. refl)
      | inr later ↦ elim (contained_cases passed_link linked.0 (round_link ∷ []) later) [
        | inl same ↦ joined 3 1 from end (moved passed_link same) (inr (inr (λ _ _ _. refl))) (λ _ _ _. refl)
        | inr last ↦ elim (contained_cases round_link linked.0 [] last) [
          | inl same ↦ joined 4 5 from end (moved round_link same) (inr (inl (refl, refl))) (λ _ _ _. refl)
          | inr none ↦ absurd (none_contained linked.0 none)
        ]
      ]
    ]
  where
    moved : (link : LinkPlan) → link ≡ linked.0 → Joins link from end
    moved link same = subst (λ (l : LinkPlan). Joins l from end) (sym same) linked.2

-- what is taken is what p sent, or what goes round
abbrev Takes : ℕ → List ℕ → List ℕ → List Entry → World → Type 0
Takes end sent round contents left =
    ((end ≡ 2) × (others : List ℕ) × (left ≡ state others round [] contents))
    ⊎ ((end ≡ 5) × (round ≡ [] → ⊥) × (others : List ℕ) × (left ≡ state sent others [] contents))

not_empty : (packet : ℕ) (front rest : List ℕ) → [] ≡ front ++ (packet ∷ rest) → ⊥
not_empty packet [] rest e = cc
not_empty packet (x ∷ front) rest e = cc

takes : (mode : Mode) (end packet : ℕ) (sent round : List ℕ) (contents : List Entry) (left : World) →
    IsTaken forgetful mode end packet (state sent round [] contents) left → Takes end sent round contents left
takes mode end packet sent round contents left taken =
    elim (comes_from taken.from end taken.linked) [
      | inl first ↦ inl (
        first.1,
        taken.others,
        taken.leaves ∙ ap (λ (f : ℕ). with_waiting (state sent round [] contents) f taken.others) first.0,
      )
      | inr other ↦ elim other [
        | inl second ↦ inr (
          second.1,
          λ none. nothing (ap (slice_get (state sent round [] contents).waiting) second.0 ∙ ap Some none),
          taken.others,
          taken.leaves ∙ ap (λ (f : ℕ). with_waiting (state sent round [] contents) f taken.others) second.0,
        )
        | inr still ↦ absurd (nothing (still sent round contents))
      ]
    ]
  where
    nothing : Waits (state sent round [] contents) taken.from [] → ⊥
    nothing waits =
        not_empty packet taken.takes.front taken.takes.rest
        (inside (sym waits ∙ taken.waits) ∙ taken.takes.stood)

-- the handlers

no_less : (packet : ℕ) → packet < 1 → packet ≡ 0
no_less packet less = omega (arith, less)

abbrev entry_a : Entry
entry_a = record { relation = 0; tuple = 0 }

inlet_runs : (contents : List Entry) (choices : List ℕ) (outcome : Outcome) →
    BodyRuns inlet_body env contents choices outcome [] → outcome ≡ Done (with_entry contents entry_a) (out 2 ∷ [])
inlet_runs contents choices outcome runs =
    let packet : runs.packet ≡ 0 = no_less runs.packet runs.changed.in_range in
    runs.ends ∙ ap (after_outputs (record { port = 2; packet = runs.packet } ∷ [])) runs.second.0
    ∙ (λ i. Done (with_entry contents (entry_is i)) (record { port = 2; packet = packet i } ∷ []))

still_denied : IsSatisfied env blocked_a guard → ⊥
still_denied (inl (denied, every)) =
    denied (subst (Contains blocked_a) (sym entry_is) (head_contained entry_a []))
still_denied (inr never) = never

back_branch : (choice : ℕ) (others : List ℕ) (outcome : Outcome) →
    InSequence (BranchRuns (OneBranch guard (Emit 1 [] Stop) NoBranch) env choice) (BodyRuns Stop env) blocked_a others
    outcome [] → ⊥
back_branch zero others outcome (inl (aborts, ends)) = still_denied aborts.0
back_branch zero others outcome (inr goes) = still_denied goes.first.0
back_branch (suc choice) others outcome (inl (never, ends)) = never
back_branch (suc choice) others outcome (inr goes) = goes.first

back_runs : (choices : List ℕ) (outcome : Outcome) → BodyRuns back_body env blocked_a choices outcome [] →
    outcome ≡ Done blocked_a []
back_runs choices outcome (inl (none, runs)) = runs.0
back_runs choices outcome (inr uses) = absurd (back_branch uses.choice uses.others outcome uses.runs)

runs_as : (port packet : ℕ) (contents : List Entry) (choices : List ℕ) (outcome : Outcome) (acts : List Act)
    (body : Body) → slice_get blocker.handlers port ≡ Some acts → body_of acts ≡ body → packet ≡ 0 →
    Handles forgetful 0 port packet contents choices outcome → BodyRuns body env contents choices outcome []
runs_as port packet contents choices outcome acts body found read first handles =
    let box : record { name = 103 ∷ []; class = 0; first = [] } ≡ handles.box_plan = inside handles.at_box.numbered in
    let class : blocker ≡ handles.class =
    inside (ap (λ (b : BoxPlan). slice_get forgetful.classes b.class) box ∙ handles.at_box.of_class) in
    let handler : acts ≡ handles.handler =
    inside (sym found ∙ ap (λ (c : ClassPlan). slice_get c.handlers port) class ∙ handles.at_port) in
    subst (λ (p : ℕ). BodyRuns body (environment_of forgetful blocker p) contents choices outcome []) first
    (subst (λ (c : ClassPlan). BodyRuns body (environment_of forgetful c packet) contents choices outcome []) (sym class)
    (subst (λ (b : Body). BodyRuns b (environment_of forgetful handles.class packet) contents choices outcome [])
    (ap body_of (sym handler) ∙ read) handles.executes))

-- steps

abbrev Stays : Event → World → Type 0
Stays event new = IsQuiet new × (event ≡ Moved)

nothing_sent : (packet : ℕ) → Sends forgetful 1 packet → ⊥
nothing_sent packet sends = let less : sends.0 < 0 = sends.2 in absurd (omega arith)

sender : (host packet : ℕ) → host < 2 → Sends forgetful host packet → host ≡ 0
sender zero packet less sends = refl
sender (suc zero) packet less sends = absurd (nothing_sent packet sends)
sender (suc (suc host)) packet less sends = absurd (omega (arith, less))

send_stays : (host packet : ℕ) (sent round : List ℕ) (contents : List Entry) (event : Event) (new : World) →
    IsKnown round contents → IsSend forgetful host packet (state sent round [] contents) event new → Stays event new
send_stays host packet sent round contents event new known leads =
    let place : (host < 2) × (leads.end ≡ host) = (host_ends forgetful leads.end host).0 leads.at_host in
    let first : leads.end ≡ 0 = place.1 ∙ sender host packet place.0 leads.sends in
    let puts : PutsOut forgetful 0 packet (state sent round [] contents) new =
    subst (λ (e : ℕ). PutsOut forgetful e packet (state sent round [] contents) new) first leads.put_out in
    let last = puts.linked 2 sent_linked in
    let waits : last.packets ≡ sent = inside (sym last.waits) in (
      record {
        sent = sent ++ packet ∷ [];
        round = round;
        contents = contents;
        is = last.leaves ∙ ap (λ (l : List ℕ). state (l ++ packet ∷ []) round [] contents) waits;
        known = known;
      },
      leads.happens,
    )

no_delivery : (mode : Mode) (end packet : ℕ) (choices sent round : List ℕ) (contents : List Entry) (event : Event)
    (new : World) → IsHostDelivery forgetful mode end packet choices (state sent round [] contents) event new → ⊥
no_delivery mode end packet choices sent round contents event new leads =
    let place : (leads.host < 2) × (end ≡ leads.host) = (host_ends forgetful end leads.host).0 leads.at_host in
    elim (takes mode end packet sent round contents new leads.taken) [
      | inl first ↦ let here : end ≡ 2 = first.0 in omega (arith, place.0, place.1, here)
      | inr second ↦ let here : end ≡ 5 = second.0 in omega (arith, place.0, place.1, here)
    ]

blocked_then : (round : List ℕ) (contents : List Entry) → IsKnown round contents →
    with_entry contents entry_a ≡ blocked_a
blocked_then round contents (inl same) = ap (λ (l : List Entry). with_entry l entry_a) same
blocked_then round contents (inr none) = ap (λ (l : List Entry). with_entry l entry_a) none.0

blocked_now : (round : List ℕ) (contents : List Entry) → IsKnown round contents → (round ≡ [] → ⊥) →
    contents ≡ blocked_a
blocked_now round contents (inl same) some = same
blocked_now round contents (inr none) some = absurd (some none.1)

there_is : (end : ℕ) → IsEndAt forgetful end (Port 0 2) → end ≡ 4
there_is end there = ((port_ends forgetful end 0 2).0 there).2

module _ (bodies : BodiesAreRead) (formulas : FormulasAreRead) where
  -- a packet that comes in goes round
  inlet_stays : (packet : ℕ) (others round choices : List ℕ) (contents : List Entry) (outcome : Outcome)
      (event : Event) (new : World) → IsKnown round contents → packet ≡ 0 →
      Handles forgetful 0 0 packet contents choices outcome →
      Reacts forgetful 0 packet outcome (state others round [] contents) event new → Stays event new
  inlet_stays packet others round choices contents outcome event new known first handles reacts =
      let ends : outcome ≡ Done blocked_a (out 2 ∷ []) =
      inlet_runs contents choices outcome
      (runs_as 0 packet contents choices outcome at_inlet inlet_body refl (inlet_read bodies formulas) first handles)
      ∙ ap (λ (l : List Entry). Done l (out 2 ∷ [])) (blocked_then round contents known) in
      let after : Reacts forgetful 0 packet (Done blocked_a (out 2 ∷ [])) (state others round [] contents) event new =
      subst (λ (o : Outcome). Reacts forgetful 0 packet o (state others round [] contents) event new) ends reacts in
      by after
    where
      by : (event ≡ Moved)
          × PutsOutAll forgetful 0 (out 2 ∷ []) (state others round [] blocked_a) new →
          Stays event new
      by (happens, (end, mid, there, puts, same)) =
          let out_there : PutsOut forgetful 4 0 (state others round [] blocked_a) mid =
          subst (λ (e : ℕ). PutsOut forgetful e 0 (state others round [] blocked_a) mid) (there_is end there) puts in
          let last = out_there.linked 5 round_linked in
          let waits : last.packets ≡ round = inside (sym last.waits) in (
            record {
              sent = others;
              round = round ++ 0 ∷ [];
              contents = blocked_a;
              is = same ∙ last.leaves ∙ ap (λ (l : List ℕ). state others (l ++ 0 ∷ []) [] blocked_a) waits;
              known = inl refl;
            },
            happens,
          )

  -- and is dropped when it comes back
  back_stays : (packet : ℕ) (sent others choices : List ℕ) (outcome : Outcome) (event : Event) (new : World) →
      packet ≡ 0 → Handles forgetful 0 3 packet blocked_a choices outcome →
      Reacts forgetful 0 packet outcome (state sent others [] blocked_a) event new → Stays event new
  back_stays packet sent others choices outcome event new first handles reacts =
      let ends : outcome ≡ Done blocked_a [] =
      back_runs choices outcome
      (runs_as 3 packet blocked_a choices outcome at_back back_body refl (back_read bodies formulas) first handles) in
      let after : Reacts forgetful 0 packet (Done blocked_a []) (state sent others [] blocked_a) event new =
      subst (λ (o : Outcome). Reacts forgetful 0 packet o (state sent others [] blocked_a) event new) ends reacts in (
        record { sent = sent; round = others; contents = blocked_a; is = after.1; known = inl refl },
        after.0,
      )

  port_inside : {one two port other : ℕ} → Some (Port one port) ≡ Some (Port two other) →
      (one ≡ two) × (port ≡ other)
  port_inside e = (cc, cc)

  box_stays : (mode : Mode) (end packet : ℕ) (choices sent round : List ℕ) (contents : List Entry) (event : Event)
      (new : World) → IsKnown round contents →
      IsBoxDelivery forgetful mode end packet choices (state sent round [] contents) event new → Stays event new
  box_stays mode end packet choices sent round contents event new known leads =
      elim (takes mode end packet sent round contents leads.left leads.taken) [
        | inl (here, others, left) ↦
            let place : (0 ≡ leads.box) × (0 ≡ leads.port) = port_inside (at 2 here) in
            inlet_stays packet others round choices contents leads.outcome event new known first
            (handled 0 contents (sym place.0) (sym place.1) (sym (has_now place.0)))
            (reacted (state others round [] contents) (sym place.0) left)
        | inr (here, some, others, left) ↦
            let place : (0 ≡ leads.box) × (3 ≡ leads.port) = port_inside (at 5 here) in
            let now : contents ≡ blocked_a = blocked_now round contents known some in
            back_stays packet sent others choices leads.outcome event new first
            (handled 3 blocked_a (sym place.0) (sym place.1) (sym (has_now place.0) ∙ now))
            (reacted (state sent others [] blocked_a) (sym place.0)
            (left ∙ ap (λ (l : List Entry). state sent others [] l) now))
      ]
    where
      first : packet ≡ 0
      first = no_less packet leads.packet_in_range

      at : (other : ℕ) → end ≡ other → IsEndAt forgetful other (Port leads.box leads.port)
      at other e = subst (λ (n : ℕ). IsEndAt forgetful n (Port leads.box leads.port)) e leads.at_port

      has_now : 0 ≡ leads.box → contents ≡ leads.contents
      has_now e =
          inside (subst (λ (b : ℕ). HasContents (state sent round [] contents) b leads.contents) (sym e) leads.has)

      handled : (port : ℕ) (now : List Entry) → leads.box ≡ 0 → leads.port ≡ port → leads.contents ≡ now →
          Handles forgetful 0 port packet now choices leads.outcome
      handled port now e same alike =
          subst (λ (b : ℕ). Handles forgetful b port packet now choices leads.outcome) e
          (subst (λ (n : ℕ). Handles forgetful leads.box n packet now choices leads.outcome) same
          (subst (λ (l : List Entry). Handles forgetful leads.box leads.port packet l choices leads.outcome) alike
          leads.handles))

      reacted : (world : World) → leads.box ≡ 0 → leads.left ≡ world →
          Reacts forgetful 0 packet leads.outcome world event new
      reacted world e same =
          subst (λ (b : ℕ). Reacts forgetful b packet leads.outcome world event new) e
          (subst (λ (w : World). Reacts forgetful leads.box packet leads.outcome w event new) same leads.reacts)

  step_stays : (mode : Mode) (old new : World) (step : Step) (event : Event) → IsNoRevert step → IsQuiet old →
      Leads forgetful mode old step event new → Stays event new
  step_stays mode old new (Send host packet) event none quiet leads =
      send_stays host packet quiet.sent quiet.round quiet.contents event new quiet.known
      (subst (λ (w : World). IsSend forgetful host packet w event new) quiet.is leads)
  step_stays mode old new (Deliver end packet choices) event none quiet (inl leads) =
      absurd
      (no_delivery mode end packet choices quiet.sent quiet.round quiet.contents event new
      (subst (λ (w : World). IsHostDelivery forgetful mode end packet choices w event new) quiet.is leads))
  step_stays mode old new (Deliver end packet choices) event none quiet (inr leads) =
      box_stays mode end packet choices quiet.sent quiet.round quiet.contents event new quiet.known
      (subst (λ (w : World). IsBoxDelivery forgetful mode end packet choices w event new) quiet.is leads)
  step_stays mode old new (Revert box) event none quiet leads = absurd none

  runs_safely : (mode : Mode) (steps : List Step) (events : List Event) (old new : World) → All IsNoRevert steps →
      IsQuiet old → Run forgetful mode old steps events new → (event : Event) → Contains events event → event ≡ Moved
  runs_safely mode [] events old new none quiet runs event there =
      absurd (none_contained event (subst (λ (l : List Event). Contains l event) runs.0 there))
  runs_safely mode (step ∷ steps) events old new none quiet (first, others, mid, same, leads, runs) event there =
      let stays : Stays first mid =
      step_stays mode old mid step first (All-head IsNoRevert step steps none) quiet leads in
      elim (contained_cases first event others (subst (λ (l : List Event). Contains l event) same there)) [
        | inl here ↦ sym here ∙ stays.1
        | inr later ↦
            runs_safely mode steps others mid new (All-tail IsNoRevert step steps none) stays.0 runs event later
      ]

  pub safe_without_reverts : SafeWithoutReverts
  safe_without_reverts mode steps events new none runs event there bad =
      let moved : event ≡ Moved =
      runs_safely mode steps events (state [] [] [] []) new none
      (record { sent = []; round = []; contents = []; is = refl; known = inr (refl, refl) }) runs event there in
      subst (IsBadEvent forgetful) moved bad
