-- A closed set of facts covers what a run leads to.
use Rattle.std.proofs.Common.{◌≡◌, ℕ, ◌<◌, List, [], ◌∷◌, ◌++◌, length, Some, refl, sym, ap, subst, ◌∙◌}
use Rattle.std.proofs.Common.{inl, inr, arith}
use Rattle.std.specs.Prelude.{slice_get}
use Rattle.std.specs.List.{Contains}
use Rattle.std.specs.Option.{option_map}
use Rattle.std.proofs.lemmas.Option.{slice_get-map, slice_get-get_or, slice_get_within}
use Rattle.std.proofs.lemmas.List.{length-map}
use Rattle.std.proofs.lemmas.List.Elements.{All-nil, All-cons, Contains-push_cases}
use Rattle.box_contents.specs.declared.entry.Entry.{Entry}
use Rattle.box_executions.specs.Execution.{Emission, Outcome}
use Rattle.box_executions.specs.Shape.{AreContents}
use Rattle.net_plan.specs.declared.plan.Plan.{Plan}
use Rattle.net_plan.specs.declared.plan.BoxPlan.{BoxPlan}
use Rattle.net_plan.specs.declared.plan.ClassPlan.{ClassPlan}
use Rattle.net_plan.specs.declared.fact.Fact.{Fact}
use Rattle.net_plan.specs.declared.fact.Fact.TheVariants.{Out, State, Abort}
use Rattle.net_plan.specs.declared.fact.Place.TheVariants.{Port}
use Rattle.net_plan.specs.Plan.{packets_of, boxes_of, box_at}
use Rattle.net_plan.specs.Ends.{ends_of, IsEndAt}
use Rattle.net_plan.proofs.Rising.{none_contained, head_contained, tail_contained}
use Rattle.net_plan.proofs.Linked.{link_or_none}
use Rattle.net_runs.specs.declared.world.Mode.{Mode}
use Rattle.net_runs.specs.declared.world.Step.{Step}
use Rattle.net_runs.specs.declared.world.Step.TheVariants.{Send, Deliver, Revert}
use Rattle.net_runs.specs.declared.world.Event.{Event}
use Rattle.net_runs.specs.declared.world.World.{World}
use Rattle.net_runs.specs.World.{first_world, HasContents, with_contents, relations_of}
use Rattle.net_runs.specs.World.{IsWorld, IsTaken, PutsOut, IsSend, PutsOutAll, Reacts, IsBoxDelivery, IsRevert}
use Rattle.net_runs.specs.World.{Leads}
use Rattle.packet_state.proofs.ListLemmas.{some_inside, set_cases, all_alike, stood, stood_too, box_found, class_found}
use Rattle.packet_state.specs.Answers.{answers}
use Rattle.packet_state.specs.Follows.{Meets}
use Rattle.packet_state.specs.Covers.{Covers, IsClosed}
use Rattle.packet_state.specs.Laws.{CoverIsKept}

-- a box of a well shaped state meets a packet that waits towards one of its ports
pub delivery_meets : (plan : Plan) (mode : Mode) (end packet : ℕ) (choices : List ℕ) (old new : World) (event : Event) →
    IsWorld plan old → (leads : IsBoxDelivery plan mode end packet choices old event new) →
    Meets plan leads.taken.from packet leads.box (answers plan leads.box packet leads.contents) leads.contents
    leads.outcome
delivery_meets plan mode end packet choices old new event is leads = record {
  packet_in_range = leads.packet_in_range;
  other = end;
  port = leads.port;
  linked = leads.taken.linked;
  at_port = leads.at_port;
  contents_fit = subst (λ (class : ClassPlan). AreContents (relations_of plan class) leads.contents)
      (sym (class_found plan leads.box leads.handles.box_plan leads.handles.class leads.handles.at_box))
      (is.contents_fit leads.box leads.handles.box_plan leads.handles.class leads.contents leads.handles.at_box
      leads.has);
  answered = refl;
  choices = choices;
  handles = leads.handles;
}

module _ (plan : Plan) (known : Fact → Type 0) (closed : IsClosed plan known) where
  -- the first contents of a box have their answers in the set
  first_known : (box packet : ℕ) (contents : List Entry) → box < boxes_of plan → packet < packets_of plan →
      (box_at plan box).first ≡ contents → known (State box packet (answers plan box packet contents))
  first_known box packet contents less within same =
      closed [] (State box packet (answers plan box packet contents)) (All-nil known)
      (record {
        box_in_range = less;
        packet_in_range = within;
        answered = ap (answers plan box packet) same;
      })

  first_answered : (box packet : ℕ) (contents : List Entry) → packet < packets_of plan →
      HasContents (first_world plan) box contents → known (State box packet (answers plan box packet contents))
  first_answered box packet contents within has =
      let below : box < length (first_world plan).contents =
      slice_get_within (first_world plan).contents box contents has in
      let long : length (first_world plan).contents ≡ boxes_of plan =
      length-map plan.boxes (λ (one : BoxPlan). one.first) in
      let less : box < boxes_of plan = omega (arith, below, long) in
      let found : slice_get plan.boxes box ≡ Some (box_at plan box) =
      slice_get-get_or plan.boxes box (record { name = []; class = 0; first = [] }) less in
      first_known box packet contents less within
      (some_inside
      (sym (ap (option_map (λ (one : BoxPlan). one.first)) found)
      ∙ sym (slice_get-map (λ (one : BoxPlan). one.first) plan.boxes box) ∙ has))

  pub first_covered : Covers plan known (first_world plan)
  first_covered = record {
    waiting = λ end packet packets waits there. absurd
        (none_contained packet
        (subst (λ (l : List ℕ). Contains l packet) (all_alike (ends_of plan) end [] packets waits) there));
    answered = first_answered;
  }

  -- a packet whose fact is in the set may be put out
  put_covered : (end packet : ℕ) (old new : World) → known (Out end packet) → PutsOut plan end packet old new →
      Covers plan known old → Covers plan known new
  put_covered end packet old new sent puts covers =
      elim (link_or_none plan end) [
        | inr none ↦ subst (Covers plan known) (sym (puts.unlinked none)) covers
        | inl link ↦
            let last = puts.linked link.0 link.1 in
            subst (Covers plan known) (sym last.leaves) (record {
              waiting = λ at other packets waits there.
                  elim (set_cases old.waiting end at (last.packets ++ packet ∷ []) packets waits) [
                    | inr before ↦ covers.waiting at other packets before there
                    | inl here ↦ subst (λ (e : ℕ). known (Out e other)) here.0
                        (elim (Contains-push_cases last.packets packet other
                        (subst (λ (l : List ℕ). Contains l other) (sym here.1) there)) [
                          | inl before ↦ covers.waiting end other last.packets last.waits before
                          | inr same ↦ subst (λ (p : ℕ). known (Out end p)) same sent
                        ])
                  ];
              answered = covers.answered;
            })
      ]

  pub taken_covered : (mode : Mode) (to packet : ℕ) (old new : World) → IsTaken plan mode to packet old new →
      Covers plan known old → Covers plan known new
  taken_covered mode to packet old new taken covers =
      subst (Covers plan known) (sym taken.leaves) (record {
        waiting = λ at other packets waits there.
            elim (set_cases old.waiting taken.from at taken.others packets waits) [
              | inr before ↦ covers.waiting at other packets before there
              | inl here ↦ subst (λ (e : ℕ). known (Out e other)) here.0
                  (covers.waiting taken.from other taken.packets taken.waits
                  (stood_too packet other taken.packets taken.others taken.takes
                  (subst (λ (l : List ℕ). Contains l other) (sym here.1) there)))
            ];
        answered = covers.answered;
      })

  -- the box may have other contents whose answers at each packet are in the set
  contents_covered : (box : ℕ) (contents : List Entry) (old : World) →
      ((packet : ℕ) → packet < packets_of plan → known (State box packet (answers plan box packet contents))) →
      Covers plan known old → Covers plan known (with_contents old box contents)
  contents_covered box contents old each covers = record {
    waiting = covers.waiting;
    answered = λ other packet others within has.
        elim (set_cases old.contents box other contents others has) [
          | inr before ↦ covers.answered other packet others within before
          | inl here ↦ subst (λ (b : ℕ). known (State b packet (answers plan b packet others))) here.0
              (subst (λ (s : List Entry). known (State box packet (answers plan box packet s))) here.1
              (each packet within))
        ];
  }

  sent_covered : (host packet : ℕ) (old new : World) (event : Event) → IsSend plan host packet old event new →
      Covers plan known old → Covers plan known new
  sent_covered host packet old new event leads covers =
      put_covered leads.end packet old new
      (closed [] (Out leads.end packet) (All-nil known)
      (record {
        host = host;
        at_host = leads.at_host;
        packet_in_range = leads.packet_in_range;
        sends = leads.sends;
      }))
      leads.put_out covers

  reverted_covered : (box : ℕ) (old new : World) (event : Event) → IsRevert plan box old event new →
      Covers plan known old → Covers plan known new
  reverted_covered box old new event leads covers =
      subst (Covers plan known) (sym leads.leaves)
      (contents_covered box leads.box_plan.first old
      (λ packet within.
      first_known box packet leads.box_plan.first (slice_get_within plan.boxes box leads.box_plan leads.numbered)
      within (ap (λ (one : BoxPlan). one.first) (box_found plan box leads.box_plan leads.numbered)))
      covers)

  -- what a box does to a packet, whose fact is in the set
  module _ (end packet box : ℕ) (contents : List Entry) (sent : known (Out end packet))
      (had : known (State box packet (answers plan box packet contents))) where
    pub aborted_known : Meets plan end packet box (answers plan box packet contents) contents Outcome.Aborted →
        known (Abort box packet)
    aborted_known meets =
        closed (Out end packet ∷ State box packet (answers plan box packet contents) ∷ []) (Abort box packet)
        (All-cons known (Out end packet) (State box packet (answers plan box packet contents) ∷ []) sent
        (All-cons known (State box packet (answers plan box packet contents)) [] had (All-nil known)))
        (refl, (refl, refl, record { contents = contents; meets = meets }))

    module _ (left : List Entry) (outputs : List Emission)
        (meets : Meets plan end packet box (answers plan box packet contents) contents
        (Outcome.Done left outputs)) where
      put_known : (to : ℕ) (emission : Emission) → IsEndAt plan to (Port box emission.port) →
          Contains outputs emission → known (Out to emission.packet)
      put_known to emission at_port there =
          closed (Out end packet ∷ State box packet (answers plan box packet contents) ∷ []) (Out to emission.packet)
          (All-cons known (Out end packet) (State box packet (answers plan box packet contents) ∷ []) sent
          (All-cons known (State box packet (answers plan box packet contents)) [] had (All-nil known))) (
            refl,
            record {
              contents = contents;
              left = left;
              outputs = outputs;
              meets = meets;
              port = emission.port;
              at_port = at_port;
              put_out = there;
            },
          )

      left_known : (second : ℕ) → second < packets_of plan →
          known (State box second (answers plan box second contents)) →
          known (State box second (answers plan box second left))
      left_known second within before =
          closed
          (Out end packet ∷ State box packet (answers plan box packet contents)
          ∷ State box second (answers plan box second contents) ∷ [])
          (State box second (answers plan box second left))
          (All-cons known (Out end packet)
          (State box packet (answers plan box packet contents) ∷ State box second (answers plan box second contents)
          ∷ []) sent
          (All-cons known (State box packet (answers plan box packet contents))
          (State box second (answers plan box second contents) ∷ []) had
          (All-cons known (State box second (answers plan box second contents)) [] before (All-nil known)))) (
            refl,
            refl,
            refl,
            refl,
            record {
              second_in_range = within;
              contents = contents;
              left = left;
              outputs = outputs;
              meets = meets;
              answered = refl;
              leaves = refl;
            },
          )

  all_put_covered : (box : ℕ) (emissions : List Emission) (old new : World) →
      ((to : ℕ) (emission : Emission) → IsEndAt plan to (Port box emission.port) → Contains emissions emission →
      known (Out to emission.packet)) →
      PutsOutAll plan box emissions old new → Covers plan known old → Covers plan known new
  all_put_covered box [] old new each puts covers = subst (Covers plan known) (sym puts) covers
  all_put_covered box (emission ∷ emissions) old new each (end, mid, at_port, first, later) covers =
      all_put_covered box emissions mid new
      (λ to other at there. each to other at (tail_contained emission other emissions there)) later
      (put_covered end emission.packet old mid
      (each end emission at_port (head_contained emission emissions)) first covers)

  reacted_covered : (end packet box : ℕ) (contents : List Entry) (outcome : Outcome) (old new : World) (event : Event) →
      known (Out end packet) → HasContents old box contents →
      Meets plan end packet box (answers plan box packet contents) contents outcome →
      Reacts plan box packet outcome old event new → Covers plan known old → Covers plan known new
  reacted_covered end packet box contents (Outcome.Done left outputs) old new event sent has meets reacts covers =
      let had : known (State box packet (answers plan box packet contents)) =
      covers.answered box packet contents meets.packet_in_range has in
      all_put_covered box outputs (with_contents old box left) new
      (put_known end packet box contents sent had left outputs meets) reacts.1
      (contents_covered box left old
      (λ second within. left_known end packet box contents sent had left outputs meets second within
      (covers.answered box second contents within has))
      covers)
  reacted_covered end packet box contents Outcome.Aborted old new event sent has meets reacts covers =
      subst (Covers plan known) (sym reacts.1) covers

  pub taken_known : (mode : Mode) (end packet : ℕ) (old new : World) → (taken : IsTaken plan mode end packet old new) →
      Covers plan known old → known (Out taken.from packet)
  taken_known mode end packet old new taken covers =
      covers.waiting taken.from packet taken.packets taken.waits
      (stood packet taken.packets taken.others taken.takes)

  pub has_still : (mode : Mode) (end packet : ℕ) (old left : World) (box : ℕ) (contents : List Entry) →
      IsTaken plan mode end packet old left → HasContents old box contents → HasContents left box contents
  has_still mode end packet old left box contents taken has =
      subst (λ (w : World). HasContents w box contents) (sym taken.leaves) has

  pub step_covered : (mode : Mode) (step : Step) (old new : World) (event : Event) → IsWorld plan old →
      Leads plan mode old step event new → Covers plan known old → Covers plan known new
  step_covered mode (Send host packet) old new event is leads covers =
      sent_covered host packet old new event leads covers
  step_covered mode (Deliver to packet choices) old new event is (inl leads) covers =
      taken_covered mode to packet old new leads.taken covers
  step_covered mode (Deliver to packet choices) old new event is (inr leads) covers =
      reacted_covered leads.taken.from packet leads.box leads.contents leads.outcome leads.left new event
      (taken_known mode to packet old leads.left leads.taken covers)
      (has_still mode to packet old leads.left leads.box leads.contents leads.taken leads.has)
      (delivery_meets plan mode to packet choices old new event is leads) leads.reacts
      (taken_covered mode to packet old leads.left leads.taken covers)
  step_covered mode (Revert box) old new event is leads covers = reverted_covered box old new event leads covers

pub closed_set_covers : (plan : Plan) (facts : List Fact) → IsClosed plan (Contains facts) → CoverIsKept plan facts
closed_set_covers plan facts closed = record {
  first = first_covered plan (Contains facts) closed;
  step = step_covered plan (Contains facts) closed;
}
