-- Sets of facts that cover states, bad steps, and safe runs, in networks without boxes.
use Rattle.std.proofs.Common.{◌≡◌, ℕ, ◌<◌, List, [], ◌∷◌, ◌++◌, length, Some, refl, sym, ap, subst, ◌∙◌, ◌⊎◌, inl, inr}
use Rattle.std.proofs.Common.{arith}
use Rattle.std.specs.List.{Contains}
use Rattle.std.proofs.Math.ListN.{length-set}
use Rattle.std.proofs.lemmas.Bool.{cases_eq}
use Rattle.std.proofs.lemmas.Option.{slice_get-get_or, slice_get_within}
use Rattle.std.proofs.lemmas.List.{get_or-replicate, length-replicate}
use Rattle.std.proofs.lemmas.List.Elements.{All-nil, All-weaker, Contains-push_cases}
use Rattle.amdl_tree.specs.Derivation.{IsDerivable}
use Rattle.amdl_tree.proofs.DerivationLemmas.{derivable_step}
use Rattle.net_plan.specs.declared.plan.Plan.{Plan}
use Rattle.net_plan.specs.declared.fact.Fact.{Fact}
use Rattle.net_plan.specs.declared.fact.Fact.TheVariants.{Out}
use Rattle.net_plan.specs.declared.fact.Place.TheVariants.{Host, Port}
use Rattle.net_plan.specs.Plan.{boxes_of, Forbids, HasNoBox}
use Rattle.net_plan.specs.Ends.{ends_of, IsEndAt}
use Rattle.net_plan.specs.Follows.{Starts, Follows, IsLeast, IsBad}
use Rattle.net_plan.proofs.Rising.{contained_cases, none_contained}
use Rattle.net_plan.proofs.EndLemmas.{host_ends, port_ends, end_in_range}
use Rattle.net_plan.proofs.Linked.{link_or_none}
use Rattle.net_runs.specs.declared.world.Mode.{Mode}
use Rattle.net_runs.specs.declared.world.Mode.TheVariants.{Unordered, Ordered}
use Rattle.net_runs.specs.declared.world.Step.{Step}
use Rattle.net_runs.specs.declared.world.Step.TheVariants.{Send, Deliver, Revert}
use Rattle.net_runs.specs.declared.world.Event.{Event}
use Rattle.net_runs.specs.declared.world.Event.TheVariants.{Moved, Delivered}
use Rattle.net_runs.specs.declared.world.World.{World}
use Rattle.net_runs.specs.World.{first_world, Waits, with_waiting, IsNext, IsTaken, IsSend, Leads, Run, IsBadEvent}
use Rattle.net_runs.specs.World.{HasNoBadRun}
use Rattle.net_runs.specs.Covers.{Covers, IsClosed}
use Rattle.net_runs.specs.Laws.{CoverIsKept, IsBadRun}
use Rattle.net_runs.proofs.ListLemmas.{some_inside, get_set_same, get_set_other, get_replicate, stood_there, was_there}

-- what waits after a change of one channel
changed_cases : (old : World) (end : ℕ) (packets : List ℕ) (other : ℕ) (others : List ℕ) →
    Waits (with_waiting old end packets) other others →
    ((end ≡ other) × (packets ≡ others)) ⊎ Waits old other others
changed_cases old end packets other others waits =
    elim (cases_eq other end) [
      | inr apart ↦ inr (sym (get_set_other old.waiting end other packets apart) ∙ waits)
      | inl same ↦
          let there : Waits (with_waiting old end packets) end others =
          subst (λ (e : ℕ). Waits (with_waiting old end packets) e others) same waits in
          let still : length (with_waiting old end packets).waiting ≡ length old.waiting =
          length-set old.waiting end packets in
          let below : end < length (with_waiting old end packets).waiting =
          slice_get_within (with_waiting old end packets).waiting end others there in
          let within : end < length old.waiting = omega (arith, still, below) in
          inl (sym same, some_inside (sym (get_set_same old.waiting end packets within) ∙ there))
    ]

-- no box has a port
no_port : (plan : Plan) (end box port : ℕ) → HasNoBox plan → IsEndAt plan end (Port box port) → ⊥
no_port plan end box port boxless at_port =
    let less : box < boxes_of plan = ((port_ends plan end box port).0 at_port).0 in
    let none : boxes_of plan ≡ 0 = ap length boxless in absurd (omega arith)

no_revert : (plan : Plan) (mode : Mode) (box : ℕ) (old new : World) (event : Event) → HasNoBox plan →
    Leads plan mode old (Revert box) event new → ⊥
no_revert plan mode box old new event boxless leads =
    let less : box < boxes_of plan = slice_get_within plan.boxes box leads.box_plan leads.numbered in
    let none : boxes_of plan ≡ 0 = ap length boxless in absurd (omega arith)

-- a closed set covers

first_covered : (plan : Plan) (facts : List Fact) → Covers facts (first_world plan)
first_covered plan facts end packet packets waits there =
    absurd (none_contained packet
    (subst (λ (l : List ℕ). Contains l packet) (get_replicate (ends_of plan) end [] packets waits) there))

sent_covered : (plan : Plan) (facts : List Fact) → IsClosed plan facts →
    (host packet : ℕ) (old new : World) (event : Event) → IsSend plan host packet old event new →
    Covers facts old → Covers facts new
sent_covered plan facts closed host packet old new event leads covers =
    elim (link_or_none plan leads.end) [
      | inr none ↦ subst (Covers facts) (sym (leads.put_out.unlinked none)) covers
      | inl link ↦
          let last = leads.put_out.linked link.0 link.1 in
          let sent : Contains facts (Out leads.end packet) =
          closed [] (Out leads.end packet) (All-nil (Contains facts))
          (host, leads.at_host, leads.packet_in_range, leads.sends) in
          subst (Covers facts) (sym last.leaves) (λ end other packets waits there.
          elim (changed_cases old leads.end (last.packets ++ packet ∷ []) end packets waits) [
            | inr before ↦ covers end other packets before there
            | inl here ↦ subst (λ (e : ℕ). Contains facts (Out e other)) here.0
                (elim (Contains-push_cases last.packets packet other
                (subst (λ (l : List ℕ). Contains l other) (sym here.1) there)) [
                  | inl before ↦ covers leads.end other last.packets last.waits before
                  | inr same ↦ subst (λ (p : ℕ). Contains facts (Out leads.end p)) same sent
                ])
          ])
    ]

taken_covered : (plan : Plan) (facts : List Fact) (mode : Mode) (to packet : ℕ) (old new : World) →
    IsTaken plan mode to packet old new → Covers facts old → Covers facts new
taken_covered plan facts mode to packet old new taken covers =
    subst (Covers facts) (sym taken.leaves) (λ end other packets waits there.
    elim (changed_cases old taken.from taken.others end packets waits) [
      | inr before ↦ covers end other packets before there
      | inl here ↦ subst (λ (e : ℕ). Contains facts (Out e other)) here.0
          (covers taken.from other taken.packets taken.waits
          (was_there packet taken.packets taken.others other taken.takes
          (subst (λ (l : List ℕ). Contains l other) (sym here.1) there)))
    ])

step_covered : (plan : Plan) (facts : List Fact) → HasNoBox plan → IsClosed plan facts →
    (mode : Mode) (step : Step) (old new : World) (event : Event) → Leads plan mode old step event new →
    Covers facts old → Covers facts new
step_covered plan facts boxless closed mode (Send host packet) old new event leads covers =
    sent_covered plan facts closed host packet old new event leads covers
step_covered plan facts boxless closed mode (Deliver to packet choices) old new event (inl leads) covers =
    taken_covered plan facts mode to packet old new leads.taken covers
step_covered plan facts boxless closed mode (Deliver to packet choices) old new event (inr leads) covers =
    absurd (no_port plan to leads.box leads.port boxless leads.at_port)
step_covered plan facts boxless closed mode (Revert box) old new event leads covers =
    absurd (no_revert plan mode box old new event boxless leads)

pub closed_set_covers : (plan : Plan) (facts : List Fact) → HasNoBox plan → IsClosed plan facts →
    CoverIsKept plan facts
closed_set_covers plan facts boxless closed =
    record { first = first_covered plan facts; step = step_covered plan facts boxless closed }

-- a bad step has its bad fact

pub bad_step_is_covered : (plan : Plan) (facts : List Fact) (mode : Mode) (step : Step) (old new : World)
    (event : Event) → HasNoBox plan → Leads plan mode old step event new →
    Covers facts old → IsBadEvent plan event → (fact : Fact) × Contains facts fact × IsBad plan fact
bad_step_is_covered plan facts mode (Send host packet) old new event boxless leads covers bad =
    absurd (subst (IsBadEvent plan) leads.happens bad)
bad_step_is_covered plan facts mode (Deliver end packet choices) old new event boxless (inl leads) covers bad =
    let from : ℕ = leads.taken.from in
    let forbidden : (leads.host < length plan.hosts) × Forbids plan leads.host packet =
    subst (IsBadEvent plan) leads.happens bad in (
      Out from packet,
      covers from packet leads.taken.packets leads.taken.waits
          (stood_there packet leads.taken.packets leads.taken.others leads.taken.takes),
      (leads.host, end, leads.taken.linked, leads.at_host, forbidden.1),
    )
bad_step_is_covered plan facts mode (Deliver end packet choices) old new event boxless (inr leads) covers bad =
    absurd (no_port plan end leads.box leads.port boxless leads.at_port)
bad_step_is_covered plan facts mode (Revert box) old new event boxless leads covers bad =
    absurd (no_revert plan mode box old new event boxless leads)

-- a bad fact has its run

next_head : (mode : Mode) (packet : ℕ) → IsNext mode packet (packet ∷ [])
next_head Unordered packet = tt
next_head Ordered packet = ([], refl)

pub bad_fact_is_run : (plan : Plan) (mode : Mode) (end packet : ℕ) → Starts plan (Out end packet) →
    IsBad plan (Out end packet) → IsBadRun plan mode end packet
bad_fact_is_run plan mode end packet starts bad =
    let sender : ℕ = starts.0 in
    let receiver : ℕ = bad.0 in
    let other : ℕ = bad.1 in
    let first : World = first_world plan in
    let mid : World = with_waiting first end (packet ∷ []) in
    let long : length first.waiting ≡ ends_of plan = length-replicate (ends_of plan) [] in
    let less : end < length first.waiting =
    subst (λ (n : ℕ). end < n) (sym long) (end_in_range plan end (Host sender) starts.1) in
    let empty : Waits first end [] = slice_get-get_or first.waiting end [] less
    ∙ ap Some (get_or-replicate (ends_of plan) end [] [] (omega (arith, less, long))) in
    let waits : Waits mid end (packet ∷ []) = get_set_same first.waiting end (packet ∷ []) less in
    record {
      sender = sender;
      at_sender = starts.1;
      other = other;
      receiver = receiver;
      at_receiver = bad.3;
      last = with_waiting mid end [];
      run = (
        Moved,
        Delivered receiver packet ∷ [],
        mid,
        refl,
        record {
          end = end;
          at_host = starts.1;
          packet_in_range = starts.2;
          sends = starts.3;
          put_out =
              record {
                linked = λ far _. record { packets = []; waits = empty; leaves = refl };
                unlinked =
                    λ none. absurd (none other bad.2);
              };
          happens = refl;
        },
        (
          Delivered receiver packet,
          [],
          with_waiting mid end [],
          refl,
          inl record {
            host = receiver;
            at_host = bad.3;
            packet_in_range = starts.2;
            taken = record {
              from = end;
              linked = bad.2;
              packets = packet ∷ [];
              waits = waits;
              next = next_head mode packet;
              others = [];
              takes = record { front = []; rest = []; stood = refl; first = none_contained packet; taken = refl };
              leaves = refl;
            };
            no_choices = refl;
            happens = refl;
          },
          (refl, refl),
        ),
      );
      bad = (((host_ends plan other receiver).0 bad.3).0, bad.4);
    }

-- safe networks

least_closed : (plan : Plan) (facts : List Fact) → IsLeast plan facts → IsClosed plan facts
least_closed plan facts least premises fact known follows =
    (least.member fact).1 (derivable_step (Follows plan) premises fact
    (All-weaker (Contains facts) (IsDerivable (Follows plan)) (λ f there. (least.member f).0 there) premises known)
    follows)

covered_run : (plan : Plan) (facts : List Fact) → HasNoBox plan → IsClosed plan facts →
    ((fact : Fact) → Contains facts fact → IsBad plan fact → ⊥) →
    (mode : Mode) (steps : List Step) (old new : World) (events : List Event) → Covers facts old →
    Run plan mode old steps events new →
    (event : Event) → Contains events event → IsBadEvent plan event → ⊥
covered_run plan facts boxless closed good mode [] old new events covers run event there bad =
    none_contained event (subst (λ (l : List Event). Contains l event) run.0 there)
covered_run plan facts boxless closed good mode (step ∷ steps) old new events covers run event there bad =
    elim (contained_cases run.0 event run.1 (subst (λ (l : List Event). Contains l event) run.3 there)) [
      | inl same ↦
          let found =
          bad_step_is_covered plan facts mode step old run.2 run.0 boxless run.4 covers
          (subst (IsBadEvent plan) (sym same) bad) in
          good found.0 found.1 found.2
      | inr later ↦ covered_run plan facts boxless closed good mode steps run.2 new run.1
          (step_covered plan facts boxless closed mode step old run.2 run.0 run.4 covers) run.5 event later bad
    ]

pub safe_network_runs_safely : (plan : Plan) (facts : List Fact) → HasNoBox plan → IsLeast plan facts →
    ((fact : Fact) → Contains facts fact → IsBad plan fact → ⊥) → HasNoBadRun plan
safe_network_runs_safely plan facts boxless least good mode steps events new run event there bad =
    covered_run plan facts boxless (least_closed plan facts least) good mode steps (first_world plan) new events
    (first_covered plan facts) run event there bad
