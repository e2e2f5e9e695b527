-- Which steps lead somewhere.
use Rattle.std.proofs.Common.{◌≡◌, ℕ, ◌+◌, ◌<◌, List, [], ◌∷◌, ◌++◌, length, get_or, refl, sym, ap, subst, ◌∙◌, inl}
use Rattle.std.proofs.Common.{inr, arith}
use Rattle.std.specs.List.{All}
use Rattle.std.proofs.lemmas.Option.{slice_get-get_or}
use Rattle.std.proofs.lemmas.List.Elements.{All-head, All-tail, All-contains}
use Rattle.box_contents.specs.declared.entry.Entry.{Entry}
use Rattle.box_executions.specs.Execution.{Emission, Outcome}
use Rattle.box_executions.specs.Shape.{IsEmission, IsOutcome}
use Rattle.box_executions.specs.Laws.{OutcomeIsInRange, HandlerExecutes}
use Rattle.net_plan.specs.declared.plan.Plan.{Plan}
use Rattle.net_plan.specs.declared.plan.BoxPlan.{BoxPlan}
use Rattle.net_plan.specs.declared.plan.ClassPlan.{ClassPlan}
use Rattle.net_plan.specs.declared.fact.Place.TheVariants.{Host, Port}
use Rattle.net_plan.specs.Plan.{sizes_of, packets_of, boxes_of, box_at, ports_of, surroundings_of, Sends}
use Rattle.net_plan.specs.Sound.{IsSound}
use Rattle.net_plan.specs.Ends.{ends_of, IsEndAt}
use Rattle.net_plan.specs.Kept.{first_end}
use Rattle.net_plan.proofs.EndLemmas.{host_ends, port_ends, end_in_range}
use Rattle.net_plan.proofs.Linked.{link_or_none}
use Rattle.net_runs.specs.declared.world.Mode.{Mode}
use Rattle.net_runs.specs.declared.world.Step.TheVariants.{Send, Deliver, Revert}
use Rattle.net_runs.specs.declared.world.Event.{Event}
use Rattle.net_runs.specs.declared.world.Event.TheVariants.{Moved, Delivered}
use Rattle.net_runs.specs.declared.world.World.{World}
use Rattle.net_runs.specs.World.{Waits, with_waiting, HasContents, with_contents, IsBoxAt, relations_of, IsWorld}
use Rattle.net_runs.specs.World.{IsTaken, PutsOut, environment_of, Handles, PutsOutAll, Reacts, Leads}
use Rattle.net_runs.specs.Laws.{IsWaiting, event_of}
use Rattle.net_runs.proofs.ListLemmas.{take_first}
use Rattle.net_runs.proofs.PlanLemmas.{box_is, class_is, box_there, handler_there, ready}
use Rattle.net_runs.proofs.WorldLemmas.{taken_keeps, put_out_keeps, handled_in_range, contents_put}

-- a packet that is put out goes somewhere

put_out_leads : (plan : Plan) (end packet : ℕ) (old : World) → IsWorld plan old → end < ends_of plan →
    (new : World) × PutsOut plan end packet old new
put_out_leads plan end packet old is less =
    let packets : List ℕ = get_or old.waiting end [] in
    let waits : Waits old end packets = slice_get-get_or old.waiting end [] (omega (arith, less, is.channels)) in
    elim (link_or_none plan end) [
      | inl link ↦ (
        with_waiting old end (packets ++ packet ∷ []),
        record {
          linked = λ other linked. record { packets = packets; waits = waits; leaves = refl };
          unlinked =
              λ none. absurd (none link.0 link.1);
        },
      )
      | inr none ↦ (old, record { linked = λ other linked. absurd (none other linked); unlinked = λ bare. refl })
    ]

-- the port of a box has its end
port_end : (plan : Plan) (box port : ℕ) → box < boxes_of plan → port < ports_of plan (box_at plan box) →
    (end : ℕ) × IsEndAt plan end (Port box port)
port_end plan box port less within =
    (first_end plan box + port, (port_ends plan (first_end plan box + port) box port).1 (less, within, refl))

put_out_all_leads : (plan : Plan) (box : ℕ) (emissions : List Emission) (old : World) → box < boxes_of plan →
    All (IsEmission (ports_of plan (box_at plan box)) (sizes_of plan)) emissions →
    IsWorld plan old → (new : World) × PutsOutAll plan box emissions old new
put_out_all_leads plan box [] old less are is = (old, refl)
put_out_all_leads plan box (emission ∷ emissions) old less are is =
    let fits : IsEmission (ports_of plan (box_at plan box)) (sizes_of plan) emission =
    All-head (IsEmission (ports_of plan (box_at plan box)) (sizes_of plan)) emission emissions are in
    let end = port_end plan box emission.port less fits.port in
    let first =
    put_out_leads plan end.0 emission.packet old is (end_in_range plan end.0 (Port box emission.port) end.1) in
    let later =
    put_out_all_leads plan box emissions first.0 less
    (All-tail (IsEmission (ports_of plan (box_at plan box)) (sizes_of plan)) emission emissions are)
    (put_out_keeps plan end.0 emission.packet old first.0 fits.packet is first.1) in
    (later.0, (end.0, first.0, end.1, first.1, later.1))

-- sends

pub send_is_enabled : (plan : Plan) (mode : Mode) (host packet : ℕ) (old : World) → IsSound plan → IsWorld plan old →
    host < length plan.hosts → packet < packets_of plan → Sends plan host packet →
    (new : World) × Leads plan mode old (Send host packet) Moved new
send_is_enabled plan mode host packet old sound is less within sends =
    let at_host : IsEndAt plan host (Host host) = (host_ends plan host host).1 (less, refl) in
    let put = put_out_leads plan host packet old is (end_in_range plan host (Host host) at_host) in (
      put.0,
      record {
        end = host;
        at_host = at_host;
        packet_in_range = within;
        sends = sends;
        put_out = put.1;
        happens =
            refl;
      },
    )

-- deliveries

packet_below : (plan : Plan) (mode : Mode) (end packet : ℕ) (world : World) → IsWorld plan world →
    IsWaiting plan mode end packet world → packet < packets_of plan
packet_below plan mode end packet world is waiting =
    All-contains (λ one. one < packets_of plan) waiting.packets packet
    (is.in_range waiting.from waiting.packets waiting.waits) waiting.waiting

taken_leads : (plan : Plan) (mode : Mode) (end packet : ℕ) (old : World) → IsWaiting plan mode end packet old →
    (new : World) × IsTaken plan mode end packet old new
taken_leads plan mode end packet old waiting =
    let found = take_first packet waiting.packets waiting.waiting in (
      with_waiting old waiting.from found.0,
      record {
        from = waiting.from;
        linked = waiting.linked;
        packets = waiting.packets;
        waits = waiting.waits;
        next = waiting.next;
        others = found.0;
        takes = found.1;
        leaves = refl;
      },
    )

pub host_delivery_is_enabled : (plan : Plan) (mode : Mode) (end host packet : ℕ) (old : World) → IsWorld plan old →
    IsEndAt plan end (Host host) → IsWaiting plan mode end packet old →
    (new : World) × Leads plan mode old (Deliver end packet []) (Delivered host packet) new
host_delivery_is_enabled plan mode end host packet old is at_host waiting =
    let taken = taken_leads plan mode end packet old waiting in (
      taken.0,
      inl record {
        host = host;
        at_host = at_host;
        packet_in_range = packet_below plan mode end packet old is waiting;
        taken = taken.1;
        no_choices = refl;
        happens = refl;
      },
    )

reacts_leads : (plan : Plan) (box packet : ℕ) (box_plan : BoxPlan) (class : ClassPlan) (outcome : Outcome)
    (old : World) → box < boxes_of plan → IsBoxAt plan box box_plan class → IsWorld plan old →
    IsOutcome (length class.ports) (sizes_of plan) (relations_of plan class) outcome →
    (new : World) × Reacts plan box packet outcome old (event_of box packet outcome) new
reacts_leads plan box packet box_plan class (Outcome.Done contents emissions) old less at_box is fits =
    let ports : ports_of plan (box_at plan box) ≡ length class.ports =
    ap (ports_of plan) (box_is plan box box_plan at_box.numbered)
    ∙ ap (λ (c : ClassPlan). length c.ports) (class_is plan box_plan class at_box.of_class) in
    let all = put_out_all_leads plan box emissions (with_contents old box contents) less
    (subst (λ (n : ℕ). All (IsEmission n (sizes_of plan)) emissions) (sym ports) fits.1)
    (contents_put plan box box_plan class contents old at_box fits.0 is) in
    (all.0, (refl, all.1))
reacts_leads plan box packet box_plan class Outcome.Aborted old less at_box is fits = (old, (refl, refl))

pub box_delivery_is_enabled : OutcomeIsInRange →
    (plan : Plan) (mode : Mode) (end box port packet : ℕ) (contents : List Entry) (choices : List ℕ)
    (outcome : Outcome) (old : World) →
    IsSound plan → IsWorld plan old → IsEndAt plan end (Port box port) → IsWaiting plan mode end packet old →
    HasContents old box contents → Handles plan box port packet contents choices outcome →
    (new : World) × Leads plan mode old (Deliver end packet choices) (event_of box packet outcome) new
box_delivery_is_enabled law plan mode end box port packet contents choices outcome old sound is at_port waiting has
    handles =
    let less : packet < packets_of plan = packet_below plan mode end packet old is waiting in
    let taken = taken_leads plan mode end packet old waiting in
    let fits = handled_in_range law plan box port packet contents choices outcome old sound is less has handles in
    let reacts =
    reacts_leads plan box packet handles.box_plan handles.class outcome taken.0
    ((port_ends plan end box port).0 at_port).0 handles.at_box
    (taken_keeps plan mode end packet old taken.0 is taken.1) fits in (
      reacts.0,
      inr record {
        box = box;
        port = port;
        at_port = at_port;
        packet_in_range = less;
        left = taken.0;
        taken = taken.1;
        contents = contents;
        has = has;
        outcome = outcome;
        handles = handles;
        reacts = reacts.1;
      },
    )

pub some_box_delivery_is_enabled : OutcomeIsInRange → HandlerExecutes →
    (plan : Plan) (mode : Mode) (end box port packet : ℕ) (old : World) →
    IsSound plan → IsWorld plan old → IsEndAt plan end (Port box port) → IsWaiting plan mode end packet old →
    (choices : List ℕ) × (event : Event) × (new : World) × Leads plan mode old (Deliver end packet choices) event new
some_box_delivery_is_enabled law executes plan mode end box port packet old sound is at_port waiting =
    let place = (port_ends plan end box port).0 at_port in
    let found = box_there plan box sound place.0 in
    let ports : ports_of plan (box_at plan box) ≡ length found.1.ports =
    ap (ports_of plan) (box_is plan box found.0 found.2.numbered)
    ∙ ap (λ (c : ClassPlan). length c.ports) (class_is plan found.0 found.1 found.2.of_class) in
    let handler = handler_there plan sound box found.0 found.1 found.2 port (omega (arith, place.1, ports)) in
    let contents : List Entry = get_or old.contents box [] in
    let has : HasContents old box contents = slice_get-get_or old.contents box [] (omega (arith, place.0, is.boxes)) in
    let less : packet < packets_of plan = packet_below plan mode end packet old is waiting in
    let run = executes (surroundings_of plan found.1) [] (environment_of plan found.1 packet) handler.0 contents
    (ready plan sound box found.0 found.1 found.2 port packet handler.0 contents less handler.1
    (is.contents_fit box found.0 found.1 contents found.2 has)) in
    let leads =
    box_delivery_is_enabled law plan mode end box port packet contents run.0 run.1 old sound is at_port waiting has
    (record {
      box_plan = found.0;
      class = found.1;
      at_box = found.2;
      handler = handler.0;
      at_port =
          handler.1;
      executes = run.2;
    }) in
    (run.0, event_of box packet run.1, leads.0, leads.1)

-- reverts

pub revert_is_enabled : (plan : Plan) (mode : Mode) (box : ℕ) (old : World) → box < boxes_of plan →
    (new : World) × Leads plan mode old (Revert box) Moved new
revert_is_enabled plan mode box old less =
    let box_plan : BoxPlan = get_or plan.boxes box (record { name = []; class = 0; first = [] }) in (
      with_contents old box box_plan.first,
      record {
        box_plan = box_plan;
        numbered =
            slice_get-get_or plan.boxes box (record { name = []; class = 0; first = [] }) less;
        leaves = refl;
        happens =
            refl;
      },
    )
