-- Steps over unordered channels, what a step leads to, and runs one after another.
use Rattle.std.proofs.Common.{◌≡◌, ℕ, List, [], ◌∷◌, ◌++◌, refl, sym, ap, subst, ◌∙◌, inl, inr, ◌↔◌}
use Rattle.std.specs.Prelude.{slice_get}
use Rattle.box_contents.specs.declared.entry.Entry.{Entry}
use Rattle.box_handlers.specs.declared.act.Act.{Act}
use Rattle.box_executions.specs.Execution.{Emission, Outcome, Executes}
use Rattle.box_executions.specs.Laws.{ExecutionIsDetermined}
use Rattle.net_plan.specs.declared.plan.Plan.{Plan}
use Rattle.net_plan.specs.declared.plan.BoxPlan.{BoxPlan}
use Rattle.net_plan.specs.declared.plan.ClassPlan.{ClassPlan}
use Rattle.net_plan.specs.declared.fact.Place.TheVariants.{Host, Port}
use Rattle.net_plan.specs.Sound.{IsSound}
use Rattle.net_plan.specs.Ends.{IsEndAt}
use Rattle.net_plan.proofs.EndLemmas.{host_ends, port_ends, end_once}
use Rattle.net_plan.proofs.Linked.{partner_is_unique, link_or_none, linked_back}
use Rattle.net_runs.specs.declared.world.Mode.{Mode}
use Rattle.net_runs.specs.declared.world.Mode.TheVariants.{Unordered, Ordered}
use Rattle.net_runs.specs.declared.world.Step.{Step}
use Rattle.net_runs.specs.declared.world.Step.TheVariants.{Send, Deliver, Revert}
use Rattle.net_runs.specs.declared.world.Event.{Event}
use Rattle.net_runs.specs.declared.world.Event.TheVariants.{Delivered}
use Rattle.net_runs.specs.declared.world.World.{World}
use Rattle.net_runs.specs.World.{with_waiting, with_contents, TakesFirst, IsTaken, GoesLast, PutsOut, IsHostDelivery}
use Rattle.net_runs.specs.World.{environment_of, Handles, PutsOutAll, Reacts, IsBoxDelivery, Leads, Run}
use Rattle.net_runs.proofs.ListLemmas.{some_inside, taken_once}

-- an ordered run is a run

unordered_taken : (plan : Plan) (end packet : ℕ) (old new : World) → IsTaken plan Ordered end packet old new →
    IsTaken plan Unordered end packet old new
unordered_taken plan end packet old new taken = record {
  from = taken.from;
  linked = taken.linked;
  packets = taken.packets;
  waits = taken.waits;
  next = tt;
  others = taken.others;
  takes = taken.takes;
  leaves = taken.leaves;
}

unordered_step : (plan : Plan) (step : Step) (old new : World) (event : Event) →
    Leads plan Ordered old step event new → Leads plan Unordered old step event new
unordered_step plan (Send host packet) old new event leads = leads
unordered_step plan (Deliver end packet choices) old new event (inl leads) = inl record {
  host = leads.host;
  at_host = leads.at_host;
  packet_in_range = leads.packet_in_range;
  taken = unordered_taken plan end packet old new leads.taken;
  no_choices = leads.no_choices;
  happens = leads.happens;
}
unordered_step plan (Deliver end packet choices) old new event (inr leads) = inr record {
  box = leads.box;
  port = leads.port;
  at_port = leads.at_port;
  packet_in_range = leads.packet_in_range;
  left = leads.left;
  taken = unordered_taken plan end packet old leads.left leads.taken;
  contents = leads.contents;
  has = leads.has;
  outcome = leads.outcome;
  handles = leads.handles;
  reacts = leads.reacts;
}
unordered_step plan (Revert box) old new event leads = leads

pub ordered_run_is_run : (plan : Plan) (steps : List Step) (old new : World) (events : List Event) →
    Run plan Ordered old steps events new → Run plan Unordered old steps events new
ordered_run_is_run plan [] old new events run = run
ordered_run_is_run plan (step ∷ steps) old new events run = (
  run.0,
  run.1,
  run.2,
  run.3,
  unordered_step plan step old run.2 run.0 run.4,
  ordered_run_is_run plan steps run.2
      new run.1 run.5,
)

-- from a state a step leads to at most one event and state

goes_last_once : (end packet : ℕ) (old new other : World) → GoesLast end packet old new →
    GoesLast end packet old other → new ≡ other
goes_last_once end packet old new other one two =
    one.leaves ∙ ap (λ (l : List ℕ). with_waiting old end (l ++ packet ∷ [])) (some_inside (sym one.waits ∙ two.waits))
    ∙ sym two.leaves

put_out_once : (plan : Plan) (end packet : ℕ) (old new other : World) → PutsOut plan end packet old new →
    PutsOut plan end packet old other → new ≡ other
put_out_once plan end packet old new other one two =
    elim (link_or_none plan end) [
      | inl link ↦ goes_last_once end packet old new other (one.linked link.0 link.1) (two.linked link.0 link.1)
      | inr none ↦ one.unlinked none ∙ sym (two.unlinked none)
    ]

same_host : (one two : ℕ) → Host one ≡ Host two → one ≡ two
same_host one two e = cc

same_box : (one two port other : ℕ) → Port one port ≡ Port two other → one ≡ two
same_box one two port other e = cc

same_port : (one two port other : ℕ) → Port one port ≡ Port two other → port ≡ other
same_port one two port other e = cc

not_both : (host box port : ℕ) → Host host ≡ Port box port → ⊥
not_both host box port e = cc

-- a host and a port have one end
host_end_once : (plan : Plan) (one two host : ℕ) → IsEndAt plan one (Host host) → IsEndAt plan two (Host host) →
    one ≡ two
host_end_once plan one two host first second =
    ((host_ends plan one host).0 first).1 ∙ sym ((host_ends plan two host).0 second).1

port_end_once : (plan : Plan) (one two box port : ℕ) → IsEndAt plan one (Port box port) →
    IsEndAt plan two (Port box port) → one ≡ two
port_end_once plan one two box port first second =
    ((port_ends plan one box port).0 first).2 ∙ sym ((port_ends plan two box port).0 second).2

taken_world_once : (plan : Plan) (mode : Mode) (end packet : ℕ) (old one two : World) → IsSound plan →
    IsTaken plan mode end packet old one → IsTaken plan mode end packet old two → one ≡ two
taken_world_once plan mode end packet old one two sound a b =
    let from : a.from ≡ b.from =
    partner_is_unique plan end a.from b.from sound (linked_back plan a.from end a.linked)
    (linked_back plan b.from end b.linked) in
    let packets : a.packets ≡ b.packets =
    some_inside (sym a.waits ∙ ap (λ (f : ℕ). slice_get old.waiting f) from ∙ b.waits) in
    let others : a.others ≡ b.others =
    taken_once packet b.packets a.others b.others
    (subst (λ (l : List ℕ). TakesFirst packet l a.others) packets a.takes) b.takes in
    a.leaves ∙ ap (λ (f : ℕ). with_waiting old f a.others) from ∙ ap (with_waiting old b.from) others ∙ sym b.leaves

put_out_all_once : (plan : Plan) (box : ℕ) (emissions : List Emission) (old new other : World) →
    PutsOutAll plan box emissions old new → PutsOutAll plan box emissions old other → new ≡ other
put_out_all_once plan box [] old new other one two = one ∙ sym two
put_out_all_once plan box (emission ∷ emissions) old new other (end, mid, at_port, puts, later)
    (far, center, at_same, also, behind) =
    let same : far ≡ end = port_end_once plan far end box emission.port at_same at_port in
    let centers : mid ≡ center =
    put_out_once plan end emission.packet old mid center puts
    (subst (λ (e : ℕ). PutsOut plan e emission.packet old center) same also) in
    put_out_all_once plan box emissions center new other
    (subst (λ (w : World). PutsOutAll plan box emissions w new) centers later) behind

reacts_once : (plan : Plan) (box packet : ℕ) (outcome : Outcome) (old new other : World) (event another : Event) →
    Reacts plan box packet outcome old event new → Reacts plan box packet outcome old another other →
    (event ≡ another) × (new ≡ other)
reacts_once plan box packet (Outcome.Done contents emissions) old new other event another one two =
    (one.0 ∙ sym two.0, put_out_all_once plan box emissions (with_contents old box contents) new other one.1 two.1)
reacts_once plan box packet Outcome.Aborted old new other event another one two =
    (one.0 ∙ sym two.0, one.1 ∙ sym two.1)

handles_once : ExecutionIsDetermined →
    (plan : Plan) (box port packet : ℕ) (contents : List Entry) (choices : List ℕ) (outcome another : Outcome) →
    IsSound plan →
    Handles plan box port packet contents choices outcome → Handles plan box port packet contents choices another →
    outcome ≡ another
handles_once law plan box port packet contents choices outcome another sound one two =
    let box_plan : one.box_plan ≡ two.box_plan = some_inside (sym one.at_box.numbered ∙ two.at_box.numbered) in
    let class : one.class ≡ two.class =
    some_inside
    (sym one.at_box.of_class ∙ ap (λ (b : BoxPlan). slice_get plan.classes b.class) box_plan ∙ two.at_box.of_class)
    in
    let handler : one.handler ≡ two.handler =
    some_inside (sym one.at_port ∙ ap (λ (c : ClassPlan). slice_get c.handlers port) class ∙ two.at_port) in
    let moved : Executes (environment_of plan two.class packet) two.handler contents choices outcome =
    subst (λ (c : ClassPlan). Executes (environment_of plan c packet) two.handler contents choices outcome) class
    (subst (λ (acts : List Act). Executes (environment_of plan one.class packet) acts contents choices outcome) handler
    one.executes) in
    (law (environment_of plan two.class packet) two.handler contents choices [] [] outcome another
    sound.headers.headers moved two.executes).0

box_delivery_once : ExecutionIsDetermined →
    (plan : Plan) (mode : Mode) (end packet : ℕ) (choices : List ℕ) (old new other : World) (event another : Event) →
    IsSound plan →
    IsBoxDelivery plan mode end packet choices old event new →
    IsBoxDelivery plan mode end packet choices old another other → (event ≡ another) × (new ≡ other)
box_delivery_once law plan mode end packet choices old new other event another sound one two =
    let place : Port one.box one.port ≡ Port two.box two.port =
    end_once plan end (Port one.box one.port) (Port two.box two.port) one.at_port two.at_port in
    let box : one.box ≡ two.box = same_box one.box two.box one.port two.port place in
    let port : one.port ≡ two.port = same_port one.box two.box one.port two.port place in
    let left : one.left ≡ two.left =
    taken_world_once plan mode end packet old one.left two.left sound one.taken two.taken in
    let contents : one.contents ≡ two.contents =
    some_inside (sym one.has ∙ ap (λ (b : ℕ). slice_get old.contents b) box ∙ two.has) in
    let handled : Handles plan two.box two.port packet two.contents choices one.outcome =
    subst (λ (s : List Entry). Handles plan two.box two.port packet s choices one.outcome) contents
    (subst (λ (p : ℕ). Handles plan two.box p packet one.contents choices one.outcome) port
    (subst (λ (b : ℕ). Handles plan b one.port packet one.contents choices one.outcome) box one.handles)) in
    let outcome : one.outcome ≡ two.outcome =
    handles_once law plan two.box two.port packet two.contents choices one.outcome two.outcome sound handled
    two.handles in
    let reacts : Reacts plan two.box packet two.outcome two.left event new =
    subst (λ (w : World). Reacts plan two.box packet two.outcome w event new) left
    (subst (λ (o : Outcome). Reacts plan two.box packet o one.left event new) outcome
    (subst (λ (b : ℕ). Reacts plan b packet one.outcome one.left event new) box one.reacts)) in
    reacts_once plan two.box packet two.outcome two.left new other event another reacts two.reacts

host_delivery_once : (plan : Plan) (mode : Mode) (end packet : ℕ) (choices : List ℕ) (old new other : World)
    (event another : Event) → IsSound plan →
    IsHostDelivery plan mode end packet choices old event new →
    IsHostDelivery plan mode end packet choices old another other → (event ≡ another) × (new ≡ other)
host_delivery_once plan mode end packet choices old new other event another sound one two =
    let host : one.host ≡ two.host =
    same_host one.host two.host (end_once plan end (Host one.host) (Host two.host) one.at_host two.at_host) in (
      one.happens ∙ ap (λ (h : ℕ). Delivered h packet) host ∙ sym two.happens,
      taken_world_once plan mode end packet old new other sound one.taken two.taken,
    )

pub step_is_determined : ExecutionIsDetermined →
    (plan : Plan) (mode : Mode) (step : Step) (old new other : World) (event another : Event) → IsSound plan →
    Leads plan mode old step event new → Leads plan mode old step another other → (event ≡ another) × (new ≡ other)
step_is_determined law plan mode (Send host packet) old new other event another sound one two =
    let same : two.end ≡ one.end = host_end_once plan two.end one.end host two.at_host one.at_host in (
      one.happens
          ∙ sym two.happens,
      put_out_once plan one.end packet old new other one.put_out
          (subst (λ (e : ℕ). PutsOut plan e packet old other) same two.put_out),
    )
step_is_determined law plan mode (Deliver end packet choices) old new other event another sound (inl one) (inl two) =
    host_delivery_once plan mode end packet choices old new other event another sound one two
step_is_determined law plan mode (Deliver end packet choices) old new other event another sound (inl one) (inr two) =
    absurd (not_both one.host two.box two.port
    (end_once plan end (Host one.host) (Port two.box two.port) one.at_host two.at_port))
step_is_determined law plan mode (Deliver end packet choices) old new other event another sound (inr one) (inl two) =
    absurd (not_both two.host one.box one.port
    (end_once plan end (Host two.host) (Port one.box one.port) two.at_host one.at_port))
step_is_determined law plan mode (Deliver end packet choices) old new other event another sound (inr one) (inr two) =
    box_delivery_once law plan mode end packet choices old new other event another sound one two
step_is_determined law plan mode (Revert box) old new other event another sound one two =
    let box_plan : one.box_plan ≡ two.box_plan = some_inside (sym one.numbered ∙ two.numbered) in (
      one.happens ∙ sym two.happens,
      one.leaves ∙ ap (λ (b : BoxPlan). with_contents old box b.first) box_plan
          ∙ sym two.leaves,
    )

-- runs one after another

composed : (plan : Plan) (mode : Mode) (one two : List Step) (old new : World) (events first second : List Event)
    (mid : World) → events ≡ first ++ second →
    Run plan mode old one first mid → Run plan mode mid two second new → Run plan mode old (one ++ two) events new
composed plan mode [] two old new events first second mid e run rest =
    subst (λ (l : List Event). Run plan mode old two l new) (sym (e ∙ ap (λ (l : List Event). l ++ second) run.0))
    (subst (λ (w : World). Run plan mode w two second new) run.1 rest)
composed plan mode (step ∷ one) two old new events first second mid e run rest = (
  run.0,
  run.1 ++ second,
  run.2,
  e
      ∙ ap (λ (l : List Event). l ++ second) run.3,
  run.4,
  composed plan mode one two run.2 new (run.1 ++ second)
      run.1 second mid refl run.5 rest,
)

abbrev Split : Plan → Mode → List Step → List Step → World → World → List Event → Type 0
Split plan mode one two old new events =
    (first : List Event) × (second : List Event) × (mid : World) × (events ≡ first ++ second)
    × Run plan mode old one first mid × Run plan mode mid two second new

taken_apart : (plan : Plan) (mode : Mode) (one two : List Step) (old new : World) (events : List Event) →
    Run plan mode old (one ++ two) events new → Split plan mode one two old new events
taken_apart plan mode [] two old new events run = ([], events, old, refl, (refl, refl), run)
taken_apart plan mode (step ∷ one) two old new events run =
    let rest = taken_apart plan mode one two run.2 new run.1 run.5 in (
      run.0 ∷ rest.0,
      rest.1,
      rest.2,
      run.3
          ∙ ap (λ (l : List Event). run.0 ∷ l) rest.3,
      (run.0, rest.0, run.2, refl, run.4, rest.4),
      rest.5,
    )

pub runs_compose : (plan : Plan) (mode : Mode) (one two : List Step) (old new : World) (events : List Event) →
    Run plan mode old (one ++ two) events new ↔ Split plan mode one two old new events
runs_compose plan mode one two old new events = (
  taken_apart plan mode one two old new events,
  λ split. composed plan mode one two old new events split.0 split.1 split.2 split.3 split.4 split.5,
)
