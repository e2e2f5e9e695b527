-- Where there is a cause, a step leads nowhere.
use Rattle.std.proofs.Common.{◌≡◌, ℕ, ◌+◌, ◌<◌, List, ◌∷◌, drop, sym, ap, subst, ◌∙◌, ◌⊎◌}
use Rattle.std.proofs.Common.{inl, inr, MatchResult}
use Rattle.std.specs.Prelude.{Result, Ok, Err, slice_get}
use Rattle.std.proofs.lemmas.List.{take-append-drop}
use Rattle.std.proofs.lemmas.Option.{slice_get_within}
use Rattle.box_contents.specs.declared.entry.Entry.{Entry}
use Rattle.box_handlers.specs.declared.act.Act.{Act}
use Rattle.box_executions.specs.Environment.{Environment}
use Rattle.box_executions.specs.Execution.{Outcome, Executes}
use Rattle.handler_runs.specs.Executing.{IsFirstBad}
use Rattle.net_plan.specs.declared.plan.Plan.{Plan}
use Rattle.net_plan.specs.declared.plan.BoxPlan.{BoxPlan}
use Rattle.net_plan.specs.declared.plan.ClassPlan.{ClassPlan}
use Rattle.net_plan.specs.declared.fact.Place.TheVariants.{Host, Port}
use Rattle.net_plan.specs.Plan.{packets_of}
use Rattle.net_plan.specs.Sound.{IsSound}
use Rattle.net_plan.specs.Ends.{ends_of, IsEndAt}
use Rattle.net_plan.proofs.EndLemmas.{host_ends, end_in_range, end_once}
use Rattle.net_plan.proofs.Linked.{partner_is_unique, linked_back}
use Rattle.net_runs.specs.declared.world.Mode.{Mode}
use Rattle.net_runs.specs.declared.world.Mode.TheVariants.{Ordered}
use Rattle.net_runs.specs.declared.world.Step.{Step}
use Rattle.net_runs.specs.declared.world.Step.TheVariants.{Send, Deliver, Revert}
use Rattle.net_runs.specs.declared.world.Event.{Event}
use Rattle.net_runs.specs.declared.world.World.{World}
use Rattle.net_runs.specs.World.{IsNext, IsTaken, HasContents, environment_of, Leads, Handles}
use Rattle.net_runs.specs.Laws.{StepIsDetermined}
use Rattle.net_runs.proofs.ListLemmas.{some_inside, stood_there}
use Rattle.concrete_net.specs.declared.refusal.StepRefusal.{StepRefusal}
use Rattle.concrete_net.specs.declared.refusal.StepRefusal.TheVariants.{NoSuch, NotSent, NoCopy, NotHead, BadChoice}
use Rattle.concrete_net.specs.declared.refusal.StepRefusal.TheVariants.{NoMemory}
use Rattle.concrete_net.specs.Seen.{Seen}
use Rattle.concrete_net.specs.Refused.{IsBehind, HasHostChoice, HasPortChoice, IsCause}
use Rattle.concrete_net.specs.Answered.{StepsTo, IsAnswer}

bad_never_executes : (env : Environment) (handler : List Act) (contents : List Entry) (choices : List ℕ) (k : ℕ)
    (outcome : Outcome) → IsFirstBad env handler contents choices k →
    Executes env handler contents choices outcome → ⊥
bad_never_executes env handler contents choices k outcome bad executes =
    elim bad.ends [
      | inl early ↦ early.1 (
        drop (k + 1) choices,
        outcome,
        subst (λ (l : List ℕ). Executes env handler contents l outcome) (sym (take-append-drop (k + 1) choices))
            executes,
      )
      | inr short ↦ short.1 outcome executes
    ]

pub not_both : (host box port : ℕ) → Host host ≡ Port box port → ⊥
not_both host box port e = cc

pub same_box : (one two port other : ℕ) → Port one port ≡ Port two other → one ≡ two
same_box one two port other e = cc

pub same_port : (one two port other : ℕ) → Port one port ≡ Port two other → port ≡ other
same_port one two port other e = cc

module _ (plan : Plan) (sound : IsSound plan) (mode : Mode) (world : World) (end packet : ℕ) (choices : List ℕ) where
  -- a packet that is taken isn't behind another over ordered channels
  not_behind : (new : World) → IsTaken plan mode end packet world new → mode ≡ Ordered →
      IsBehind plan end packet world → ⊥
  not_behind new taken ordered behind =
      let from : behind.from ≡ taken.from =
      partner_is_unique plan end behind.from taken.from sound (linked_back plan behind.from end behind.linked)
      (linked_back plan taken.from end taken.linked) in
      let packets : behind.packets ≡ taken.packets =
      some_inside (sym behind.waits ∙ ap (slice_get world.waiting) from ∙ taken.waits) in
      let head : (rest : List ℕ) × (taken.packets ≡ packet ∷ rest) =
      subst (λ (m : Mode). IsNext m packet taken.packets) ordered taken.next in
      behind.behind head.0 (packets ∙ head.1)

  -- choices that are bad at the port don't execute there
  not_bad : (box port k : ℕ) (contents : List Entry) (outcome : Outcome) → IsEndAt plan end (Port box port) →
      HasContents world box contents → Handles plan box port packet contents choices outcome →
      HasPortChoice plan mode world end packet choices k → ⊥
  not_bad box port k contents outcome at_port has handles bad =
      let place : Port bad.box bad.port ≡ Port box port =
      end_once plan end (Port bad.box bad.port) (Port box port) bad.at_port at_port in
      let boxes : bad.box ≡ box = same_box bad.box box bad.port port place in
      let ports : bad.port ≡ port = same_port bad.box box bad.port port place in
      let plans : bad.box_plan ≡ handles.box_plan =
      some_inside (sym bad.at_box.numbered ∙ ap (slice_get plan.boxes) boxes ∙ handles.at_box.numbered) in
      let classes : bad.class ≡ handles.class =
      some_inside (sym bad.at_box.of_class ∙ ap (λ (b : BoxPlan). slice_get plan.classes b.class) plans
      ∙ handles.at_box.of_class) in
      let handlers : bad.handler ≡ handles.handler =
      some_inside (sym bad.handles ∙ ap (λ (c : ClassPlan). slice_get c.handlers bad.port) classes
      ∙ ap (slice_get handles.class.handlers) ports ∙ handles.at_port) in
      let same : bad.contents ≡ contents = some_inside (sym bad.has ∙ ap (slice_get world.contents) boxes ∙ has) in
      bad_never_executes (environment_of plan bad.class packet) bad.handler bad.contents choices k outcome bad.bad
      (subst (λ (c : ClassPlan). Executes (environment_of plan c packet) bad.handler bad.contents choices outcome)
      (sym classes)
      (subst (λ (h : List Act). Executes (environment_of plan handles.class packet) h bad.contents choices outcome)
      (sym handlers)
      (subst (λ (s : List Entry). Executes (environment_of plan handles.class packet) handles.handler s choices
      outcome) (sym same) handles.executes)))

  abbrev Old : Seen
  Old = record { mode = mode; world = world }

  -- what is taken out of a channel leaves no cause but bad choices
  taken_alone : (cause : StepRefusal) (new : World) → end < ends_of plan → packet < packets_of plan →
      IsTaken plan mode end packet world new → IsCause plan Old (Deliver end packet choices) cause →
      (k : ℕ) × (HasHostChoice plan mode world end packet choices k
      ⊎ HasPortChoice plan mode world end packet choices k)
  taken_alone NoSuch new at less taken why = absurd (why (at, less))
  taken_alone NotSent new at less taken why = absurd why.1
  taken_alone NoCopy new at less taken why =
      absurd (why.1 taken.from taken.packets taken.linked taken.waits
      (stood_there packet taken.packets taken.others taken.takes))
  taken_alone NotHead new at less taken why = absurd (not_behind new taken why.1.0 why.1.1)
  taken_alone (BadChoice k) new at less taken why = (k, why.1)
  taken_alone NoMemory new at less taken why = absurd why

send_excluded : (plan : Plan) (old : Seen) (host packet : ℕ) (cause : StepRefusal) (event : Event) (new : World) →
    IsCause plan old (Send host packet) cause → Leads plan old.mode old.world (Send host packet) event new → ⊥
send_excluded plan old host packet NoSuch event new why leads =
    why (((host_ends plan leads.end host).0 leads.at_host).0, leads.packet_in_range)
send_excluded plan old host packet NotSent event new why leads = why.1 leads.sends
send_excluded plan old host packet NoCopy event new why leads = why.1
send_excluded plan old host packet NotHead event new why leads = why.1
send_excluded plan old host packet (BadChoice k) event new why leads = why.1
send_excluded plan old host packet NoMemory event new why leads = why

revert_excluded : (plan : Plan) (old : Seen) (box : ℕ) (cause : StepRefusal) (event : Event) (new : World) →
    IsCause plan old (Revert box) cause → Leads plan old.mode old.world (Revert box) event new → ⊥
revert_excluded plan old box NoSuch event new why leads =
    why (slice_get_within plan.boxes box leads.box_plan leads.numbered)
revert_excluded plan old box NotSent event new why leads = why.1
revert_excluded plan old box NoCopy event new why leads = why.1
revert_excluded plan old box NotHead event new why leads = why.1
revert_excluded plan old box (BadChoice k) event new why leads = why.1
revert_excluded plan old box NoMemory event new why leads = why

pub excluded : (plan : Plan) → IsSound plan → (old : Seen) (step : Step) (cause : StepRefusal) (event : Event)
    (new : World) → IsCause plan old step cause → Leads plan old.mode old.world step event new → ⊥
excluded plan sound old (Send host packet) cause event new why leads =
    send_excluded plan old host packet cause event new why leads
excluded plan sound old (Deliver end packet choices) cause event new why (inl leads) =
    let left = taken_alone plan sound old.mode old.world end packet choices cause new
    (end_in_range plan end (Host leads.host) leads.at_host) leads.packet_in_range leads.taken why in
    elim left.1 [
      | inl bad ↦ bad.some leads.no_choices
      | inr bad ↦ not_both leads.host bad.box bad.port
          (end_once plan end (Host leads.host) (Port bad.box bad.port) leads.at_host bad.at_port)
    ]
excluded plan sound old (Deliver end packet choices) cause event new why (inr leads) =
    let left = taken_alone plan sound old.mode old.world end packet choices cause leads.left
    (end_in_range plan end (Port leads.box leads.port) leads.at_port) leads.packet_in_range leads.taken why in
    elim left.1 [
      | inl bad ↦ not_both bad.host leads.box leads.port
          (end_once plan end (Host bad.host) (Port leads.box leads.port) bad.at_host leads.at_port)
      | inr bad ↦ not_bad plan sound old.mode old.world end packet choices leads.box leads.port left.0 leads.contents
          leads.outcome leads.at_port leads.has leads.handles bad
    ]
excluded plan sound old (Revert box) cause event new why leads =
    revert_excluded plan old box cause event new why leads

seen_same : (one two : Seen) → one.mode ≡ two.mode → one.world ≡ two.world → one ≡ two
seen_same one two modes worlds = λ i. record { mode = modes i; world = worlds i }

pub leads_alone : StepIsDetermined → (plan : Plan) → IsSound plan → (old new : Seen) (step : Step)
    (result : Result Event StepRefusal) → IsAnswer plan old step result new →
    (event : Event) (other : Seen) → StepsTo plan old step event other →
    MatchResult result (λ found. (found ≡ event) × (new ≡ other)) (λ refusal. refusal ≡ NoMemory)
leads_alone law plan sound old new step (Ok found) answer event other leads =
    let same = law plan old.mode step old.world new.world other.world found event sound answer.1 leads.1 in
    (same.0, seen_same new other (answer.0 ∙ sym leads.0) same.1)
leads_alone law plan sound old new step (Err refusal) answer event other leads =
    elim answer.1 [
      | inl cause ↦ absurd (excluded plan sound old step refusal event other.world cause leads.1)
      | inr none ↦ none
    ]
