-- No step has two causes of a refusal.
use Rattle.std.proofs.Common.{◌≡◌, ℕ, List, ◌∷◌, refl, sym, ap, subst, ◌∙◌, ◌⊎◌, inl, inr, MatchResult}
use Rattle.std.specs.Prelude.{Result, Ok, Err, slice_get}
use Rattle.box_contents.specs.declared.entry.Entry.{Entry}
use Rattle.box_handlers.specs.declared.act.Act.{Act}
use Rattle.handler_runs.specs.Executing.{IsFirstBad}
use Rattle.handler_runs.proofs.EndLemmas.{one_bad}
use Rattle.net_plan.specs.declared.plan.Plan.{Plan}
use Rattle.net_plan.specs.declared.plan.BoxPlan.{BoxPlan}
use Rattle.net_plan.specs.declared.plan.ClassPlan.{ClassPlan}
use Rattle.net_plan.specs.declared.fact.Place.TheVariants.{Host, Port}
use Rattle.net_plan.specs.Sound.{IsSound}
use Rattle.net_plan.proofs.EndLemmas.{end_once}
use Rattle.net_plan.proofs.Linked.{partner_is_unique, linked_back}
use Rattle.net_runs.specs.declared.world.Mode.{Mode}
use Rattle.net_runs.specs.declared.world.Mode.TheVariants.{Ordered}
use Rattle.net_runs.specs.declared.world.Step.{Step}
use Rattle.net_runs.specs.declared.world.Step.TheVariants.{Send, Deliver, Revert}
use Rattle.net_runs.specs.declared.world.Event.{Event}
use Rattle.net_runs.specs.declared.world.World.{World}
use Rattle.net_runs.specs.World.{IsNext, environment_of}
use Rattle.net_runs.specs.Laws.{IsWaiting}
use Rattle.net_runs.proofs.ListLemmas.{some_inside}
use Rattle.concrete_net.specs.declared.refusal.StepRefusal.{StepRefusal}
use Rattle.concrete_net.specs.declared.refusal.StepRefusal.TheVariants.{NoSuch, NotSent, NoCopy, NotHead, BadChoice}
use Rattle.concrete_net.specs.declared.refusal.StepRefusal.TheVariants.{NoMemory}
use Rattle.concrete_net.specs.Seen.{Seen}
use Rattle.concrete_net.specs.Refused.{IsBehind, HasNoCopy, HasHostChoice, HasPortChoice, HasBadChoice, IsCause}
use Rattle.concrete_net.specs.Answered.{IsAnswer}
use Rattle.concrete_net.proofs.CauseLemmas.{not_both, same_box, same_port, excluded}

module _ (plan : Plan) (sound : IsSound plan) (mode : Mode) (world : World) (end packet : ℕ) (choices : List ℕ) where
  -- what can be delivered isn't behind another packet over ordered channels
  not_behind : IsWaiting plan mode end packet world → mode ≡ Ordered → IsBehind plan end packet world → ⊥
  not_behind waiting ordered behind =
      let from : behind.from ≡ waiting.from =
      partner_is_unique plan end behind.from waiting.from sound (linked_back plan behind.from end behind.linked)
      (linked_back plan waiting.from end waiting.linked) in
      let packets : behind.packets ≡ waiting.packets =
      some_inside (sym behind.waits ∙ ap (slice_get world.waiting) from ∙ waiting.waits) in
      let head : (rest : List ℕ) × (waiting.packets ≡ packet ∷ rest) =
      subst (λ (m : Mode). IsNext m packet waiting.packets) ordered waiting.next in
      behind.behind head.0 (packets ∙ head.1)

  -- the first choice that isn't made at a port is one
  port_once : (k l : ℕ) → HasPortChoice plan mode world end packet choices k →
      HasPortChoice plan mode world end packet choices l → k ≡ l
  port_once k l one two =
      let place : Port one.box one.port ≡ Port two.box two.port =
      end_once plan end (Port one.box one.port) (Port two.box two.port) one.at_port two.at_port in
      let boxes : one.box ≡ two.box = same_box one.box two.box one.port two.port place in
      let ports : one.port ≡ two.port = same_port one.box two.box one.port two.port place in
      let plans : one.box_plan ≡ two.box_plan =
      some_inside (sym one.at_box.numbered ∙ ap (slice_get plan.boxes) boxes ∙ two.at_box.numbered) in
      let classes : one.class ≡ two.class =
      some_inside (sym one.at_box.of_class ∙ ap (λ (b : BoxPlan). slice_get plan.classes b.class) plans
      ∙ two.at_box.of_class) in
      let handlers : one.handler ≡ two.handler =
      some_inside (sym one.handles ∙ ap (λ (c : ClassPlan). slice_get c.handlers one.port) classes
      ∙ ap (slice_get two.class.handlers) ports ∙ two.handles) in
      let same : one.contents ≡ two.contents =
      some_inside (sym one.has ∙ ap (slice_get world.contents) boxes ∙ two.has) in
      one_bad (environment_of plan one.class packet) one.handler one.contents choices k l one.bad
      (subst (λ (c : ClassPlan). IsFirstBad (environment_of plan c packet) one.handler one.contents choices l)
      (sym classes)
      (subst (λ (h : List Act). IsFirstBad (environment_of plan two.class packet) h one.contents choices l)
      (sym handlers)
      (subst (λ (s : List Entry). IsFirstBad (environment_of plan two.class packet) two.handler s choices l)
      (sym same) two.bad)))

  waits_for : (k : ℕ) → HasBadChoice plan mode world (Deliver end packet choices) k →
      IsWaiting plan mode end packet world
  waits_for k bad = elim bad [ inl one ↦ one.waiting | inr one ↦ one.waiting ]

  choice_once : (k l : ℕ) → HasBadChoice plan mode world (Deliver end packet choices) k →
      HasBadChoice plan mode world (Deliver end packet choices) l → k ≡ l
  choice_once k l a b =
      elim a [
        | inl one ↦ elim b [
          | inl two ↦ one.first ∙ sym two.first
          | inr two ↦ absurd
              (not_both one.host two.box two.port
              (end_once plan end (Host one.host) (Port two.box two.port) one.at_host two.at_port))
        ]
        | inr one ↦ elim b [
          | inl two ↦ absurd
              (not_both two.host one.box one.port
              (end_once plan end (Host two.host) (Port one.box one.port) two.at_host one.at_port))
          | inr two ↦ port_once k l one two
        ]
      ]

  copied : HasNoCopy plan world (Deliver end packet choices) → IsWaiting plan mode end packet world → ⊥
  copied none waiting = none waiting.from waiting.packets waiting.linked waiting.waits waiting.waiting

  abbrev Old : Seen
  Old = record { mode = mode; world = world }

  deliver_once : (one two : StepRefusal) → IsCause plan Old (Deliver end packet choices) one →
      IsCause plan Old (Deliver end packet choices) two → one ≡ two
  deliver_once NoSuch NoSuch a b = refl
  deliver_once NoSuch NotSent a b = absurd b.1
  deliver_once NoSuch NoCopy a b = absurd (a b.0)
  deliver_once NoSuch NotHead a b = absurd (a b.0)
  deliver_once NoSuch (BadChoice l) a b = absurd (a b.0)
  deliver_once NoSuch NoMemory a b = absurd b
  deliver_once NotSent two a b = absurd a.1
  deliver_once NoCopy NoSuch a b = absurd (b a.0)
  deliver_once NoCopy NotSent a b = absurd b.1
  deliver_once NoCopy NoCopy a b = refl
  deliver_once NoCopy NotHead a b =
      absurd (a.1 b.1.1.from b.1.1.packets b.1.1.linked b.1.1.waits b.1.1.waiting)
  deliver_once NoCopy (BadChoice l) a b = absurd (copied a.1 (waits_for l b.1))
  deliver_once NoCopy NoMemory a b = absurd b
  deliver_once NotHead NoSuch a b = absurd (b a.0)
  deliver_once NotHead NotSent a b = absurd b.1
  deliver_once NotHead NoCopy a b =
      absurd (b.1 a.1.1.from a.1.1.packets a.1.1.linked a.1.1.waits a.1.1.waiting)
  deliver_once NotHead NotHead a b = refl
  deliver_once NotHead (BadChoice l) a b = absurd (not_behind (waits_for l b.1) a.1.0 a.1.1)
  deliver_once NotHead NoMemory a b = absurd b
  deliver_once (BadChoice k) NoSuch a b = absurd (b a.0)
  deliver_once (BadChoice k) NotSent a b = absurd b.1
  deliver_once (BadChoice k) NoCopy a b = absurd (copied b.1 (waits_for k a.1))
  deliver_once (BadChoice k) NotHead a b = absurd (not_behind (waits_for k a.1) b.1.0 b.1.1)
  deliver_once (BadChoice k) (BadChoice l) a b = ap BadChoice (choice_once k l a.1 b.1)
  deliver_once (BadChoice k) NoMemory a b = absurd b
  deliver_once NoMemory two a b = absurd a

send_once : (plan : Plan) (old : Seen) (host packet : ℕ) (one two : StepRefusal) →
    IsCause plan old (Send host packet) one → IsCause plan old (Send host packet) two → one ≡ two
send_once plan old host packet NoSuch NoSuch a b = refl
send_once plan old host packet NoSuch NotSent a b = absurd (a b.0)
send_once plan old host packet NoSuch NoCopy a b = absurd b.1
send_once plan old host packet NoSuch NotHead a b = absurd b.1
send_once plan old host packet NoSuch (BadChoice l) a b = absurd b.1
send_once plan old host packet NoSuch NoMemory a b = absurd b
send_once plan old host packet NotSent NoSuch a b = absurd (b a.0)
send_once plan old host packet NotSent NotSent a b = refl
send_once plan old host packet NotSent NoCopy a b = absurd b.1
send_once plan old host packet NotSent NotHead a b = absurd b.1
send_once plan old host packet NotSent (BadChoice l) a b = absurd b.1
send_once plan old host packet NotSent NoMemory a b = absurd b
send_once plan old host packet NoCopy two a b = absurd a.1
send_once plan old host packet NotHead two a b = absurd a.1
send_once plan old host packet (BadChoice k) two a b = absurd a.1
send_once plan old host packet NoMemory two a b = absurd a

revert_once : (plan : Plan) (old : Seen) (box : ℕ) (one two : StepRefusal) → IsCause plan old (Revert box) one →
    IsCause plan old (Revert box) two → one ≡ two
revert_once plan old box NoSuch NoSuch a b = refl
revert_once plan old box NoSuch NotSent a b = absurd b.1
revert_once plan old box NoSuch NoCopy a b = absurd b.1
revert_once plan old box NoSuch NotHead a b = absurd b.1
revert_once plan old box NoSuch (BadChoice l) a b = absurd b.1
revert_once plan old box NoSuch NoMemory a b = absurd b
revert_once plan old box NotSent two a b = absurd a.1
revert_once plan old box NoCopy two a b = absurd a.1
revert_once plan old box NotHead two a b = absurd a.1
revert_once plan old box (BadChoice k) two a b = absurd a.1
revert_once plan old box NoMemory two a b = absurd a

pub one_cause : (plan : Plan) → IsSound plan → (old : Seen) (step : Step) (one two : StepRefusal) →
    IsCause plan old step one → IsCause plan old step two → one ≡ two
one_cause plan sound old (Send host packet) one two a b = send_once plan old host packet one two a b
one_cause plan sound old (Deliver end packet choices) one two a b =
    deliver_once plan sound old.mode old.world end packet choices one two a b
one_cause plan sound old (Revert box) one two a b = revert_once plan old box one two a b

pub cause_refuses : (plan : Plan) → IsSound plan → (old new : Seen) (step : Step)
    (result : Result Event StepRefusal) → IsAnswer plan old step result new →
    (cause : StepRefusal) → IsCause plan old step cause →
    MatchResult result (λ _. ⊥) (λ refusal. (refusal ≡ cause) ⊎ (refusal ≡ NoMemory))
cause_refuses plan sound old new step (Ok found) answer cause why =
    excluded plan sound old step cause found new.world why answer.1
cause_refuses plan sound old new step (Err refusal) answer cause why =
    elim answer.1 [
      | inl other ↦ inl (one_cause plan sound old step refusal cause other why)
      | inr none ↦ inr none
    ]
