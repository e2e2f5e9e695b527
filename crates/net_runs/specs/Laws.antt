-- Laws of steps and runs. Those on covers and on safe runs are of networks without boxes.
use Rattle.std.specs.Prelude.{◌≡◌, ℕ, ◌<◌, List, [], ◌∷◌, ◌++◌, ◌↔◌, length}
use Rattle.std.specs.List.{Contains}
use Rattle.box_contents.specs.declared.entry.Entry.{Entry}
use Rattle.box_executions.specs.Execution.{Outcome}
use Rattle.net_plan.specs.declared.plan.Plan.{Plan}
use Rattle.net_plan.specs.declared.fact.Fact.{Fact}
use Rattle.net_plan.specs.declared.fact.Fact.TheVariants.{Out}
use Rattle.net_runs.specs.declared.world.Mode.{Mode}
use Rattle.net_runs.specs.declared.world.Mode.TheVariants.{Unordered, Ordered}
use Rattle.net_runs.specs.declared.world.Step.{Step}
use Rattle.net_runs.specs.declared.world.Step.TheVariants.{Send, Deliver, Revert}
use Rattle.net_runs.specs.declared.world.Event.{Event}
use Rattle.net_runs.specs.declared.world.Event.TheVariants.{Moved, Delivered, Aborted}
use Rattle.net_runs.specs.declared.world.World.{World}
use Rattle.net_plan.specs.Sound.{IsSound}
use Rattle.net_plan.specs.declared.fact.Place.TheVariants.{Host, Port}
use Rattle.net_plan.specs.Plan.{packets_of, boxes_of, Sends, HasNoBox}
use Rattle.net_plan.specs.Ends.{IsEndAt, IsLinked}
use Rattle.net_plan.specs.Follows.{Starts, IsLeast, IsBad}
use Rattle.net_runs.specs.World.{first_world, Waits, HasContents, IsWorld, IsNext, Handles, Leads, Run, IsBadEvent}
use Rattle.net_runs.specs.World.{HasNoBadRun}
use Rattle.net_runs.specs.Covers.{Covers, IsClosed}

-- an ordered run is a run, with the same events and states
abbrev pub OrderedRunIsRun : Type 0
OrderedRunIsRun =
    (plan : Plan) (steps : List Step) (old new : World) (events : List Event) →
    Run plan Ordered old steps events new → Run plan Unordered old steps events new

-- from a state a step leads to at most one event and state
abbrev pub StepIsDetermined : Type 0
StepIsDetermined =
    (plan : Plan) (mode : Mode) (step : Step) (old new other : World) (event another : Event) → IsSound plan →
    Leads plan mode old step event new → Leads plan mode old step another other → (event ≡ another) × (new ≡ other)

-- a run of two lists of steps is a run of the one and then of the other
abbrev pub RunsCompose : Type 0
RunsCompose =
    (plan : Plan) (mode : Mode) (one two : List Step) (old new : World) (events : List Event) →
    Run plan mode old (one ++ two) events new ↔
    ((first : List Event) × (second : List Event) × (mid : World) × (events ≡ first ++ second)
    × Run plan mode old one first mid × Run plan mode mid two second new)

-- the first state is well shaped, and so is each state that a step or a run leads to from one that is
abbrev pub FirstIsWorld : Type 0
FirstIsWorld = (plan : Plan) → IsSound plan → IsWorld plan (first_world plan)

abbrev pub StepKeepsWorld : Type 0
StepKeepsWorld =
    (plan : Plan) (mode : Mode) (step : Step) (old new : World) (event : Event) → IsSound plan → IsWorld plan old →
    Leads plan mode old step event new → IsWorld plan new

abbrev pub RunKeepsWorld : Type 0
RunKeepsWorld =
    (plan : Plan) (mode : Mode) (steps : List Step) (old new : World) (events : List Event) → IsSound plan →
    IsWorld plan old →
    Run plan mode old steps events new → IsWorld plan new

-- a host may send each of its packets, at any time
abbrev pub SendIsEnabled : Type 0
SendIsEnabled =
    (plan : Plan) (mode : Mode) (host packet : ℕ) (old : World) → IsSound plan → IsWorld plan old →
    host < length plan.hosts → packet < packets_of plan → Sends plan host packet →
    (new : World) × Leads plan mode old (Send host packet) Moved new

-- the packet waits in the channel towards the end, at its head where channels are ordered
pub record IsWaiting (plan : Plan) (mode : Mode) (end packet : ℕ) (world : World) : Type 0 where
  pub from : ℕ
  pub linked : IsLinked plan from end
  pub packets : List ℕ
  pub waits : Waits world from packets
  pub waiting : Contains packets packet
  pub next : IsNext mode packet packets

-- what waits towards a host can be delivered to it
abbrev pub HostDeliveryIsEnabled : Type 0
HostDeliveryIsEnabled =
    (plan : Plan) (mode : Mode) (end host packet : ℕ) (old : World) → IsWorld plan old →
    IsEndAt plan end (Host host) → IsWaiting plan mode end packet old →
    (new : World) × Leads plan mode old (Deliver end packet []) (Delivered host packet) new

-- what an execution does that others may see
abbrev pub event_of : ℕ → ℕ → Outcome → Event
event_of box packet (Outcome.Done contents emissions) = Moved
event_of box packet Outcome.Aborted = Aborted box packet

-- what waits towards a port can be delivered to it, by each list of choices by which its handler executes
abbrev pub BoxDeliveryIsEnabled : Type 0
BoxDeliveryIsEnabled =
    (plan : Plan) (mode : Mode) (end box port packet : ℕ) (contents : List Entry) (choices : List ℕ)
    (outcome : Outcome) (old : World) →
    IsSound plan → IsWorld plan old → IsEndAt plan end (Port box port) → IsWaiting plan mode end packet old →
    HasContents old box contents → Handles plan box port packet contents choices outcome →
    (new : World) × Leads plan mode old (Deliver end packet choices) (event_of box packet outcome) new

-- and there is such a list
abbrev pub SomeBoxDeliveryIsEnabled : Type 0
SomeBoxDeliveryIsEnabled =
    (plan : Plan) (mode : Mode) (end box port packet : ℕ) (old : World) →
    IsSound plan → IsWorld plan old → IsEndAt plan end (Port box port) → IsWaiting plan mode end packet old →
    (choices : List ℕ) × (event : Event) × (new : World) × Leads plan mode old (Deliver end packet choices) event new

-- a box may be reverted at any time
abbrev pub RevertIsEnabled : Type 0
RevertIsEnabled =
    (plan : Plan) (mode : Mode) (box : ℕ) (old : World) → box < boxes_of plan →
    (new : World) × Leads plan mode old (Revert box) Moved new

-- a closed set covers the first state, and what a step leads to from a state that it covers
pub record CoverIsKept (plan : Plan) (facts : List Fact) : Type 0 where
  pub first : Covers facts (first_world plan)
  pub step : (mode : Mode) (step : Step) (old new : World) (event : Event) → Leads plan mode old step event new →
      Covers facts old → Covers facts new

abbrev pub ClosedSetCovers : Type 0
ClosedSetCovers = (plan : Plan) (facts : List Fact) → HasNoBox plan → IsClosed plan facts → CoverIsKept plan facts

-- a bad step from a state that a set covers has its bad fact in the set
abbrev pub BadStepIsCovered : Type 0
BadStepIsCovered =
    (plan : Plan) (facts : List Fact) (mode : Mode) (step : Step) (old new : World) (event : Event) → HasNoBox plan →
    Leads plan mode old step event new → Covers facts old → IsBadEvent plan event →
    (fact : Fact) × Contains facts fact × IsBad plan fact

-- what a host may send from its end, and what the host at the other end forbids, is sent and delivered in two steps,
-- of which the second is bad
pub record IsBadRun (plan : Plan) (mode : Mode) (end packet : ℕ) : Type 0 where
  pub sender : ℕ
  pub at_sender : IsEndAt plan end (Host sender)
  pub other : ℕ
  pub receiver : ℕ
  pub at_receiver : IsEndAt plan other (Host receiver)
  pub last : World
  pub run : Run plan mode (first_world plan) (Send sender packet ∷ Deliver other packet [] ∷ [])
      (Moved ∷ Delivered receiver packet ∷ []) last
  pub bad : IsBadEvent plan (Delivered receiver packet)

abbrev pub BadFactIsRun : Type 0
BadFactIsRun =
    (plan : Plan) (mode : Mode) (end packet : ℕ) → HasNoBox plan → Starts plan (Out end packet) →
    IsBad plan (Out end packet) → IsBadRun plan mode end packet

-- where no derivable fact is bad, no run has a bad event
abbrev pub SafeNetworkRunsSafely : Type 0
SafeNetworkRunsSafely =
    (plan : Plan) (facts : List Fact) → HasNoBox plan → IsLeast plan facts →
    ((fact : Fact) → Contains facts fact → IsBad plan fact → ⊥) → HasNoBadRun plan
