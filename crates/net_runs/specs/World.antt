-- States of a network, steps, runs and bad events.
use Rattle.std.specs.Prelude.{◌≡◌, ℕ, ◌<◌, ◌⊎◌, List, [], ◌∷◌, ◌++◌, Some, length, map, replicate, slice_get, slice_set}
use Rattle.std.specs.List.{All, Contains}
use Rattle.box_contents.specs.declared.entry.Entry.{Entry}
use Rattle.box_handlers.specs.declared.act.Act.{Act}
use Rattle.box_executions.specs.Environment.{Environment}
use Rattle.box_executions.specs.Execution.{Emission, Outcome, Executes}
use Rattle.box_executions.specs.Shape.{AreContents}
use Rattle.net_plan.specs.declared.plan.Plan.{Plan}
use Rattle.net_plan.specs.declared.plan.BoxPlan.{BoxPlan}
use Rattle.net_plan.specs.declared.plan.ClassPlan.{ClassPlan}
use Rattle.net_runs.specs.declared.world.Mode.{Mode}
use Rattle.net_runs.specs.declared.world.Mode.TheVariants.{Unordered, Ordered}
use Rattle.net_runs.specs.declared.world.Step.{Step}
use Rattle.net_runs.specs.declared.world.Step.TheVariants.{Send, Deliver, Revert}
use Rattle.net_runs.specs.declared.world.Event.{Event}
use Rattle.net_runs.specs.declared.world.Event.TheVariants.{Moved, Delivered, Aborted}
use Rattle.net_runs.specs.declared.world.World.{World}
use Rattle.net_plan.specs.declared.fact.Place.TheVariants.{Host, Port}
use Rattle.net_plan.specs.Plan.{sizes_of, packets_of, boxes_of, arguments_of, Sends, Forbids}
use Rattle.net_plan.specs.Ends.{ends_of, IsEndAt, IsLinked}

-- states

-- the first state: all channels are empty, and each box has its first contents
abbrev pub first_world : Plan → World
first_world plan = record { waiting = replicate (ends_of plan) []; contents = map (λ box. box.first) plan.boxes }

-- these packets wait in the channel out of the end, in their order
abbrev pub Waits : World → ℕ → List ℕ → Type 0
Waits world end packets = slice_get world.waiting end ≡ Some packets

-- the state with other packets in that channel
abbrev pub with_waiting : World → ℕ → List ℕ → World
with_waiting world end packets = record world { waiting = slice_set world.waiting end packets }

-- the box has these contents
abbrev pub HasContents : World → ℕ → List Entry → Type 0
HasContents world box contents = slice_get world.contents box ≡ Some contents

-- the state with other contents of that box
abbrev pub with_contents : World → ℕ → List Entry → World
with_contents world box contents = record world { contents = slice_set world.contents box contents }

-- the end has no link
abbrev pub IsUnlinked : Plan → ℕ → Type 0
IsUnlinked plan end = (other : ℕ) → IsLinked plan end other → ⊥

-- the box of this number, and its class
pub record IsBoxAt (plan : Plan) (box : ℕ) (box_plan : BoxPlan) (class : ClassPlan) : Type 0 where
  pub numbered : slice_get plan.boxes box ≡ Some box_plan
  pub of_class : slice_get plan.classes box_plan.class ≡ Some class

-- how many values each argument of each relation of the class has
abbrev pub relations_of : Plan → ClassPlan → List (List ℕ)
relations_of plan class = map (arguments_of plan) class.relations

-- a well-shaped state: there is one channel for each end, and one list of contents for each box; packets that wait are
-- in range, none waits at an end without a link, and the contents of a box are tuples of its class
pub record IsWorld (plan : Plan) (world : World) : Type 0 where
  pub channels : length world.waiting ≡ ends_of plan
  pub in_range : (end : ℕ) (packets : List ℕ) → Waits world end packets →
      All (λ packet. packet < packets_of plan) packets
  pub unlinked : (end : ℕ) (packets : List ℕ) → Waits world end packets → IsUnlinked plan end → packets ≡ []
  pub boxes : length world.contents ≡ boxes_of plan
  pub contents_fit : (box : ℕ) (box_plan : BoxPlan) (class : ClassPlan) (contents : List Entry) →
      IsBoxAt plan box box_plan class → HasContents world box contents →
      AreContents (relations_of plan class) contents

-- steps

-- the first copy of the packet, and one copy alone, is taken out of the list, wherever it stands
pub record TakesFirst (packet : ℕ) (before after : List ℕ) : Type 0 where
  pub front : List ℕ
  pub rest : List ℕ
  pub stood : before ≡ front ++ (packet ∷ rest)
  pub first : Contains front packet → ⊥
  pub taken : after ≡ front ++ rest

-- over ordered channels the packet is the head of the list
abbrev pub IsNext : Mode → ℕ → List ℕ → Type 0
IsNext Unordered packet packets = Unit {0}
IsNext Ordered packet packets = (rest : List ℕ) × (packets ≡ packet ∷ rest)

-- the packet is taken out of the channel towards the end
pub record IsTaken (plan : Plan) (mode : Mode) (end packet : ℕ) (old new : World) : Type 0 where
  -- the end of the other side, out of which the channel leads
  pub from : ℕ
  pub linked : IsLinked plan from end
  pub packets : List ℕ
  pub waits : Waits old from packets
  pub next : IsNext mode packet packets
  pub others : List ℕ
  pub takes : TakesFirst packet packets others
  pub leaves : new ≡ with_waiting old from others

-- the packet goes last into the channel out of the end
pub record GoesLast (end packet : ℕ) (old new : World) : Type 0 where
  pub packets : List ℕ
  pub waits : Waits old end packets
  pub leaves : new ≡ with_waiting old end (packets ++ packet ∷ [])

-- an end that sends: where it has a link the packet goes last into the channel out of it, and else nowhere
pub record PutsOut (plan : Plan) (end packet : ℕ) (old new : World) : Type 0 where
  pub linked : (other : ℕ) → IsLinked plan end other → GoesLast end packet old new
  pub unlinked : IsUnlinked plan end → new ≡ old

-- a host sends one of its packets
pub record IsSend (plan : Plan) (host packet : ℕ) (old : World) (event : Event) (new : World) : Type 0 where
  pub end : ℕ
  pub at_host : IsEndAt plan end (Host host)
  pub packet_in_range : packet < packets_of plan
  pub sends : Sends plan host packet
  pub put_out : PutsOut plan end packet old new
  pub happens : event ≡ Moved

-- a packet that waits in the channel towards a host is taken out of it and delivered
pub record IsHostDelivery (plan : Plan) (mode : Mode) (end packet : ℕ) (choices : List ℕ) (old : World) (event : Event)
    (new : World) : Type 0 where
  pub host : ℕ
  pub at_host : IsEndAt plan end (Host host)
  pub packet_in_range : packet < packets_of plan
  pub taken : IsTaken plan mode end packet old new
  pub no_choices : choices ≡ []
  pub happens : event ≡ Delivered host packet

-- what a handler of the class runs on where it receives the packet
abbrev pub environment_of : Plan → ClassPlan → ℕ → Environment
environment_of plan class packet =
    record { headers = sizes_of plan; relations = relations_of plan class; packet = packet; picked = [] }

-- the handler of the port of the box executes on the packet
pub record Handles (plan : Plan) (box port packet : ℕ) (contents : List Entry) (choices : List ℕ)
    (outcome : Outcome) : Type 0 where
  pub box_plan : BoxPlan
  pub class : ClassPlan
  pub at_box : IsBoxAt plan box box_plan class
  pub handler : List Act
  pub at_port : slice_get class.handlers port ≡ Some handler
  pub executes : Executes (environment_of plan class packet) handler contents choices outcome

-- what a box puts out goes out of its ports, one packet after another
abbrev pub PutsOutAll : Plan → ℕ → List Emission → World → World → Type 0
PutsOutAll plan box [] old new = new ≡ old
PutsOutAll plan box (emission ∷ emissions) old new =
    (end : ℕ) × (mid : World) × IsEndAt plan end (Port box emission.port) × PutsOut plan end emission.packet old mid
    × PutsOutAll plan box emissions mid new

-- what an execution of the box leads to, once the packet is taken: an abort changes nothing else
abbrev pub Reacts : Plan → ℕ → ℕ → Outcome → World → Event → World → Type 0
Reacts plan box packet (Outcome.Done contents emissions) old event new =
    (event ≡ Moved) × PutsOutAll plan box emissions (with_contents old box contents) new
Reacts plan box packet Outcome.Aborted old event new = (event ≡ Aborted box packet) × (new ≡ old)

-- a packet that waits in the channel towards a port is taken out of it, and the handler of the port executes on the
-- contents of the box, with these choices
pub record IsBoxDelivery (plan : Plan) (mode : Mode) (end packet : ℕ) (choices : List ℕ) (old : World) (event : Event)
    (new : World) : Type 0 where
  pub box : ℕ
  pub port : ℕ
  pub at_port : IsEndAt plan end (Port box port)
  pub packet_in_range : packet < packets_of plan
  pub left : World
  pub taken : IsTaken plan mode end packet old left
  pub contents : List Entry
  pub has : HasContents old box contents
  pub outcome : Outcome
  pub handles : Handles plan box port packet contents choices outcome
  pub reacts : Reacts plan box packet outcome left event new

-- a box gets its first contents
pub record IsRevert (plan : Plan) (box : ℕ) (old : World) (event : Event) (new : World) : Type 0 where
  pub box_plan : BoxPlan
  pub numbered : slice_get plan.boxes box ≡ Some box_plan
  pub leaves : new ≡ with_contents old box box_plan.first
  pub happens : event ≡ Moved

-- the step leads from the old state to the new one with this event
abbrev pub Leads : Plan → Mode → World → Step → Event → World → Type 0
Leads plan mode old (Send host packet) event new = IsSend plan host packet old event new
Leads plan mode old (Deliver end packet choices) event new =
    IsHostDelivery plan mode end packet choices old event new
    ⊎ IsBoxDelivery plan mode end packet choices old event new
Leads plan mode old (Revert box) event new = IsRevert plan box old event new

-- the steps lead, one after another, from the old state to the new one with these events
abbrev pub Run : Plan → Mode → World → List Step → List Event → World → Type 0
Run plan mode old [] events new = (events ≡ []) × (new ≡ old)
Run plan mode old (step ∷ steps) events new =
    (event : Event) × (others : List Event) × (mid : World) ×
    (events ≡ event ∷ others) × Leads plan mode old step event mid × Run plan mode mid steps others new

-- an abort, or a packet that is delivered to a host which forbids it
abbrev pub IsBadEvent : Plan → Event → Type 0
IsBadEvent plan Moved = ⊥
IsBadEvent plan (Delivered host packet) = (host < length plan.hosts) × Forbids plan host packet
IsBadEvent plan (Aborted box packet) = Unit {0}

-- no run from the first state, of any length, in either mode, has a bad event
abbrev pub HasNoBadRun : Plan → Type 0
HasNoBadRun plan =
    (mode : Mode) (steps : List Step) (events : List Event) (new : World) →
    Run plan mode (first_world plan) steps events new →
    (event : Event) → Contains events event → IsBadEvent plan event → ⊥
