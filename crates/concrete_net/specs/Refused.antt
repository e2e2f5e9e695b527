-- Why a step isn't made: the causes, of which each leaves those before it out.
use Rattle.std.specs.Prelude.{◌≡◌, ◌≢◌, ℕ, ◌<◌, ◌⊎◌, List, [], ◌∷◌, Some, length, slice_get}
use Rattle.std.specs.List.{Contains}
use Rattle.box_contents.specs.declared.entry.Entry.{Entry}
use Rattle.box_handlers.specs.declared.act.Act.{Act}
use Rattle.net_plan.specs.declared.plan.Plan.{Plan}
use Rattle.net_plan.specs.declared.plan.BoxPlan.{BoxPlan}
use Rattle.net_plan.specs.declared.plan.ClassPlan.{ClassPlan}
use Rattle.net_plan.specs.declared.fact.Place.TheVariants.{Host, Port}
use Rattle.net_plan.specs.Plan.{packets_of, boxes_of, Sends}
use Rattle.net_plan.specs.Ends.{ends_of, IsEndAt, IsLinked}
use Rattle.net_runs.specs.declared.world.Mode.{Mode}
use Rattle.net_runs.specs.declared.world.Mode.TheVariants.{Ordered}
use Rattle.net_runs.specs.declared.world.Step.{Step}
use Rattle.net_runs.specs.declared.world.Step.TheVariants.{Send, Deliver, Revert}
use Rattle.net_runs.specs.declared.world.World.{World}
use Rattle.net_runs.specs.World.{Waits, HasContents, IsBoxAt, environment_of}
use Rattle.net_runs.specs.Laws.{IsWaiting}
use Rattle.handler_runs.specs.Executing.{IsFirstBad}
use Rattle.concrete_net.specs.declared.refusal.StepRefusal.{StepRefusal}
use Rattle.concrete_net.specs.declared.refusal.StepRefusal.TheVariants.{NoSuch, NotSent, NoCopy, NotHead, BadChoice}
use Rattle.concrete_net.specs.declared.refusal.StepRefusal.TheVariants.{NoMemory}
use Rattle.concrete_net.specs.Seen.{Seen}

-- the numbers of the step are in range
abbrev pub IsThere : Plan → Step → Type 0
IsThere plan (Send host packet) = (host < length plan.hosts) × (packet < packets_of plan)
IsThere plan (Deliver end packet choices) = (end < ends_of plan) × (packet < packets_of plan)
IsThere plan (Revert box) = box < boxes_of plan

-- the step is a send, of a packet that the host doesn't send
abbrev pub IsNotSent : Plan → Step → Type 0
IsNotSent plan (Send host packet) = Sends plan host packet → ⊥
IsNotSent plan (Deliver end packet choices) = ⊥
IsNotSent plan (Revert box) = ⊥

-- the step is a delivery, and the packet doesn't wait in a channel towards the end; where the end has no link there is
-- no such channel
abbrev pub HasNoCopy : Plan → World → Step → Type 0
HasNoCopy plan world (Send host packet) = ⊥
HasNoCopy plan world (Deliver end packet choices) =
    (from : ℕ) (packets : List ℕ) → IsLinked plan from end → Waits world from packets → Contains packets packet → ⊥
HasNoCopy plan world (Revert box) = ⊥

-- the packet waits in the channel towards the end, and not at its head
pub record IsBehind (plan : Plan) (end packet : ℕ) (world : World) : Type 0 where
  pub from : ℕ
  pub linked : IsLinked plan from end
  pub packets : List ℕ
  pub waits : Waits world from packets
  pub waiting : Contains packets packet
  pub behind : (rest : List ℕ) → packets ≢ packet ∷ rest

-- the step is a delivery over ordered channels, of a packet that isn't at the head
abbrev pub IsNotHead : Plan → Mode → World → Step → Type 0
IsNotHead plan mode world (Send host packet) = ⊥
IsNotHead plan mode world (Deliver end packet choices) = (mode ≡ Ordered) × IsBehind plan end packet world
IsNotHead plan mode world (Revert box) = ⊥

-- a packet that can be delivered to a host comes with choices
pub record HasHostChoice (plan : Plan) (mode : Mode) (world : World) (end packet : ℕ) (choices : List ℕ) (k : ℕ) :
    Type 0 where
  pub host : ℕ
  pub at_host : IsEndAt plan end (Host host)
  pub waiting : IsWaiting plan mode end packet world
  pub some : choices ≢ []
  pub first : k ≡ 0

-- a packet that can be delivered to a port comes with choices by which the handler of the port doesn't execute
pub record HasPortChoice (plan : Plan) (mode : Mode) (world : World) (end packet : ℕ) (choices : List ℕ) (k : ℕ) :
    Type 0 where
  pub box : ℕ
  pub port : ℕ
  pub at_port : IsEndAt plan end (Port box port)
  pub waiting : IsWaiting plan mode end packet world
  pub contents : List Entry
  pub has : HasContents world box contents
  pub box_plan : BoxPlan
  pub class : ClassPlan
  pub at_box : IsBoxAt plan box box_plan class
  pub handler : List Act
  pub handles : slice_get class.handlers port ≡ Some handler
  pub bad : IsFirstBad (environment_of plan class packet) handler contents choices k

-- the step is a delivery, and this choice is the first that isn't made
abbrev pub HasBadChoice : Plan → Mode → World → Step → ℕ → Type 0
HasBadChoice plan mode world (Send host packet) k = ⊥
HasBadChoice plan mode world (Deliver end packet choices) k =
    HasHostChoice plan mode world end packet choices k ⊎ HasPortChoice plan mode world end packet choices k
HasBadChoice plan mode world (Revert box) k = ⊥

-- the cause of a refusal; want of memory is tied to none
abbrev pub IsCause : Plan → Seen → Step → StepRefusal → Type 0
IsCause plan seen step NoSuch = IsThere plan step → ⊥
IsCause plan seen step NotSent = IsThere plan step × IsNotSent plan step
IsCause plan seen step NoCopy = IsThere plan step × HasNoCopy plan seen.world step
IsCause plan seen step NotHead = IsThere plan step × IsNotHead plan seen.mode seen.world step
IsCause plan seen step (BadChoice k) = IsThere plan step × HasBadChoice plan seen.mode seen.world step k
IsCause plan seen step NoMemory = ⊥
