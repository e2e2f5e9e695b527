-- What follows from facts in one step, as relations over contents and executions, and what can be derived.
use Rattle.std.specs.Prelude.{◌≡◌, ℕ, ◌<◌, List, [], ◌∷◌}
use Rattle.std.specs.List.{Contains}
use Rattle.amdl_tree.specs.Derivation.{IsDerivable}
use Rattle.box_contents.specs.declared.entry.Entry.{Entry}
use Rattle.box_executions.specs.Execution.{Outcome, Done, Aborted, Emission}
use Rattle.box_executions.specs.Shape.{AreContents}
use Rattle.net_plan.specs.declared.plan.Plan.{Plan}
use Rattle.net_plan.specs.declared.fact.Fact.{Fact}
use Rattle.net_plan.specs.declared.fact.Fact.TheVariants.{Out, State, Abort}
use Rattle.net_plan.specs.declared.fact.Place.TheVariants.{Host, Port}
use Rattle.net_plan.specs.Fact.{ListsExactly}
use Rattle.net_plan.specs.Plan.{packets_of, boxes_of, box_at, Sends}
use Rattle.net_plan.specs.Ends.{IsEndAt, IsLinked}
use Rattle.net_runs.specs.World.{relations_of, Handles}
use Rattle.packet_state.specs.Answers.{class_of_box, answers}

-- from no premise

-- the end is that of a host which may send the packet
pub record IsSent (plan : Plan) (end packet : ℕ) : Type 0 where
  pub host : ℕ
  pub at_host : IsEndAt plan end (Host host)
  pub packet_in_range : packet < packets_of plan
  pub sends : Sends plan host packet

-- the first contents of the box answer with this mask at the packet
pub record IsFirst (plan : Plan) (box packet mask : ℕ) : Type 0 where
  pub box_in_range : box < boxes_of plan
  pub packet_in_range : packet < packets_of plan
  pub answered : answers plan box packet (box_at plan box).first ≡ mask

abbrev pub Starts : Plan → Fact → Type 0
Starts plan (Out end packet) = IsSent plan end packet
Starts plan (State box packet mask) = IsFirst plan box packet mask
Starts plan (Abort box packet) = ⊥

-- from a packet that is put out at an end, and the answers of a box at it

-- the packet comes from the end to a port of the box, where the box has some contents that answer with this mask at the
-- packet; from these contents the handler of the port has an execution with this outcome
pub record Meets (plan : Plan) (end packet box mask : ℕ) (contents : List Entry) (outcome : Outcome) : Type 0 where
  pub packet_in_range : packet < packets_of plan
  pub other : ℕ
  pub port : ℕ
  pub linked : IsLinked plan end other
  pub at_port : IsEndAt plan other (Port box port)
  pub contents_fit : AreContents (relations_of plan (class_of_box plan box)) contents
  pub answered : answers plan box packet contents ≡ mask
  pub choices : List ℕ
  pub handles : Handles plan box port packet contents choices outcome

-- some such execution is done, and puts a packet out at the port with this end
pub record PutsOutAt (plan : Plan) (end packet box mask to sent : ℕ) : Type 0 where
  pub contents : List Entry
  pub left : List Entry
  pub outputs : List Emission
  pub meets : Meets plan end packet box mask contents (Done left outputs)
  pub port : ℕ
  pub at_port : IsEndAt plan to (Port box port)
  pub put_out : Contains outputs (record { port = port; packet = sent })

-- some such execution aborts
pub record AbortsAt (plan : Plan) (end packet box mask : ℕ) : Type 0 where
  pub contents : List Entry
  pub meets : Meets plan end packet box mask contents Aborted

abbrev pub Fires : Plan → ℕ → ℕ → ℕ → ℕ → Fact → Type 0
Fires plan end packet box mask (Out to sent) = PutsOutAt plan end packet box mask to sent
Fires plan end packet box mask (State other second after) = ⊥
Fires plan end packet box mask (Abort other same) = (other ≡ box) × (same ≡ packet) × AbortsAt plan end packet box mask

-- and from the answers of the box at a second packet, which may be the same one

-- some such execution is done, from contents that answer with `before` at the second packet, and leaves contents that
-- answer with `after` at it
pub record Changes (plan : Plan) (end packet box mask second before after : ℕ) : Type 0 where
  pub second_in_range : second < packets_of plan
  pub contents : List Entry
  pub left : List Entry
  pub outputs : List Emission
  pub meets : Meets plan end packet box mask contents (Done left outputs)
  pub answered : answers plan box second contents ≡ before
  pub leaves : answers plan box second left ≡ after

-- one step: the premises are none, or the `Out` of the delivered packet and the `State` of the box at it, or these two
-- and the `State` of the box that is changed, in this order
abbrev pub Follows : Plan → List Fact → Fact → Type 0
Follows plan [] fact = Starts plan fact
Follows plan (Out end packet ∷ State box at mask ∷ []) fact = (at ≡ packet) × Fires plan end packet box mask fact
Follows plan (Out end packet ∷ State box at mask ∷ State same second before ∷ []) (State other also after) =
    (at ≡ packet) × (same ≡ box) × (other ≡ box) × (also ≡ second)
    × Changes plan end packet box mask second before after
Follows plan _ fact = ⊥

-- the list, in file order, of the facts that end a derivation
abbrev pub IsLeast : Plan → List Fact → Type 0
IsLeast plan facts = ListsExactly (IsDerivable (Follows plan)) facts
