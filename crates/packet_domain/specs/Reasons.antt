-- Why a fact is offered, in terms of the results of a fired handler, and in terms of what follows.
use Rattle.std.specs.Prelude.{◌≡◌, ℕ, ◌<◌, ◌⊎◌, true, false, List, [], ◌∷◌, length}
use Rattle.std.specs.List.{Contains}
use Rattle.box_contents.specs.declared.entry.Entry.{Entry}
use Rattle.net_plan.specs.declared.plan.Plan.{Plan}
use Rattle.net_plan.specs.declared.fact.Fact.{Fact}
use Rattle.net_plan.specs.declared.fact.Fact.TheVariants.{Out, State, Abort}
use Rattle.net_plan.specs.declared.fact.Place.TheVariants.{Host, Port}
use Rattle.net_plan.specs.Plan.{packets_of, boxes_of, box_at, Sends}
use Rattle.net_plan.specs.Ends.{IsEndAt, IsLinked}
use Rattle.packet_state.specs.Answers.{answers}
use Rattle.packet_state.specs.Follows.{Follows}
use Rattle.box_masks.specs.Writes.{AreShown}
use Rattle.abstract_step.specs.declared.put.Put.{Put}
use Rattle.abstract_step.specs.Step.{Result}
use Rattle.move_table.specs.Offered.{IsDone}
use Rattle.move_table.specs.Moves.{IsPatch}

-- from no premise

-- the host of a number sends the packet
pub record IsSentBy (plan : Plan) (host packet : ℕ) (fact : Fact) : Type 0 where
  pub end : ℕ
  pub at_host : IsEndAt plan end (Host host)
  pub sends : Sends plan host packet
  pub is : fact ≡ Out end packet

-- the first contents of the box answer so at the packet
abbrev pub IsFirstAt : Plan → ℕ → ℕ → Fact → Type 0
IsFirstAt plan box packet fact = fact ≡ State box packet (answers plan box packet (box_at plan box).first)

-- any packet of a host, and any host
abbrev pub SendsAny : Plan → ℕ → Fact → Type 0
SendsAny plan host fact = (packet : ℕ) × (packet < packets_of plan) × IsSentBy plan host packet fact

abbrev pub SendAny : Plan → Fact → Type 0
SendAny plan fact = (host : ℕ) × (host < length plan.hosts) × SendsAny plan host fact

-- any packet at a box, and any box
abbrev pub FirstAny : Plan → ℕ → Fact → Type 0
FirstAny plan box fact = (packet : ℕ) × (packet < packets_of plan) × IsFirstAt plan box packet fact

abbrev pub FirstsAny : Plan → Fact → Type 0
FirstsAny plan fact = (box : ℕ) × (box < boxes_of plan) × FirstAny plan box fact

-- from a result

abbrev pub IsPutOut : Plan → ℕ → Put → Fact → Type 0
IsPutOut plan box put fact = (end : ℕ) × IsEndAt plan end (Port box put.port) × (fact ≡ Out end put.packet)

abbrev pub ArePutOut : Plan → ℕ → List Put → Fact → Type 0
ArePutOut plan box puts fact = (put : Put) × Contains puts put × IsPutOut plan box put fact

-- the abort of a result that aborts, and else what is put out
abbrev pub Gives : Plan → ℕ → ℕ → Result → Fact → Type 0
Gives plan box packet result fact =
    ((result.aborted ≡ true) × (fact ≡ Abort box packet))
    ⊎ ((result.aborted ≡ false) × ArePutOut plan box result.puts fact)

abbrev pub SomeGives : Plan → ℕ → ℕ → List Result → Fact → Type 0
SomeGives plan box packet results fact =
    (result : Result) × Contains results result × Gives plan box packet result fact

-- some contents answer so at the packet
abbrev pub IsAnswered : Plan → ℕ → ℕ → ℕ → Type 0
IsAnswered plan box packet mask = (contents : List Entry) × (answers plan box packet contents ≡ mask)

-- what a result that doesn't abort makes of answers at a packet
pub record IsChange (plan : Plan) (box : ℕ) (result : Result) (packet before : ℕ) (fact : Fact) : Type 0 where
  pub goes_on : result.aborted ≡ false
  pub after : ℕ
  pub patched : IsPatch plan box result.writes packet before after
  pub is : fact ≡ State box packet after

abbrev pub SomeChanges : Plan → ℕ → List Result → ℕ → ℕ → Fact → Type 0
SomeChanges plan box results packet before fact =
    (result : Result) × Contains results result × IsChange plan box result packet before fact

-- where some contents answer with the mask at the packet that was fired, and so at the second one
abbrev pub AgreeingChanges : Plan → ℕ → ℕ → ℕ → List Result → ℕ → ℕ → Fact → Type 0
AgreeingChanges plan box packet mask results second before fact =
    AreShown plan box packet mask second before × SomeChanges plan box results second before fact

-- of answers at the second packet that are done, and at any packet
abbrev pub ChangesAt : Plan → List ℕ → ℕ → ℕ → ℕ → List Result → ℕ → Fact → Type 0
ChangesAt plan done box packet mask results second fact =
    (before : ℕ) × IsDone plan done (State box second before)
    × AgreeingChanges plan box packet mask results second before fact

abbrev pub ChangesAll : Plan → List ℕ → ℕ → ℕ → ℕ → List Result → Fact → Type 0
ChangesAll plan done box packet mask results fact =
    (second : ℕ) × (second < packets_of plan) × ChangesAt plan done box packet mask results second fact

-- from facts that are done

-- the end is linked to the port of the box
abbrev pub LeadsTo : Plan → ℕ → ℕ → ℕ → Type 0
LeadsTo plan end box port = (other : ℕ) × IsLinked plan end other × IsEndAt plan other (Port box port)

-- from a delivery, alone or with other answers of the box
abbrev pub IsDelivered : Plan → List ℕ → ℕ → ℕ → ℕ → ℕ → Fact → Type 0
IsDelivered plan done end packet box mask fact =
    Follows plan (Out end packet ∷ State box packet mask ∷ []) fact
    ⊎ ((second : ℕ) × (before : ℕ) × IsDone plan done (State box second before)
    × Follows plan (Out end packet ∷ State box packet mask ∷ State box second before ∷ []) fact)

abbrev pub IsDeliveredFrom : Plan → List ℕ → ℕ → ℕ → ℕ → ℕ → Fact → Type 0
IsDeliveredFrom plan done end packet box mask fact =
    IsDone plan done (Out end packet) × IsDelivered plan done end packet box mask fact

abbrev pub DeliversTo : Plan → List ℕ → ℕ → ℕ → ℕ → Fact → Type 0
DeliversTo plan done end packet box fact =
    (mask : ℕ) × IsDone plan done (State box packet mask) × IsDelivered plan done end packet box mask fact

abbrev pub AsOut : Plan → List ℕ → ℕ → ℕ → Fact → Type 0
AsOut plan done end packet fact = (box : ℕ) × DeliversTo plan done end packet box fact

abbrev pub AsState : Plan → List ℕ → ℕ → ℕ → ℕ → Fact → Type 0
AsState plan done box packet mask fact =
    (end : ℕ) × IsDeliveredFrom plan done end packet box mask fact

-- the same, through one port
abbrev pub AsStateAt : Plan → List ℕ → ℕ → ℕ → ℕ → ℕ → Fact → Type 0
AsStateAt plan done box packet mask port fact =
    (end : ℕ) × LeadsTo plan end box port × IsDeliveredFrom plan done end packet box mask fact

-- as the answers that are changed: by one packet from one end, by any, through one port, and through any
abbrev pub AsChangedBy : Plan → List ℕ → ℕ → ℕ → ℕ → ℕ → ℕ → Fact → Type 0
AsChangedBy plan done end packet box second before fact =
    (mask : ℕ) × IsDone plan done (State box packet mask)
    × Follows plan (Out end packet ∷ State box packet mask ∷ State box second before ∷ []) fact

abbrev pub AsChangedFrom : Plan → List ℕ → ℕ → ℕ → ℕ → ℕ → Fact → Type 0
AsChangedFrom plan done end box second before fact =
    (packet : ℕ) × IsDone plan done (Out end packet) × AsChangedBy plan done end packet box second before fact

abbrev pub AsChangedAt : Plan → List ℕ → ℕ → ℕ → ℕ → ℕ → Fact → Type 0
AsChangedAt plan done box second before port fact =
    (end : ℕ) × LeadsTo plan end box port × AsChangedFrom plan done end box second before fact

abbrev pub AsChanged : Plan → List ℕ → ℕ → ℕ → ℕ → Fact → Type 0
AsChanged plan done box second before fact = (end : ℕ) × AsChangedFrom plan done end box second before fact

-- a fact, with facts that are done
abbrev pub Reacts : Plan → List ℕ → Fact → Fact → Type 0
Reacts plan done (Out end packet) fact = AsOut plan done end packet fact
Reacts plan done (State box packet mask) fact =
    AsState plan done box packet mask fact ⊎ AsChanged plan done box packet mask fact
Reacts plan done (Abort box packet) fact = ⊥
