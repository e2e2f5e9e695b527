-- What is bad in a network, and what follows and can be derived in a network without boxes.
use Rattle.std.specs.Prelude.{ℕ, ◌<◌, List, [], ◌∷◌}
use Rattle.amdl_tree.specs.Derivation.{IsDerivable}
use Rattle.net_plan.specs.declared.plan.Plan.{Plan}
use Rattle.net_plan.specs.declared.fact.Fact.{Fact}
use Rattle.net_plan.specs.declared.fact.Fact.TheVariants.{Out, State, Abort}
use Rattle.net_plan.specs.declared.fact.Place.TheVariants.{Host}
use Rattle.net_plan.specs.Fact.{ListsExactly}
use Rattle.net_plan.specs.Plan.{packets_of, Sends, Forbids}
use Rattle.net_plan.specs.Ends.{IsEndAt, IsLinked}

-- the end is linked to the end of a host which forbids the packet
abbrev pub IsForbiddenDelivery : Plan → ℕ → ℕ → Type 0
IsForbiddenDelivery plan end packet =
    (host : ℕ) × (other : ℕ) × IsLinked plan end other × IsEndAt plan other (Host host) × Forbids plan host packet

-- an abort, or a packet put out at an end that is linked to a host which forbids it
abbrev pub IsBad : Plan → Fact → Type 0
IsBad plan (Out end packet) = IsForbiddenDelivery plan end packet
IsBad plan (State box packet mask) = ⊥
IsBad plan (Abort box packet) = Unit {0}

-- follows from no premise where there is no box: what a host may send may be put out at its end
abbrev pub Starts : Plan → Fact → Type 0
Starts plan (Out end packet) =
    (host : ℕ) × IsEndAt plan end (Host host) × (packet < packets_of plan) × Sends plan host packet
Starts plan (State box packet mask) = ⊥
Starts plan (Abort box packet) = ⊥

-- the fact follows from the premises in one step where there is no box; the premises are the `Out` of the delivered
-- packet,
-- the `State` of the box at it, and the `State` that is changed, in this order, and without a box no premises give
-- anything
abbrev pub Follows : Plan → List Fact → Fact → Type 0
Follows plan [] fact = Starts plan fact
Follows plan (premise ∷ premises) fact = ⊥

-- the list, in file order, of the facts that end a derivation where there is no box
abbrev pub IsLeast : Plan → List Fact → Type 0
IsLeast plan facts = ListsExactly (IsDerivable (Follows plan)) facts
