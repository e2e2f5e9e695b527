-- A box that is linked to itself, by hand: a gate that lets one packet through, a way round, an abort, and a port
-- without a link.
use Rattle.std.specs.Prelude.{ℕ, List, [], ◌∷◌, None, codes}
use Rattle.amdl_tree.specs.Derivation.{IsDerivable}
use Rattle.box_contents.specs.declared.entry.Entry.{Entry}
use Rattle.box_handlers.specs.declared.act.Term.TheVariants.{Field, Value}
use Rattle.box_handlers.specs.declared.act.Change.{Change}
use Rattle.box_handlers.specs.declared.act.Query.{Query}
use Rattle.box_handlers.specs.declared.act.Probe.{Probe}
use Rattle.box_handlers.specs.declared.act.Probe.TheVariants.{Has, Same}
use Rattle.box_handlers.specs.declared.act.Branch.{Branch}
use Rattle.box_handlers.specs.declared.act.Act.{Act}
use Rattle.box_handlers.specs.declared.act.Act.TheVariants.{Remove, Output, Abort, Choose}
use Rattle.net_plan.specs.declared.plan.Plan.{Plan}
use Rattle.net_plan.specs.declared.plan.ClassPlan.{ClassPlan}
use Rattle.net_plan.specs.declared.fact.Fact.TheVariants as facts
use Rattle.net_plan.specs.Follows.{IsBad}
use Rattle.net_runs.specs.declared.world.Mode.{Mode}
use Rattle.net_runs.specs.declared.world.Step.{Step}
use Rattle.net_runs.specs.declared.world.Step.TheVariants.{Send, Deliver, Revert}
use Rattle.net_runs.specs.declared.world.Event.TheVariants.{Moved, Aborted}
use Rattle.net_runs.specs.declared.world.World.{World}
use Rattle.net_runs.specs.World.{first_world, Leads, Run, IsBadEvent, HasNoBadRun}
use Rattle.packet_state.specs.Follows.{Follows}

-- open(dst)
abbrev pub opened : Query
opened = record { relation = 0; args = Field 0 ∷ [] }

-- dst := b
abbrev pub to_b : List Change
to_b = record { field = 0; to = Value 1 } ∷ []

-- a branch whose guard is one probe
abbrev pub where_true : Probe → List Act → Branch
where_true probe body = record { guard = record { any = (probe ∷ []) ∷ [] }; body = body }

-- remove open(dst); output there; output off; output there [dst := b];
abbrev pub passing : List Act
passing = Remove opened ∷ Output 1 [] ∷ Output 3 [] ∷ Output 1 to_b ∷ []

-- if has open(dst) -> { .. } fi, with these statements
abbrev pub at_door : List Act
at_door = Choose (where_true (Has opened) passing ∷ []) ∷ []

-- if dst = a -> { output there [dst := b]; } | dst = b -> { abort; } fi
abbrev pub at_back : List Act
at_back =
    Choose (where_true (Same (Field 0) (Value 0)) (Output 1 to_b ∷ []) ∷ where_true (Same (Field 0) (Value 1))
    (Abort ∷ []) ∷ [])
    ∷ []

abbrev pub gate : ClassPlan
gate = record {
  ports = codes "door" ∷ codes "there" ∷ codes "back" ∷ codes "off" ∷ [];
  relations = record { name = codes "open"; kinds = 0 ∷ [] } ∷ [];
  handlers = at_door ∷ [] ∷ at_back ∷ [] ∷ [];
  queries = opened ∷ [];
}

-- host h, which may send both packets, and box g, which starts with open(a); h is linked to g.door, and g.there to
-- g.back
abbrev pub loop_plan : Plan
loop_plan = record {
  name = codes "loop";
  kinds = record { name = codes "Addr"; values = codes "a" ∷ codes "b" ∷ [] } ∷ [];
  fields = record { name = codes "dst"; kind = 0 } ∷ [];
  classes = gate ∷ [];
  hosts = record {
    name = codes "h";
    sends = (None ∷ None ∷ None ∷ None ∷ None ∷ None ∷ None ∷ None ∷ []) ∷ [];
    forbids = [];
  } ∷ [];
  boxes = record { name = codes "g"; class = 0; first = record { relation = 0; tuple = 0 } ∷ [] } ∷ [];
  links = record { one = 0; two = 1 } ∷ record { one = 2; two = 3 } ∷ [];
}

-- what h sent and waits for the door, what waits on the way round, and the contents of g
abbrev pub state : List ℕ → List ℕ → List Entry → World
state sent round contents = record { waiting = sent ∷ [] ∷ round ∷ [] ∷ [] ∷ []; contents = contents ∷ [] }

abbrev pub open_a : List Entry
open_a = record { relation = 0; tuple = 0 } ∷ []

-- single steps, in either mode
pub record LoopSteps (mode : Mode) : Type 0 where
  -- what is sent goes last
  pub sends : (contents : List Entry) →
      Leads loop_plan mode (state (1 ∷ []) [] contents) (Send 0 0) Moved (state (1 ∷ 0 ∷ []) [] contents)
  -- the first copy passes the door, which is shut then; what is put out stands in its order, and nowhere at a port
  -- without a link
  pub passes :
      Leads loop_plan mode (state (0 ∷ 1 ∷ 0 ∷ []) [] open_a) (Deliver 1 0 (0 ∷ [])) Moved
      (state (1 ∷ 0 ∷ []) (0 ∷ 1 ∷ []) [])
  -- at a shut door a packet is used up, and no choice
  pub stays : Leads loop_plan mode (state (0 ∷ []) [] []) (Deliver 1 0 []) Moved (state [] [] [])
  -- a packet goes round: it is taken out of the channel, and put last into the same channel
  pub goes_round : (contents : List Entry) →
      Leads loop_plan mode (state [] (0 ∷ 0 ∷ []) contents) (Deliver 3 0 (0 ∷ [])) Moved
      (state [] (0 ∷ 1 ∷ []) contents)
  -- an abort uses its packet up, and changes nothing else
  pub aborts : (contents : List Entry) →
      Leads loop_plan mode (state [] (1 ∷ 0 ∷ []) contents) (Deliver 3 1 (1 ∷ [])) (Aborted 0 1)
      (state [] (0 ∷ []) contents)
  -- g gets its first contents
  pub reverts : (sent round : List ℕ) (contents : List Entry) →
      Leads loop_plan mode (state sent round contents) (Revert 0) Moved (state sent round open_a)

abbrev pub LoopStepsByHand : Type 0
LoopStepsByHand = (mode : Mode) → LoopSteps mode

-- a packet is sent, passes the door, goes round and is aborted
abbrev pub way_round : List Step
way_round = Send 0 0 ∷ Deliver 1 0 (0 ∷ []) ∷ Deliver 3 0 (0 ∷ []) ∷ Deliver 3 1 (1 ∷ []) ∷ Revert 0 ∷ []

pub record IsAbortedRun (mode : Mode) : Type 0 where
  pub run :
      Run loop_plan mode (first_world loop_plan) way_round (Moved ∷ Moved ∷ Moved ∷ Aborted 0 1 ∷ Moved ∷ [])
      (state [] (1 ∷ []) open_a)
  pub bad : IsBadEvent loop_plan (Aborted 0 1)

abbrev pub AbortedRunByHand : Type 0
AbortedRunByHand = (mode : Mode) → IsAbortedRun mode

abbrev pub LoopIsUnsafe : Type 0
LoopIsUnsafe = HasNoBadRun loop_plan → ⊥

-- the fact of that abort is derivable, and bad
pub record AbortedFactIsDerivable : Type 0 where
  pub derivable : IsDerivable (Follows loop_plan) (facts.Abort 0 1)
  pub bad : IsBad loop_plan (facts.Abort 0 1)
