-- Laws of answers, of what follows, and of runs that a closed set covers. Sets of facts are lists here.
use Rattle.std.specs.Prelude.{◌≡◌, ℕ, ◌^◌, ◌<◌, List, Some, ◌↔◌, length, slice_get}
use Rattle.std.specs.List.{Contains}
use Rattle.std.specs.Int.{bit_at}
use Rattle.amdl_tree.specs.Derivation.{IsDerivable}
use Rattle.box_contents.specs.declared.entry.Entry.{Entry}
use Rattle.box_handlers.specs.declared.act.Query.{Query}
use Rattle.box_executions.specs.Environment.{Environment, entry_in}
use Rattle.net_plan.specs.declared.plan.Plan.{Plan}
use Rattle.net_plan.specs.declared.fact.Fact.{Fact}
use Rattle.net_plan.specs.Plan.{HasNoBox}
use Rattle.net_plan.specs.Follows.{IsBad}
use Rattle.net_plan.specs.Cells.{IsInRange}
use Rattle.net_plan.specs.Sound.{IsSound}
use Rattle.net_runs.specs.declared.world.Mode.{Mode}
use Rattle.net_runs.specs.declared.world.Step.{Step}
use Rattle.net_runs.specs.declared.world.Event.{Event}
use Rattle.net_runs.specs.declared.world.World.{World}
use Rattle.net_runs.specs.World.{first_world, IsWorld, Leads, IsBadEvent, HasNoBadRun}
use Rattle.packet_state.specs.Answers.{answers_in}
use Rattle.packet_state.specs.Follows.{Starts, Follows, IsLeast}
use Rattle.packet_state.specs.Covers.{Covers, IsClosed}
use Rattle.packet_state.specs.Pairs.{CountsPairs}

-- a bit of the answers is 1 exactly where the contents have the tuple of its query, and there are no other bits
pub record AreBits (env : Environment) (queries : List Query) (contents : List Entry) : Type 0 where
  pub each : (k : ℕ) (query : Query) → slice_get queries k ≡ Some query →
      (bit_at (answers_in env queries contents) k ≡ 1) ↔ Contains contents (entry_in env query)
  pub below : answers_in env queries contents < 2 ^ length queries

abbrev pub AnswersAreBits : Type 0
AnswersAreBits = (env : Environment) (queries : List Query) (contents : List Entry) → AreBits env queries contents

-- what follows is in range, whatever the premises are
abbrev pub FollowsInRange : Type 0
FollowsInRange =
    (plan : Plan) (premises : List Fact) (fact : Fact) → Follows plan premises fact → IsInRange plan fact

-- a network has one list of derivable facts, and it is closed
abbrev pub LeastIsUnique : Type 0
LeastIsUnique = (plan : Plan) (one two : List Fact) → IsLeast plan one → IsLeast plan two → one ≡ two

abbrev pub LeastIsClosed : Type 0
LeastIsClosed = (plan : Plan) (facts : List Fact) → IsLeast plan facts → IsClosed plan (Contains facts)

-- each closed set has all derivable facts
abbrev pub LeastIsWithin : Type 0
LeastIsWithin =
    (plan : Plan) (least facts : List Fact) → IsLeast plan least → IsClosed plan (Contains facts) →
    (fact : Fact) → Contains least fact → Contains facts fact

-- a set has one number of pairs
abbrev pub PairCountIsUnique : Type 0
PairCountIsUnique =
    (plan : Plan) (facts : List Fact) (one two : ℕ) → CountsPairs plan (Contains facts) one →
    CountsPairs plan (Contains facts) two → one ≡ two

-- where there is no box, exactly what the hosts send is derivable
abbrev pub DerivableIsSent : Type 0
DerivableIsSent = (plan : Plan) (fact : Fact) → HasNoBox plan → IsDerivable (Follows plan) fact ↔ Starts plan fact

-- a closed set covers the first state, and what a step leads to from a well shaped state that it covers
pub record CoverIsKept (plan : Plan) (facts : List Fact) : Type 0 where
  pub first : Covers plan (Contains facts) (first_world plan)
  pub step : (mode : Mode) (step : Step) (old new : World) (event : Event) → IsWorld plan old →
      Leads plan mode old step event new →
      Covers plan (Contains facts) old → Covers plan (Contains facts) new

abbrev pub ClosedSetCovers : Type 0
ClosedSetCovers = (plan : Plan) (facts : List Fact) → IsClosed plan (Contains facts) → CoverIsKept plan facts

-- a bad step from a well shaped state that a closed set covers has its bad fact in the set
abbrev pub BadStepIsCovered : Type 0
BadStepIsCovered =
    (plan : Plan) (facts : List Fact) → IsClosed plan (Contains facts) →
    (mode : Mode) (step : Step) (old new : World) (event : Event) → IsWorld plan old →
    Leads plan mode old step event new →
    Covers plan (Contains facts) old → IsBadEvent plan event →
    (fact : Fact) × Contains facts fact × IsBad plan fact

-- where no fact of a closed set is bad, no run has a bad event
abbrev pub ClosedSetRunsSafely : Type 0
ClosedSetRunsSafely =
    (plan : Plan) (facts : List Fact) → IsSound plan → IsClosed plan (Contains facts) →
    ((fact : Fact) → Contains facts fact → IsBad plan fact → ⊥) → HasNoBadRun plan

-- where no derivable fact is bad, no run has a bad event
abbrev pub SafeNetworkRunsSafely : Type 0
SafeNetworkRunsSafely =
    (plan : Plan) (facts : List Fact) → IsSound plan → IsLeast plan facts →
    ((fact : Fact) → Contains facts fact → IsBad plan fact → ⊥) → HasNoBadRun plan
