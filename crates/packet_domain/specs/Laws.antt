-- What follows from facts, and the results of a fired handler. Steps of runs, and transitions of the domain.
use Rattle.std.specs.Prelude.{ℕ, ◌<◌, ◌↔◌, List, [], ◌∷◌}
use Rattle.net_plan.specs.declared.plan.Plan.{Plan}
use Rattle.net_plan.specs.declared.fact.Fact.{Fact}
use Rattle.net_plan.specs.declared.fact.Fact.TheVariants.{Out, State}
use Rattle.net_plan.specs.Plan.{packets_of}
use Rattle.net_plan.specs.Sound.{IsSound}
use Rattle.net_runs.specs.declared.world.Event.{Event}
use Rattle.net_runs.specs.declared.world.Mode.{Mode}
use Rattle.net_runs.specs.declared.world.Step.{Step}
use Rattle.net_runs.specs.declared.world.World.{World}
use Rattle.net_runs.specs.World as runs
use Rattle.packet_state.specs.Follows.{Follows}
use Rattle.abstract_step.specs.Step.{Result, AreResults}
use Rattle.packet_domain.specs.declared.abstraction.Transition.{Transition}
use Rattle.packet_domain.specs.Reasons.{LeadsTo, SomeGives, AgreeingChanges}
use Rattle.packet_domain.specs.Worlds.{Leads, IsBadTransition}

-- a packet that comes from an end to a port of a box, and the results of the handler of the port on it
pub record IsFiring (plan : Plan) (end packet box port mask : ℕ) (results : List Result) : Type 0 where
  pub sound : IsSound plan
  pub leads : LeadsTo plan end box port
  pub packet_in_range : packet < packets_of plan
  pub fired : AreResults plan box port packet mask results

-- what follows from a delivery is what some result gives, and what follows from it for other answers of the box is what
-- some result makes of them where some contents answer so
pub record IsExact (plan : Plan) (end packet box mask : ℕ) (results : List Result) : Type 0 where
  pub gives : (fact : Fact) → SomeGives plan box packet results fact
      ↔ Follows plan (Out end packet ∷ State box packet mask ∷ []) fact
  pub changes : (second before : ℕ) (fact : Fact) → second < packets_of plan →
      AgreeingChanges plan box packet mask results second before fact
      ↔ Follows plan (Out end packet ∷ State box packet mask ∷ State box second before ∷ []) fact

abbrev pub StepIsExact : Type 0
StepIsExact =
    (plan : Plan) (end packet box port mask : ℕ) (results : List Result) →
    IsFiring plan end packet box port mask results → IsExact plan end packet box mask results

-- the step of the mode, as a transition
abbrev pub transition_of : Mode → Step → Transition
transition_of mode step = record { mode = mode; step = step }

-- the transitions are exactly the steps of runs in either mode, and the bad ones are those with a bad event
pub record AreSteps (plan : Plan) (mode : Mode) (step : Step) (old new : World) : Type 0 where
  pub leads : Leads plan old (transition_of mode step) new
      ↔ ((event : Event) × runs.Leads plan mode old step event new)
  pub bad : IsBadTransition plan old (transition_of mode step) new
      ↔ ((event : Event) × runs.Leads plan mode old step event new × runs.IsBadEvent plan event)

abbrev pub TransitionsAreSteps : Type 0
TransitionsAreSteps = (plan : Plan) (mode : Mode) (step : Step) (old new : World) → AreSteps plan mode step old new
