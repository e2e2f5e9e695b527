-- What comes of the handler of a port of a box in a state.
use Rattle.std.specs.Prelude.{◌≡◌, ℕ, List, Some, slice_get, MatchResult, Result}
use Rattle.box_contents.specs.declared.entry.Entry.{Entry}
use Rattle.box_handlers.specs.declared.act.Act.{Act}
use Rattle.std.specs.List.{remove}
use Rattle.box_executions.specs.Execution.{Emission, Executes}
use Rattle.net_plan.specs.declared.plan.Plan.{Plan}
use Rattle.net_plan.specs.declared.plan.BoxPlan.{BoxPlan}
use Rattle.net_plan.specs.declared.plan.ClassPlan.{ClassPlan}
use Rattle.net_runs.specs.declared.world.World.{World}
use Rattle.net_runs.specs.World.{Waits, with_waiting, HasContents, with_contents, IsBoxAt, environment_of}
use Rattle.net_runs.specs.World.{PutsOutAll}
use Rattle.net_runs.specs.declared.world.Event.{Event}
use Rattle.net_runs.specs.declared.world.Event.TheVariants.{Moved}
use Rattle.concrete_net.specs.declared.refusal.StepRefusal.{StepRefusal}
use Rattle.concrete_net.specs.declared.refusal.StepRefusal.TheVariants.{BadChoice, NoMemory}
use Rattle.concrete_net.specs.Seen.{Seen}
use Rattle.handler_runs.specs.declared.handling.Ending.{Ending}
use Rattle.handler_runs.specs.declared.handling.ExecuteRefusal.{ExecuteRefusal}
use Rattle.handler_runs.specs.declared.handling.ExecuteRefusal.TheVariants as refusal
use Rattle.handler_runs.specs.Executing.{outcome_of, IsRefused}

-- the choices come to this at the handler of the port
pub record IsExecuted (plan : Plan) (world : World) (box port packet : ℕ) (choices : List ℕ)
    (result : Result Ending ExecuteRefusal) : Type 0 where
  pub box_plan : BoxPlan
  pub class : ClassPlan
  pub at_box : IsBoxAt plan box box_plan class
  pub handler : List Act
  pub handles : slice_get class.handlers port ≡ Some handler
  pub contents : List Entry
  pub has : HasContents world box contents
  pub answer : MatchResult result
      (λ ending. Executes (environment_of plan class packet) handler contents choices (outcome_of ending))
      (IsRefused (environment_of plan class packet) handler contents choices)

abbrev pub refusal_of : ExecuteRefusal → StepRefusal
refusal_of (refusal.BadChoice k) = BadChoice k
refusal_of refusal.NoMemory = NoMemory

-- the packet at the place is taken out of the channel, the box gets these contents and puts these packets out; or there
-- is no memory for it, and the state is what it was
abbrev pub IsExchanged : Plan → ℕ → ℕ → ℕ → List Entry → List Emission → Seen → Result Event StepRefusal → Seen → Type 0
IsExchanged plan from place box contents emissions old result new =
    MatchResult result
    (λ event. (event ≡ Moved) × (new.mode ≡ old.mode) × ((packets : List ℕ) → Waits old.world from packets →
    PutsOutAll plan box emissions (with_contents (with_waiting old.world from (remove packets place)) box contents)
    new.world))
    (λ refusal. (new ≡ old) × (refusal ≡ NoMemory))
