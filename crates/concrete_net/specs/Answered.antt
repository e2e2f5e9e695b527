-- What a call that makes a step answers.
use Rattle.std.specs.Prelude.{◌≡◌, ◌⊎◌, MatchResult, Result}
use Rattle.net_plan.specs.declared.plan.Plan.{Plan}
use Rattle.net_runs.specs.declared.world.Step.{Step}
use Rattle.net_runs.specs.declared.world.Event.{Event}
use Rattle.net_runs.specs.World.{Leads}
use Rattle.concrete_net.specs.declared.refusal.StepRefusal.{StepRefusal}
use Rattle.concrete_net.specs.declared.refusal.StepRefusal.TheVariants.{NoMemory}
use Rattle.concrete_net.specs.Seen.{Seen}
use Rattle.concrete_net.specs.Refused.{IsCause}

-- the step leads from the old state to the new one with this event
abbrev pub StepsTo : Plan → Seen → Step → Event → Seen → Type 0
StepsTo plan old step event new = (new.mode ≡ old.mode) × Leads plan old.mode old.world step event new.world

-- the step is made, or refused for its cause or for want of memory, and then the state is what it was
abbrev pub IsAnswer : Plan → Seen → Step → Result Event StepRefusal → Seen → Type 0
IsAnswer plan old step result new =
    MatchResult result (λ event. StepsTo plan old step event new)
    (λ refusal. (new ≡ old) × (IsCause plan old step refusal ⊎ (refusal ≡ NoMemory)))
