-- What the names of a schedule stand for in a network, and the first step that stands for none.
use Rattle.std.specs.Prelude.{◌≡◌, ◌<◌, ◌≤◌, ℕ, zero, suc, List, [], ◌∷◌, Some, None, Result, Ok, Err, ◌⊎◌, ⊤}
use Rattle.amdl_tree.specs.declared.tree.End.{End}
use Rattle.amdl_tree.specs.declared.tree.End.TheVariants.{Host as AtHost, Port as AtPort}
use Rattle.net_plan.specs.declared.plan.Plan.{Plan}
use Rattle.net_plan.specs.Plan.{packets_of, IsHostNamed, IsBoxNamed}
use Rattle.net_plan.specs.Ends.{IsEndNamed}
use Rattle.net_runs.specs.declared.world.Step.{Step}
use Rattle.net_runs.specs.declared.world.Step.TheVariants.{Send, Deliver, Revert}
use Rattle.schedule_text.specs.declared.steps.ScheduleStep.{ScheduleStep}
use Rattle.schedule_text.specs.declared.steps.ScheduleStep.TheVariants as named
use Rattle.schedule_text.specs.declared.refusal.StepFault.{StepFault}
use Rattle.schedule_text.specs.declared.refusal.StepFault.TheVariants as faults
use Rattle.schedule_text.specs.declared.refusal.ResolveRefusal.{ResolveRefusal}
use Rattle.schedule_text.specs.declared.refusal.ResolveRefusal.TheVariants.{UnknownName, OutOfRange, NoMemory}

-- the end of this number has the names of the end
abbrev pub IsEndCalled : Plan → End → ℕ → Type 0
IsEndCalled plan (AtHost host) = IsEndNamed plan host None
IsEndCalled plan (AtPort box port) = IsEndNamed plan box (Some port)

-- the host, end or box of this number is the one that the step names
abbrev pub IsNumberOf : Plan → ScheduleStep → ℕ → Type 0
IsNumberOf plan (named.Send host packet) number = IsHostNamed plan host number
IsNumberOf plan (named.Deliver end packet choices) number = IsEndCalled plan end number
IsNumberOf plan (named.Revert box) number = IsBoxNamed plan box number

-- the host, end or box is declared, or it isn't
abbrev pub IsDeclared : Plan → ScheduleStep → Type 0
IsDeclared plan step = (number : ℕ) × IsNumberOf plan step number

abbrev pub IsUndeclared : Plan → ScheduleStep → Type 0
IsUndeclared plan step = (number : ℕ) → IsNumberOf plan step number → ⊥

-- the packet is below the number of packets, or it isn't; a step without a packet is in range
abbrev pub IsPacketInRange : Plan → ScheduleStep → Type 0
IsPacketInRange plan (named.Send host packet) = packet < packets_of plan
IsPacketInRange plan (named.Deliver end packet choices) = packet < packets_of plan
IsPacketInRange plan (named.Revert box) = ⊤

abbrev pub IsPacketOutOfRange : Plan → ScheduleStep → Type 0
IsPacketOutOfRange plan (named.Send host packet) = packets_of plan ≤ packet
IsPacketOutOfRange plan (named.Deliver end packet choices) = packets_of plan ≤ packet
IsPacketOutOfRange plan (named.Revert box) = ⊥

-- a step without a fault, and the faults in their order
abbrev pub IsFaultless : Plan → ScheduleStep → Type 0
IsFaultless plan step = IsDeclared plan step × IsPacketInRange plan step

abbrev pub IsOutOfRange : Plan → ScheduleStep → Type 0
IsOutOfRange plan step = IsDeclared plan step × IsPacketOutOfRange plan step

-- the step of the network is the one that is named: numbers stand for names, and the rest is the same
abbrev pub Resolves : Plan → ScheduleStep → Step → Type 0
Resolves plan (named.Send host packet) (Send number other) =
    IsHostNamed plan host number × (packet < packets_of plan) × (other ≡ packet)
Resolves plan (named.Deliver end packet choices) (Deliver number other others) =
    IsEndCalled plan end number × (packet < packets_of plan) × (other ≡ packet) × (others ≡ choices)
Resolves plan (named.Revert box) (Revert number) = IsBoxNamed plan box number
Resolves plan step other = ⊥

-- each step, in order
abbrev pub AllResolve : Plan → List ScheduleStep → List Step → Type 0
AllResolve plan [] [] = ⊤
AllResolve plan (step ∷ steps) (other ∷ others) = Resolves plan step other × AllResolve plan steps others
AllResolve plan steps others = ⊥

-- the steps before this number are without a fault, and the step of this number has the fault
abbrev pub IsFirstFault : Plan → (ScheduleStep → Type 0) → List ScheduleStep → ℕ → Type 0
IsFirstFault plan Faulty [] s = ⊥
IsFirstFault plan Faulty (step ∷ steps) zero = Faulty step
IsFirstFault plan Faulty (step ∷ steps) (suc s) = IsFaultless plan step × IsFirstFault plan Faulty steps s

abbrev pub IsUnknownNameAt : Plan → List ScheduleStep → ℕ → Type 0
IsUnknownNameAt plan = IsFirstFault plan (IsUndeclared plan)

abbrev pub IsOutOfRangeAt : Plan → List ScheduleStep → ℕ → Type 0
IsOutOfRangeAt plan = IsFirstFault plan (IsOutOfRange plan)

-- what one step comes to
abbrev pub IsStepAnswer : Plan → ScheduleStep → Result Step StepFault → Type 0
IsStepAnswer plan step (Ok found) = Resolves plan step found
IsStepAnswer plan step (Err faults.UnknownName) = IsUndeclared plan step
IsStepAnswer plan step (Err faults.OutOfRange) = IsOutOfRange plan step
IsStepAnswer plan step (Err faults.NoMemory) = ⊤

-- the refusal of all steps where the step of this number has the fault
abbrev pub refusal_of : StepFault → ℕ → ResolveRefusal
refusal_of faults.UnknownName s = UnknownName s
refusal_of faults.OutOfRange s = OutOfRange s
refusal_of faults.NoMemory s = NoMemory

-- what the steps come to; want of memory is tied to no cause
abbrev pub IsResolution : Plan → List ScheduleStep → Result (List Step) ResolveRefusal → Type 0
IsResolution plan steps (Ok found) = AllResolve plan steps found
IsResolution plan steps (Err (UnknownName s)) = IsUnknownNameAt plan steps s
IsResolution plan steps (Err (OutOfRange s)) = IsOutOfRangeAt plan steps s
IsResolution plan steps (Err NoMemory) = ⊤

-- it is this refusal, or memory was wanting
abbrev pub IsRefusedOrWantsMemory : Result (List Step) ResolveRefusal → ResolveRefusal → Type 0
IsRefusedOrWantsMemory result refusal = (result ≡ Err refusal) ⊎ (result ≡ Err NoMemory)

-- steps were found, or memory was wanting
abbrev pub IsFoundOrWantsMemory : Result (List Step) ResolveRefusal → Type 0
IsFoundOrWantsMemory (Ok found) = ⊤
IsFoundOrWantsMemory (Err NoMemory) = ⊤
IsFoundOrWantsMemory (Err refusal) = ⊥
