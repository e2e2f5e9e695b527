-- What it is that steps are replayed, from a first state on.
use Rattle.std.specs.Prelude.{◌≡◌, ℕ, List, ◌++◌, Some, length, take, slice_get, Result, Ok, Err, MatchResult, Bool, ⊤}
use Rattle.std.specs.Prelude.{◌⊎◌}
use Rattle.net_plan.specs.declared.plan.Plan.{Plan}
use Rattle.net_runs.specs.declared.world.Mode.{Mode}
use Rattle.net_runs.specs.declared.world.Step.{Step}
use Rattle.net_runs.specs.declared.world.Event.{Event}
use Rattle.net_runs.specs.declared.world.World.{World}
use Rattle.net_runs.specs.World.{Run, IsWorld}
use Rattle.concrete_net.specs.declared.refusal.StepRefusal.{StepRefusal}
use Rattle.concrete_net.specs.declared.refusal.StepRefusal.TheVariants as refusals
use Rattle.concrete_net.specs.Seen.{Seen, first_seen}
use Rattle.concrete_net.specs.Refused.{IsCause}
use Rattle.concrete_net.specs.Answered.{StepsTo}
use Rattle.schedule.specs.declared.replayed.Replayed.{Replayed}
use Rattle.schedule.specs.declared.replayed.ReplayRefusal.{ReplayRefusal}
use Rattle.schedule.specs.declared.replayed.ReplayRefusal.TheVariants.{Refused, NoMemory}
use Rattle.schedule.specs.Texts.{line_of_event, lines_of, bad_of, is_bad, replay_text}

-- the steps before step k are a run with these events, and behind them step k is refused for this cause
pub record IsRefusedAt (plan : Plan) (first : Seen) (steps : List Step) (k : ℕ) (why : StepRefusal)
    (events : List Event) : Type 0 where
  pub world : World
  pub run : Run plan first.mode first.world (take k steps) events world
  pub step : Step
  pub numbered : slice_get steps k ≡ Some step
  pub cause : IsCause plan (record { mode = first.mode; world = world }) step why

-- all steps are a run, and the whole text of it was appended; or one step is refused, and the lines on those before it
-- were appended; or there was no memory, and nothing was
abbrev pub IsReplay : Plan → Mode → List Step → List ℕ → Result Replayed ReplayRefusal → List ℕ → Type 0
IsReplay plan mode steps old (Ok replayed) new =
    (events : List Event) × (world : World) × Run plan mode (first_seen plan mode).world steps events world
    × (replayed.steps ≡ length steps) × (replayed.bad ≡ bad_of plan events) × (new ≡ old ++ replay_text plan events)
IsReplay plan mode steps old (Err (Refused k why)) new =
    (events : List Event) × IsRefusedAt plan (first_seen plan mode) steps k why events
    × (new ≡ old ++ lines_of plan events)
IsReplay plan mode steps old (Err NoMemory) new = new ≡ old

-- what comes of a run with these events, unless memory was wanting
abbrev pub IsRunOrWantsMemory : Plan → List Step → List Event → List ℕ → Result Replayed ReplayRefusal → List ℕ → Type 0
IsRunOrWantsMemory plan steps events old (Ok replayed) new =
    (replayed.steps ≡ length steps) × (replayed.bad ≡ bad_of plan events) × (new ≡ old ++ replay_text plan events)
IsRunOrWantsMemory plan steps events old (Err (Refused k why)) new = ⊥
IsRunOrWantsMemory plan steps events old (Err NoMemory) new = ⊤

-- what comes where step k is refused behind steps with these events, unless memory was wanting
abbrev pub IsRefusedOrWantsMemory : Plan → ℕ → List Event → List ℕ → Result Replayed ReplayRefusal → List ℕ → Type 0
IsRefusedOrWantsMemory plan k events old (Ok replayed) new = ⊥
IsRefusedOrWantsMemory plan k events old (Err (Refused other why)) new =
    (other ≡ k) × (new ≡ old ++ lines_of plan events)
IsRefusedOrWantsMemory plan k events old (Err NoMemory) new = ⊤

-- the same, but for want of memory
abbrev pub IsReplayBut : Plan → Mode → List Step → List ℕ → Result Replayed ReplayRefusal → List ℕ → Type 0
IsReplayBut plan mode steps old (Ok replayed) new = IsReplay plan mode steps old (Ok replayed) new
IsReplayBut plan mode steps old (Err (Refused k why)) new = IsReplay plan mode steps old (Err (Refused k why)) new
IsReplayBut plan mode steps old (Err NoMemory) new = ⊤

-- step k was made, and its line appended; or it is refused, and nothing was; or there was no memory
abbrev pub IsTold : Plan → ℕ → Step → Seen → Seen → List ℕ → Result Bool StepRefusal → List ℕ → Type 0
IsTold plan k step old new before result after =
    MatchResult result
    (λ bad. (event : Event) × StepsTo plan old step event new × (after ≡ before ++ line_of_event plan k event)
    × (bad ≡ is_bad plan event))
    (λ why. (why ≡ refusals.NoMemory) ⊎ (IsCause plan old step why × (after ≡ before)))

-- the steps were made from the first state on, the lines on them were appended, and so many of their events are bad
pub record SoFar (plan : Plan) (first now : Seen) (steps : List Step) (old new : List ℕ) (bad : ℕ) : Type 0 where
  pub events : List Event
  pub run : Run plan first.mode first.world steps events now.world
  pub mode : now.mode ≡ first.mode
  pub world : IsWorld plan now.world
  pub text : new ≡ old ++ lines_of plan events
  pub counted : length events ≡ length steps
  pub bad_is : bad ≡ bad_of plan events

-- not all steps were made: one is refused, or there was no memory
abbrev pub IsStopped : Plan → Seen → List Step → List ℕ → ReplayRefusal → List ℕ → Type 0
IsStopped plan first steps old (Refused k why) new =
    (events : List Event) × IsRefusedAt plan first steps k why events × (new ≡ old ++ lines_of plan events)
IsStopped plan first steps old NoMemory new = ⊤

-- the refusal of all steps where step k is refused
abbrev pub refusal_at : ℕ → StepRefusal → ReplayRefusal
refusal_at k refusals.NoSuch = Refused k refusals.NoSuch
refusal_at k refusals.NotSent = Refused k refusals.NotSent
refusal_at k refusals.NoCopy = Refused k refusals.NoCopy
refusal_at k refusals.NotHead = Refused k refusals.NotHead
refusal_at k (refusals.BadChoice choice) = Refused k (refusals.BadChoice choice)
refusal_at k refusals.NoMemory = NoMemory
