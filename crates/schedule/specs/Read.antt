-- What it is that tokens are read as steps of a network.
use Rattle.std.specs.Prelude.{◌≡◌, List, Result, Ok, Err, ◌⊎◌}
use Rattle.amdl_tree.specs.declared.token.Token.{Token}
use Rattle.net_plan.specs.declared.plan.Plan.{Plan}
use Rattle.net_runs.specs.declared.world.Step.{Step}
use Rattle.schedule_text.specs.declared.steps.ScheduleStep.{ScheduleStep}
use Rattle.schedule_text.specs.declared.refusal.ScheduleSyntax.{ScheduleSyntax}
use Rattle.schedule_text.specs.declared.refusal.ScheduleSyntax.TheVariants as texts
use Rattle.schedule_text.specs.declared.refusal.ResolveRefusal.{ResolveRefusal}
use Rattle.schedule_text.specs.declared.refusal.ResolveRefusal.TheVariants as names
use Rattle.schedule_text.specs.Answering.{IsScheduleSyntaxAt}
use Rattle.schedule_text.specs.Laws.{AreSpelledBy}
use Rattle.schedule_text.specs.Resolved.{AllResolve, IsUnknownNameAt, IsOutOfRangeAt}
use Rattle.schedule.specs.declared.refusal.ScheduleRefusal.{ScheduleRefusal}
use Rattle.schedule.specs.declared.refusal.ScheduleRefusal.TheVariants.{Syntax, UnknownName, OutOfRange, NoMemory}

-- the tokens spell these steps of the network by their names
abbrev pub ReadsAs : Plan → List Token → List Step → Type 0
ReadsAs plan tokens steps = (named : List ScheduleStep) × AreSpelledBy tokens named × AllResolve plan named steps

-- the cause of a refusal: a fault of the syntax, or else the first faulty step; want of memory is tied to none
abbrev pub IsCauseOf : Plan → List Token → ScheduleRefusal → Type 0
IsCauseOf plan tokens (Syntax k) = IsScheduleSyntaxAt tokens k
IsCauseOf plan tokens (UnknownName s) =
    (named : List ScheduleStep) × AreSpelledBy tokens named × IsUnknownNameAt plan named s
IsCauseOf plan tokens (OutOfRange s) =
    (named : List ScheduleStep) × AreSpelledBy tokens named × IsOutOfRangeAt plan named s
IsCauseOf plan tokens NoMemory = ⊥

-- what the tokens are read as
abbrev pub IsReading : Plan → List Token → Result (List Step) ScheduleRefusal → Type 0
IsReading plan tokens (Ok steps) = ReadsAs plan tokens steps
IsReading plan tokens (Err refusal) = IsCauseOf plan tokens refusal ⊎ (refusal ≡ NoMemory)

-- it is this answer, or memory was wanting
abbrev pub IsOrWantsMemory : Result (List Step) ScheduleRefusal → Result (List Step) ScheduleRefusal → Type 0
IsOrWantsMemory result answer = (result ≡ answer) ⊎ (result ≡ Err NoMemory)

-- the refusals of the two parts of a reading among those of the whole
abbrev pub of_syntax : ScheduleSyntax → ScheduleRefusal
of_syntax (texts.Syntax k) = Syntax k
of_syntax texts.NoMemory = NoMemory

abbrev pub of_names : ResolveRefusal → ScheduleRefusal
of_names (names.UnknownName s) = UnknownName s
of_names (names.OutOfRange s) = OutOfRange s
of_names names.NoMemory = NoMemory
