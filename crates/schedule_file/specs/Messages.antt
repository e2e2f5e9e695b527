-- Refusals of the text of a schedule, and of a step that isn't made, a line each.
use Rattle.std.specs.Prelude.{ℕ, List, ◌++◌, codes, decimal}
use Rattle.amdl_tree.specs.Layout.{line}
use Rattle.concrete_net.specs.declared.refusal.StepRefusal.{StepRefusal}
use Rattle.concrete_net.specs.declared.refusal.StepRefusal.TheVariants.{NoSuch, NotSent, NoCopy, NotHead, BadChoice}
use Rattle.concrete_net.specs.declared.refusal.StepRefusal.TheVariants.{NoMemory}
use Rattle.plan_text.specs.Messages.{byte_fault, token_fault}
use Rattle.schedule_file.specs.declared.refusal.FileRefusal.{FileRefusal}
use Rattle.schedule_file.specs.declared.refusal.FileRefusal.TheVariants.{TooLong, BadByte, WordTooLong, TooManyTokens}
use Rattle.schedule_file.specs.declared.refusal.FileRefusal.TheVariants.{Syntax, UnknownName, OutOfRange}

-- a fault of the step of this number
abbrev pub step_fault : ℕ → List ℕ → List ℕ
step_fault at fault = codes "step " ++ decimal at ++ fault

-- why a text is refused, in words
abbrev pub text_of_refusal : FileRefusal → List ℕ
text_of_refusal TooLong = codes "TooLong"
text_of_refusal (BadByte at) = byte_fault at (codes " BadByte")
text_of_refusal (WordTooLong at) = byte_fault at (codes " WordTooLong")
text_of_refusal TooManyTokens = codes "TooManyTokens"
text_of_refusal (Syntax at) = token_fault at (codes " Syntax")
text_of_refusal (UnknownName step) = step_fault step (codes " UnknownName")
text_of_refusal (OutOfRange step) = step_fault step (codes " OutOfRange")

-- the text of the schedule is refused
abbrev pub refused_schedule : FileRefusal → List ℕ
refused_schedule refusal = line (codes "refused schedule " ++ text_of_refusal refusal)

-- why a step isn't made, in words; want of memory is the cause of none, so that its words are never told
abbrev pub text_of_cause : StepRefusal → List ℕ
text_of_cause NoSuch = codes " NoSuch"
text_of_cause NotSent = codes " NotSent"
text_of_cause NoCopy = codes " NoCopy"
text_of_cause NotHead = codes " NotHead"
text_of_cause (BadChoice choice) = codes " BadChoice " ++ decimal choice
text_of_cause NoMemory = codes " NoMemory"

-- the step of this number isn't made
abbrev pub refused_step : ℕ → StepRefusal → List ℕ
refused_step step why = line (codes "refused schedule " ++ step_fault step (text_of_cause why))
