-- What it is that tokens are read as a schedule.
use Rattle.std.specs.Prelude.{◌≡◌, ℕ, List, Result, Ok, Err, ◌⊎◌, ⊤}
pub use Rattle.amdl_parser.specs.Answer.{IsSyntaxAt, tokens_of}
use Rattle.amdl_tree.specs.declared.token.Token.{Token}
use Rattle.schedule_text.specs.declared.steps.ScheduleStep.{ScheduleStep}
use Rattle.schedule_text.specs.declared.refusal.ScheduleSyntax.{ScheduleSyntax}
use Rattle.schedule_text.specs.declared.refusal.ScheduleSyntax.TheVariants.{Syntax, NoMemory}
use Rattle.schedule_text.specs.Spelled.{spell_of_steps, AreBuiltSteps}

-- k tokens begin the spelling of steps; with the next token they begin none; and where they are all the tokens, no
-- steps are spelled so
abbrev pub IsScheduleSyntaxAt : List Token → ℕ → Type 0
IsScheduleSyntaxAt = IsSyntaxAt spell_of_steps AreBuiltSteps AreBuiltSteps

-- what the tokens are read as; want of memory is tied to no cause
abbrev pub IsScheduleAnswer : List Token → Result (List ScheduleStep) ScheduleSyntax → Type 0
IsScheduleAnswer tokens (Ok steps) = AreBuiltSteps steps × (spell_of_steps steps ≡ tokens)
IsScheduleAnswer tokens (Err (Syntax k)) = IsScheduleSyntaxAt tokens k
IsScheduleAnswer tokens (Err NoMemory) = ⊤

-- it is this answer, or memory was wanting
abbrev pub IsOrWantsMemory : Result (List ScheduleStep) ScheduleSyntax → Result (List ScheduleStep) ScheduleSyntax →
    Type 0
IsOrWantsMemory result answer = (result ≡ answer) ⊎ (result ≡ Err NoMemory)
