-- Laws over the definitions.
use Rattle.std.specs.Prelude.{◌≡◌, ℕ, List, ◌⊎◌}
use Rattle.std.specs.List.{All}
use Rattle.amdl_tree.specs.Lexical.{StandsFor}
use Rattle.amdl_tree.specs.declared.token.Token.{Token}
use Rattle.amdl_parser.specs.Answer.{IsNamed}
use Rattle.net_plan.specs.declared.plan.Plan.{Plan}
use Rattle.net_plan.specs.Sound.{IsSound}
use Rattle.net_runs.specs.declared.world.Step.{Step}
use Rattle.schedule_text.specs.declared.steps.ScheduleStep.{ScheduleStep}
use Rattle.schedule_text.specs.Spelled.{spell_of_steps, AreBuiltSteps}
use Rattle.schedule_text.specs.Answering.{IsScheduleSyntaxAt}
use Rattle.schedule_text.specs.Resolved.{AllResolve}
use Rattle.schedule_text.specs.Written.{IsWritable, text_of_steps, named_steps}

-- the tokens are the spelling of these steps
abbrev pub AreSpelledBy : List Token → List ScheduleStep → Type 0
AreSpelledBy tokens steps = AreBuiltSteps steps × (spell_of_steps steps ≡ tokens)

-- each token list is the spelling of steps or has a fault; the words of a list are names
abbrev pub SomeAnswer : Type 0
SomeAnswer =
    (tokens : List Token) → All IsNamed tokens →
    ((steps : List ScheduleStep) × AreSpelledBy tokens steps) ⊎ ((k : ℕ) × IsScheduleSyntaxAt tokens k)

-- and never both, nor the spelling of two lists of steps, nor two faults
pub record IsOneAnswer (tokens : List Token) : Type 0 where
  pub steps : (one two : List ScheduleStep) → AreSpelledBy tokens one → AreSpelledBy tokens two → one ≡ two
  pub fault : (k m : ℕ) → IsScheduleSyntaxAt tokens k → IsScheduleSyntaxAt tokens m → k ≡ m
  pub apart : (steps : List ScheduleStep) (k : ℕ) → AreSpelledBy tokens steps → IsScheduleSyntaxAt tokens k → ⊥

abbrev pub OneAnswer : Type 0
OneAnswer = (tokens : List Token) → IsOneAnswer tokens

-- The text of the steps stands for the spelling of the steps by their names. So it is read as these, and they stand for
-- the steps and for no others.
pub record IsReadBack (plan : Plan) (steps : List Step) : Type 0 where
  pub text : StandsFor (text_of_steps plan steps) (spell_of_steps (named_steps plan steps))
  pub built : AreBuiltSteps (named_steps plan steps)
  pub found : AllResolve plan (named_steps plan steps) steps
  pub only : (others : List Step) → AllResolve plan (named_steps plan steps) others → others ≡ steps

abbrev pub WrittenIsReadBack : Type 0
WrittenIsReadBack = (plan : Plan) (steps : List Step) → IsSound plan → All (IsWritable plan) steps → IsReadBack plan
    steps
