-- The steps of a schedule as readings, each put together as the step is spelled.
use Rattle.std.specs.Prelude.{◌≡◌, ℕ, Bool, false, ◌||◌, nat_eq, List, [], ◌∷◌, Result, Ok, Err, if◌then◌else◌, ⊤}
use Rattle.std.specs.Cmp.Lexicographic.{pointwise}
use Rattle.amdl_tree.specs.declared.token.Lexed.{Lexed}
use Rattle.amdl_tree.specs.declared.token.Token.{Token}
use Rattle.amdl_tree.specs.declared.token.Token.TheVariants.{Word, Number, Sign as Signed}
use Rattle.amdl_tree.specs.declared.token.Sign.TheVariants as signs
use Rattle.amdl_tree.specs.declared.tree.End.{End}
use Rattle.amdl_parser.specs.declared.refusal.SyntaxRefusal.{SyntaxRefusal}
use Rattle.amdl_parser.specs.declared.refusal.SyntaxRefusal.TheVariants as refusals
use Rattle.amdl_parser.specs.declared.fault.Fault.TheVariants as faults
pub use Rattle.amdl_parser.specs.Reading.{Answer, answer_of, tokens_of, IsNamed, IsUnlessMemory, heads, begins, word_at}
use Rattle.amdl_parser.specs.Reading.{refused, rest_of, then_at, made_at, second, before_at, listed_at}
use Rattle.amdl_parser.specs.Reading.{maybe_at, all_at}
pub use Rattle.amdl_parser.specs.Reading.{fixed_at}
pub use Rattle.amdl_parser.specs.Grammar.{end_at}
use Rattle.amdl_parser.specs.Grammar.{list_of}
use Rattle.schedule_text.specs.declared.fault.Fault.{Fault}
use Rattle.schedule_text.specs.declared.fault.Fault.TheVariants.{Syntax, NoMemory}
use Rattle.schedule_text.specs.declared.refusal.ScheduleSyntax.{ScheduleSyntax}
use Rattle.schedule_text.specs.declared.refusal.ScheduleSyntax.TheVariants as answers
use Rattle.schedule_text.specs.declared.steps.ScheduleStep.{ScheduleStep}
use Rattle.schedule_text.specs.declared.steps.ScheduleStep.TheVariants.{Send, Deliver, Revert}
use Rattle.schedule_text.specs.Spelled.{send_word, deliver_word, revert_word}

-- the code's result, and the tokens that are left, are the answer of a reading of the tokens, unless memory was wanting
abbrev pub Reads : {A : Type 0} → (List Token → Answer A) → List Lexed → List Lexed → Result A Fault → Type 0
Reads part before after (Ok value) = part (tokens_of before) ≡ Ok (value, tokens_of after)
Reads part before after (Err (Syntax left)) = part (tokens_of before) ≡ Err (faults.Syntax left)
Reads part before after (Err NoMemory) = ⊤

-- the answer to a schedule among those of the parser
abbrev pub parsed : {A : Type 0} → Result A ScheduleSyntax → Result A SyntaxRefusal
parsed (Ok value) = Ok value
parsed (Err (answers.Syntax k)) = Err (refusals.Syntax k)
parsed (Err answers.NoMemory) = Err refusals.NoMemory

-- `==` on names
unfoldable pub same_name : List ℕ → List ℕ → Bool
same_name = pointwise nat_eq

-- the token is this word
unfoldable pub says : List ℕ → Token → Bool
says name (Word other) = same_name other name
says name token = false

-- the words that start steps
unfoldable pub starts_step : Token → Bool
starts_step token = says send_word token || (says deliver_word token || says revert_word token)

-- this word
unfoldable pub said_at : List ℕ → List Token → Answer ⊤
said_at name tokens = if heads (says name) tokens then Ok (tt, rest_of tokens) else refused tokens

-- behind this word
abbrev pub behind_at : {A : Type 0} → List ℕ → (List Token → Answer A) → List Token → Answer A
behind_at name part = made_at second (then_at (said_at name) part)

-- a number
unfoldable pub number_at : List Token → Answer ℕ
number_at [] = refused []
number_at (Number number ∷ rest) = Ok (number, rest)
number_at (token ∷ rest) = refused (token ∷ rest)

-- numbers with commas between
unfoldable pub numbers_at : List Token → Answer (List ℕ)
numbers_at = listed_at (Signed signs.Comma) number_at

-- choices in brackets, or nothing
unfoldable pub choices_at : List Token → Answer (List ℕ)
choices_at =
    made_at list_of (maybe_at (Signed signs.OpenBracket) (before_at numbers_at (Signed signs.CloseBracket)))

abbrev pub send_of : List ℕ × ℕ → ScheduleStep
send_of parts = Send parts.0 parts.1

unfoldable pub send_at : List Token → Answer ScheduleStep
send_at =
    made_at send_of (behind_at send_word (then_at word_at (before_at number_at (Signed signs.Semicolon))))

abbrev pub deliver_of : End × (ℕ × List ℕ) → ScheduleStep
deliver_of parts = Deliver parts.0 parts.1.0 parts.1.1

unfoldable pub deliver_at : List Token → Answer ScheduleStep
deliver_at =
    made_at deliver_of
    (behind_at deliver_word
    (then_at end_at (then_at number_at (before_at choices_at (Signed signs.Semicolon)))))

unfoldable pub revert_at : List Token → Answer ScheduleStep
revert_at = made_at Revert (behind_at revert_word (before_at word_at (Signed signs.Semicolon)))

unfoldable pub step_at : List Token → Answer ScheduleStep
step_at tokens =
    if heads (says send_word) tokens then send_at tokens
    else (if heads (says deliver_word) tokens then deliver_at tokens
    else (if heads (says revert_word) tokens then revert_at tokens
    else refused tokens))

unfoldable pub steps_at : List Token → Answer (List ScheduleStep)
steps_at = all_at starts_step step_at
