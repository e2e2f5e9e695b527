-- How a schedule is spelled, as a list of tokens.
use Rattle.std.specs.Prelude.{ℕ, List, [], ◌∷◌, ◌++◌, codes}
use Rattle.std.specs.List.{flat_map, All}
use Rattle.amdl_tree.specs.Word.{IsName}
use Rattle.amdl_tree.specs.WellBuilt.{IsBuiltEnd}
use Rattle.amdl_tree.specs.Spelling.{with_commas, spell_of_end}
use Rattle.amdl_tree.specs.declared.token.Token.{Token}
use Rattle.amdl_tree.specs.declared.token.Token.TheVariants.{Word, Number, Sign as Signed}
use Rattle.amdl_tree.specs.declared.token.Sign.TheVariants as signs
use Rattle.schedule_text.specs.declared.steps.ScheduleStep.{ScheduleStep}
use Rattle.schedule_text.specs.declared.steps.ScheduleStep.TheVariants.{Send, Deliver, Revert}

-- the first word of each form of steps, which is no reserved word
abbrev pub send_word : List ℕ
send_word = codes "send"

abbrev pub deliver_word : List ℕ
deliver_word = codes "deliver"

abbrev pub revert_word : List ℕ
revert_word = codes "revert"

-- a number, a list of one token
abbrev pub figure : ℕ → List Token
figure number = Number number ∷ []

-- without choices the brackets are left out
abbrev pub spell_of_choices : List ℕ → List Token
spell_of_choices [] = []
spell_of_choices (choice ∷ choices) =
    Signed signs.OpenBracket ∷ with_commas figure (choice ∷ choices) ++ Signed signs.CloseBracket ∷ []

abbrev pub spell_of_step : ScheduleStep → List Token
spell_of_step (Send host packet) = Word send_word ∷ Word host ∷ Number packet ∷ Signed signs.Semicolon ∷ []
spell_of_step (Deliver end packet choices) =
    Word deliver_word
    ∷ spell_of_end end ++ (Number packet ∷ (spell_of_choices choices ++ Signed signs.Semicolon ∷ []))
spell_of_step (Revert box) = Word revert_word ∷ Word box ∷ Signed signs.Semicolon ∷ []

-- the steps in their order
abbrev pub spell_of_steps : List ScheduleStep → List Token
spell_of_steps = flat_map spell_of_step

-- its names are names
abbrev pub IsBuiltStep : ScheduleStep → Type 0
IsBuiltStep (Send host packet) = IsName host
IsBuiltStep (Deliver end packet choices) = IsBuiltEnd end
IsBuiltStep (Revert box) = IsName box

abbrev pub AreBuiltSteps : List ScheduleStep → Type 0
AreBuiltSteps = All IsBuiltStep
