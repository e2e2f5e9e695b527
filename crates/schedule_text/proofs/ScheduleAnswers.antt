-- The answer to a token list as a schedule, and that it is the only one.
use Rattle.std.proofs.Common.{◌≡◌, ◌≤◌, ℕ, List, IfOk, arith, ap, length, Result, Ok, Err, inl, inr, ◌⊎◌, refl, sym}
use Rattle.std.proofs.Common.{◌∙◌, subst}
use Rattle.amdl_tree.specs.declared.token.Lexed.{Lexed}
use Rattle.amdl_tree.specs.declared.token.Token.{Token}
use Rattle.amdl_parser.specs.declared.refusal.SyntaxRefusal.{SyntaxRefusal}
use Rattle.amdl_parser.specs.declared.refusal.SyntaxRefusal.TheVariants as refusals
use Rattle.amdl_parser.specs.Answer.{IsAnswer}
use Rattle.amdl_parser.proofs.Holds.{Named}
use Rattle.amdl_parser.proofs.Loops.{count_of}
use Rattle.amdl_parser.proofs.AnswerLemmas.{answers_alike}
use Rattle.amdl_parser.proofs.WholeLemmas.{answered, never_wants}
use Rattle.schedule_text.specs.declared.steps.ScheduleStep.{ScheduleStep}
use Rattle.schedule_text.specs.declared.refusal.ScheduleSyntax.{ScheduleSyntax}
use Rattle.schedule_text.specs.declared.refusal.ScheduleSyntax.TheVariants.{Syntax, NoMemory}
use Rattle.schedule_text.specs.Spelled.{spell_of_steps, AreBuiltSteps}
use Rattle.schedule_text.specs.Readings.{tokens_of, answer_of, IsUnlessMemory, steps_at, parsed}
use Rattle.schedule_text.specs.Answering.{IsScheduleAnswer, IsScheduleSyntaxAt, IsOrWantsMemory}
use Rattle.schedule_text.specs.Laws.{AreSpelledBy, SomeAnswer, OneAnswer}
use Rattle.schedule_text.proofs.StepReaders.{steps, no_more_steps}

abbrev T : Type 0
T = List Token

abbrev R : Type 0
R = Result (List ScheduleStep) ScheduleSyntax

abbrev IsParsed : T → Result (List ScheduleStep) SyntaxRefusal → Type 0
IsParsed = IsAnswer spell_of_steps AreBuiltSteps AreBuiltSteps

abbrev answer : T → Result (List ScheduleStep) SyntaxRefusal
answer ts = answer_of (length ts) (steps_at ts)

right : (ts : T) → Named ts → IsParsed ts (answer ts)
right ts named = answered steps.once steps.fits ts (steps_at ts) (steps.holds ts named)

given : (ts : T) → Named ts → answer ts ≡ Err refusals.NoMemory → ⊥
given ts named = never_wants _ _ _ _ (length ts) ts (steps_at ts) (steps.holds ts named)

-- the result is the answer to the tokens, unless memory was wanting
is_answer : (ts : T) → Named ts → (result : R) → IsUnlessMemory (answer ts) (parsed result) → IsScheduleAnswer ts result
is_answer ts named (Ok found) e = subst (IsParsed ts) e (right ts named)
is_answer ts named (Err (Syntax k)) e = subst (IsParsed ts) e (right ts named)
is_answer ts named (Err NoMemory) e = tt

-- an answer to the tokens is the one that is read
same_answer : (ts : T) → Named ts → (other : Result (List ScheduleStep) SyntaxRefusal) → IsParsed ts other →
    (other ≡ Err refusals.NoMemory → ⊥) → answer ts ≡ other
same_answer ts named other is wants =
    answers_alike steps.once steps.fits ts (answer ts) other (right ts named) is (given ts named) wants

-- the answers are these two
some_of : (ts : T) (r : Result (List ScheduleStep) SyntaxRefusal) → IsParsed ts r →
    (r ≡ Err refusals.NoMemory → ⊥) →
    ((found : List ScheduleStep) × AreSpelledBy ts found) ⊎ ((k : ℕ) × IsScheduleSyntaxAt ts k)
some_of ts (Ok found) is wants = inl (found, is)
some_of ts (Err (refusals.Syntax k)) is wants = inr (k, is)
some_of ts (Err (refusals.Deep k)) is wants = absurd (is.only is.deeper)
some_of ts (Err refusals.NoMemory) is wants = absurd (wants refl)

pub some_answer : SomeAnswer
some_answer ts named = some_of ts (answer ts) (right ts named) (given ts named)

alike : (ts : T) (one two : Result (List ScheduleStep) SyntaxRefusal) → IsParsed ts one → IsParsed ts two →
    (one ≡ Err refusals.NoMemory → ⊥) → (two ≡ Err refusals.NoMemory → ⊥) → one ≡ two
alike = answers_alike steps.once steps.fits

pub one_answer : OneAnswer
one_answer ts = record {
  steps = λ one two p q. let same = alike ts (Ok one) (Ok two) p q (λ e. cc) (λ e. cc) in cc;
  fault = λ k m p q.
      let same = alike ts (Err (refusals.Syntax k)) (Err (refusals.Syntax m)) p q (λ e. cc) (λ e. cc) in cc;
  apart = λ found k p q.
      let same = alike ts (Ok found) (Err (refusals.Syntax k)) p q (λ e. cc) (λ e. cc) in cc;
}

-- no two answers are taken for the same
found_forced : (ts : T) (result : R) (found : List ScheduleStep) → answer ts ≡ Ok found →
    IsUnlessMemory (answer ts) (parsed result) → IsOrWantsMemory result (Ok found)
found_forced ts (Ok other) found is e = let same : Ok other ≡ Ok found = sym e ∙ is in inl cc
found_forced ts (Err (Syntax k)) found is e = let same : Err (refusals.Syntax k) ≡ Ok found = sym e ∙ is in cc
found_forced ts (Err NoMemory) found is e = inr refl

fault_forced : (ts : T) (result : R) (k : ℕ) → answer ts ≡ Err (refusals.Syntax k) →
    IsUnlessMemory (answer ts) (parsed result) → IsOrWantsMemory result (Err (Syntax k))
fault_forced ts (Ok other) k is e = let same : Ok other ≡ Err (refusals.Syntax k) = sym e ∙ is in cc
fault_forced ts (Err (Syntax m)) k is e =
    let same : Err (refusals.Syntax m) ≡ Err (refusals.Syntax k) = sym e ∙ is in inl cc
fault_forced ts (Err NoMemory) k is e = inr refl

-- there are no more steps than tokens
few_found : (tokens : List Lexed) (result : R) → IsScheduleAnswer (tokens_of tokens) result →
    IfOk result (λ found. length found ≤ length tokens)
few_found tokens (Ok found) is =
    omega (arith, no_more_steps found, ap length is.1, count_of tokens)
few_found tokens (Err refusal) is = tt

module _ (tokens : List Lexed) (result : R) (named : Named (tokens_of tokens))
    (read : IsUnlessMemory (answer_of (length tokens) (steps_at (tokens_of tokens))) (parsed result)) where
  counted : IsUnlessMemory (answer (tokens_of tokens)) (parsed result)
  counted =
      subst (λ n. IsUnlessMemory (answer_of n (steps_at (tokens_of tokens))) (parsed result)) (sym
      (count_of tokens)) read

  pub is_right : IsScheduleAnswer (tokens_of tokens) result
  is_right = is_answer (tokens_of tokens) named result counted

  pub is_found : (found : List ScheduleStep) → AreBuiltSteps found → spell_of_steps found ≡ tokens_of tokens →
      IsOrWantsMemory result (Ok found)
  is_found found built spelled =
      found_forced (tokens_of tokens) result found
      (same_answer (tokens_of tokens) named (Ok found) (built, spelled) (λ e. cc)) counted

  pub is_fault : (k : ℕ) → IsScheduleSyntaxAt (tokens_of tokens) k → IsOrWantsMemory result (Err (Syntax k))
  is_fault k stops =
      fault_forced (tokens_of tokens) result k
      (same_answer (tokens_of tokens) named (Err (refusals.Syntax k)) stops (λ e. cc)) counted

  pub is_short : IfOk result (λ found. length found ≤ length tokens)
  is_short = few_found tokens result is_right
