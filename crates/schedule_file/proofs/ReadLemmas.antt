-- Texts that are read as schedules, by their tokens.
use Rattle.std.proofs.Common.{◌≡◌, ◌≢◌, ◌≤◌, ℕ, List, length, Result, Ok, Err, refl, sym, ap, subst, ◌∙◌, inl, inr}
use Rattle.std.proofs.lemmas.List.{length-map}
use Rattle.amdl_tree.specs.Lexical.{token_of}
use Rattle.amdl_tree.specs.declared.token.Lexed.{Lexed}
use Rattle.amdl_tree.specs.declared.token.Token.{Token}
use Rattle.amdl_lexer.specs.Answer.{IsLexed, IsRefused}
use Rattle.amdl_lexer.specs.Laws.{OneAnswer as OneLexing}
use Rattle.amdl_lexer.specs.declared.lexing.LexRefusal.{LexRefusal}
use Rattle.amdl_lexer.specs.declared.lexing.LexRefusal.TheVariants as lexing
use Rattle.amdl_parser.specs.Answer.{tokens_of}
use Rattle.net_plan.specs.declared.plan.Plan.{Plan}
use Rattle.net_plan.specs.Sound.{IsSound}
use Rattle.net_runs.specs.declared.world.Step.{Step}
use Rattle.schedule.specs.declared.refusal.ScheduleRefusal.{ScheduleRefusal}
use Rattle.schedule.specs.declared.refusal.ScheduleRefusal.TheVariants as causes
use Rattle.schedule.specs.Laws.{OneReading as OneNaming, IsOneReading}
use Rattle.schedule.specs.Read.{IsCauseOf, IsReading}
use Rattle.schedule_file.specs.declared.refusal.FileRefusal.{FileRefusal}
use Rattle.schedule_file.specs.declared.refusal.FileRefusal.TheVariants.{TooLong, BadByte, WordTooLong, TooManyTokens}
use Rattle.schedule_file.specs.declared.refusal.FileRefusal.TheVariants.{Syntax, UnknownName, OutOfRange}
use Rattle.schedule_file.specs.Reading.{AreReadAs, HasTokensReadAs, IsReadAs}
use Rattle.schedule_file.specs.Laws.{OneReading}

abbrev pub Found : Type 0
Found = Result (List Step) FileRefusal

count_of : (lexeds : List Lexed) → length (tokens_of lexeds) ≡ length lexeds
count_of lexeds = length-map lexeds token_of

-- a refusal that isn't want of memory has its cause
pub has_cause : (plan : Plan) (tokens : List Token) (refusal : ScheduleRefusal) → refusal ≢ causes.NoMemory →
    IsReading plan tokens (Err refusal) → IsCauseOf plan tokens refusal
has_cause plan tokens refusal some (inl cause) = cause
has_cause plan tokens refusal some (inr none) = absurd (some none)

with_tokens : (plan : Plan) (text : List ℕ) (lexeds : List Lexed) (found : Found) → IsLexed text lexeds →
    AreReadAs plan (tokens_of lexeds) found → HasTokensReadAs plan text found
with_tokens plan text lexeds found lexed read = record {
  tokens = tokens_of lexeds;
  stands = (lexeds, lexed.read, refl);
  few = subst (λ n. n ≤ 1000000) (sym (count_of lexeds)) lexed.few;
  read = read;
}

-- a text that is cut into tokens is read as they are
pub read_as : (plan : Plan) (text : List ℕ) (lexeds : List Lexed) (found : Found) → IsLexed text lexeds →
    AreReadAs plan (tokens_of lexeds) found → IsReadAs plan text found
read_as plan text lexeds (Ok steps) lexed read = with_tokens plan text lexeds (Ok steps) lexed read
read_as plan text lexeds (Err TooLong) lexed read = absurd read
read_as plan text lexeds (Err (BadByte at)) lexed read = absurd read
read_as plan text lexeds (Err (WordTooLong at)) lexed read = absurd read
read_as plan text lexeds (Err TooManyTokens) lexed read = absurd read
read_as plan text lexeds (Err (Syntax at)) lexed read = with_tokens plan text lexeds (Err (Syntax at)) lexed read
read_as plan text lexeds (Err (UnknownName step)) lexed read =
    with_tokens plan text lexeds (Err (UnknownName step)) lexed read
read_as plan text lexeds (Err (OutOfRange step)) lexed read =
    with_tokens plan text lexeds (Err (OutOfRange step)) lexed read

-- a reading by what the lexer answers
of_lexing : LexRefusal → Found
of_lexing (lexing.BadByte at) = Err (BadByte at)
of_lexing (lexing.WordTooLong at) = Err (WordTooLong at)
of_lexing lexing.TooManyTokens = Err TooManyTokens
of_lexing lexing.NoMemory = Err TooManyTokens

data Side (plan : Plan) (text : List ℕ) (found : Found) : Type 0 where
  by_tokens : (lexeds : List Lexed) → IsLexed text lexeds → AreReadAs plan (tokens_of lexeds) found →
      Side plan text found
  by_bytes : (refusal : LexRefusal) → refusal ≢ lexing.NoMemory → IsRefused text refusal → found ≡ of_lexing refusal →
      Side plan text found

of_tokens : (plan : Plan) (text : List ℕ) (found : Found) → HasTokensReadAs plan text found → Side plan text found
of_tokens plan text found has =
    let lexeds = has.stands.0 in
    let same = has.stands.2 in
    by_tokens lexeds
    (record { read = has.stands.1; few = subst (λ n. n ≤ 1000000) (ap length (sym same) ∙ count_of lexeds) has.few })
    (subst (λ (t : List Token). AreReadAs plan t found) (sym same) has.read)

side_of : (plan : Plan) (text : List ℕ) (found : Found) → IsReadAs plan text found → Side plan text found
unfolding of_lexing
side_of plan text (Ok steps) read = of_tokens plan text (Ok steps) read
side_of plan text (Err TooLong) read = absurd read
side_of plan text (Err (BadByte at)) read = by_bytes (lexing.BadByte at) (λ e. cc) read refl
side_of plan text (Err (WordTooLong at)) read = by_bytes (lexing.WordTooLong at) (λ e. cc) read refl
side_of plan text (Err TooManyTokens) read = by_bytes lexing.TooManyTokens (λ e. cc) read refl
side_of plan text (Err (Syntax at)) read = of_tokens plan text (Err (Syntax at)) read
side_of plan text (Err (UnknownName step)) read = of_tokens plan text (Err (UnknownName step)) read
side_of plan text (Err (OutOfRange step)) read = of_tokens plan text (Err (OutOfRange step)) read

-- a fault of tokens by its cause
of_cause : ScheduleRefusal → FileRefusal
of_cause (causes.Syntax at) = Syntax at
of_cause (causes.UnknownName step) = UnknownName step
of_cause (causes.OutOfRange step) = OutOfRange step
of_cause causes.NoMemory = TooLong

caused_by : (plan : Plan) (tokens : List Token) (refusal : FileRefusal) → AreReadAs plan tokens (Err refusal) →
    (cause : ScheduleRefusal) × IsCauseOf plan tokens cause × (refusal ≡ of_cause cause)
unfolding of_cause
caused_by plan tokens TooLong read = absurd read
caused_by plan tokens (BadByte at) read = absurd read
caused_by plan tokens (WordTooLong at) read = absurd read
caused_by plan tokens TooManyTokens read = absurd read
caused_by plan tokens (Syntax at) read = (causes.Syntax at, read, refl)
caused_by plan tokens (UnknownName step) read = (causes.UnknownName step, read, refl)
caused_by plan tokens (OutOfRange step) read = (causes.OutOfRange step, read, refl)

tokens_once : (plan : Plan) (tokens : List Token) (one two : Found) → IsOneReading plan tokens →
    AreReadAs plan tokens one → AreReadAs plan tokens two → one ≡ two
tokens_once plan tokens (Ok a) (Ok b) law p q = ap Ok (law.steps a b p q)
tokens_once plan tokens (Ok a) (Err refusal) law p q =
    let c = caused_by plan tokens refusal q in absurd (law.apart a c.0 p c.1)
tokens_once plan tokens (Err refusal) (Ok b) law p q =
    let c = caused_by plan tokens refusal p in absurd (law.apart b c.0 q c.1)
tokens_once plan tokens (Err refusal) (Err other) law p q =
    let c = caused_by plan tokens refusal p in
    let d = caused_by plan tokens other q in
    ap Err (c.2 ∙ ap of_cause (law.cause c.0 d.0 c.1 d.1) ∙ sym d.2)

module _ (lex_once : OneLexing) (name_once : OneNaming) where
  sides_once : (plan : Plan) (text : List ℕ) (one two : Found) → IsSound plan → Side plan text one →
      Side plan text two → one ≡ two
  sides_once plan text one two sound (by_tokens a read named) (by_tokens b read' named') =
      let both : Ok a ≡ Ok b = lex_once text (Ok a) (Ok b) read read' in
      let same : a ≡ b = cc in
      tokens_once plan (tokens_of a) one two (name_once plan (tokens_of a) sound) named
      (subst (λ (l : List Lexed). AreReadAs plan (tokens_of l) two) (sym same) named')
  sides_once plan text one two sound (by_tokens a read named) (by_bytes refusal some refused e) =
      absurd (let both : Ok a ≡ Err refusal = lex_once text (Ok a) (Err refusal) read (some, refused) in cc)
  sides_once plan text one two sound (by_bytes refusal some refused e) (by_tokens a read named) =
      absurd (let both : Err refusal ≡ Ok a = lex_once text (Err refusal) (Ok a) (some, refused) read in cc)
  sides_once plan text one two sound (by_bytes refusal some refused e) (by_bytes other some' refused' e') =
      let both : Err refusal ≡ Err other = lex_once text (Err refusal) (Err other) (some, refused) (some', refused') in
      let same : refusal ≡ other = cc in
      e ∙ ap of_lexing same ∙ sym e'

  pub readings_once : OneReading
  readings_once plan text one two sound first second =
      sides_once plan text one two sound (side_of plan text one first) (side_of plan text two second)
