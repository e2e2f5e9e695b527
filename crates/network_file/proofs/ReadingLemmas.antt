-- Texts that are read, by their tokens.
use Rattle.std.proofs.Common.{◌≡◌, ◌≢◌, ◌≤◌, ℕ, List, length, Result, Ok, Err, refl, sym, ap, subst, ◌∙◌}
use Rattle.std.proofs.lemmas.List.{length-map}
use Rattle.amdl_tree.specs.Lexical.{StandsFor, token_of}
use Rattle.amdl_tree.specs.Laws.{LayoutIsFile}
use Rattle.amdl_tree.specs.Spelling.{spell}
use Rattle.amdl_tree.specs.declared.token.Lexed.{Lexed}
use Rattle.amdl_tree.specs.declared.token.Token.{Token}
use Rattle.amdl_tree.specs.declared.tree.Tree.{Tree}
use Rattle.amdl_lexer.specs.Answer.{IsLexed, IsRefused}
use Rattle.amdl_lexer.specs.Laws.{OneAnswer as OneLexing}
use Rattle.amdl_lexer.specs.declared.lexing.LexRefusal.{LexRefusal}
use Rattle.amdl_lexer.specs.declared.lexing.LexRefusal.TheVariants as lexing
use Rattle.amdl_parser.specs.Answer.{IsFullAnswer, OneAnswer as OneParsing, tokens_of}
use Rattle.amdl_parser.specs.declared.refusal.SyntaxRefusal.{SyntaxRefusal}
use Rattle.amdl_parser.specs.declared.refusal.SyntaxRefusal.TheVariants as parsing
use Rattle.network_file.specs.declared.reading.ReadRefusal.{ReadRefusal}
use Rattle.network_file.specs.declared.reading.ReadRefusal.TheVariants.{BadByte, WordTooLong, TooManyTokens, Syntax}
use Rattle.network_file.specs.declared.reading.ReadRefusal.TheVariants.{Deep}
use Rattle.network_file.specs.Reading.{HasTokens, HasTokensReadAs, IsParsedAs, IsReadAs}
use Rattle.network_file.specs.Laws.{OneReading, LayoutReadsBack}

count_of : (lexeds : List Lexed) → length (tokens_of lexeds) ≡ length lexeds
count_of lexeds = length-map lexeds token_of

-- a text that is cut into tokens has them
pub has_tokens : (text : List ℕ) (lexeds : List Lexed) → IsLexed text lexeds → HasTokens text (tokens_of lexeds)
has_tokens text lexeds read = record {
  stands = (lexeds, read.read, refl);
  few = subst (λ n. n ≤ 1000000) (sym (count_of lexeds)) read.few;
}

-- and is read as they are
pub read_as : (text : List ℕ) (tokens : List Token) (reading : Result Tree ReadRefusal) → HasTokens text tokens →
    IsParsedAs tokens reading → IsReadAs text reading
read_as text tokens (Ok tree) has parsed = (
  record { shaped = parsed.0; stands = subst (StandsFor text) (sym parsed.1) has.stands },
  subst (λ (t : List Token). length t ≤ 1000000) (sym parsed.1) has.few,
)
read_as text tokens (Err (BadByte at)) has parsed = absurd parsed
read_as text tokens (Err (WordTooLong at)) has parsed = absurd parsed
read_as text tokens (Err TooManyTokens) has parsed = absurd parsed
read_as text tokens (Err (Syntax at)) has parsed = (tokens, has, parsed)
read_as text tokens (Err (Deep at)) has parsed = (tokens, has, parsed)

-- a reading by what the lexer answers
of_lexing : LexRefusal → Result Tree ReadRefusal
of_lexing (lexing.BadByte at) = Err (BadByte at)
of_lexing (lexing.WordTooLong at) = Err (WordTooLong at)
of_lexing lexing.TooManyTokens = Err TooManyTokens
of_lexing lexing.NoMemory = Err TooManyTokens

data Side (text : List ℕ) (reading : Result Tree ReadRefusal) : Type 0 where
  by_tokens : (lexeds : List Lexed) → IsLexed text lexeds → IsParsedAs (tokens_of lexeds) reading → Side text reading
  by_bytes : (refusal : LexRefusal) → refusal ≢ lexing.NoMemory → IsRefused text refusal → reading ≡ of_lexing refusal →
      Side text reading

of_tokens : (text : List ℕ) (reading : Result Tree ReadRefusal) → HasTokensReadAs text reading → Side text reading
of_tokens text reading (tokens, has, parsed) =
    let lexeds = has.stands.0 in
    let same = has.stands.2 in
    by_tokens lexeds
    (record { read = has.stands.1; few = subst (λ n. n ≤ 1000000) (ap length (sym same) ∙ count_of lexeds) has.few })
    (subst (λ (t : List Token). IsParsedAs t reading) (sym same) parsed)

side_of : (text : List ℕ) (reading : Result Tree ReadRefusal) → IsReadAs text reading → Side text reading
unfolding of_lexing
side_of text (Ok tree) read =
    of_tokens text (Ok tree) (spell tree, record { stands = read.0.stands; few = read.1 }, (read.0.shaped, refl))
side_of text (Err (BadByte at)) read = by_bytes (lexing.BadByte at) (λ e. cc) read refl
side_of text (Err (WordTooLong at)) read = by_bytes (lexing.WordTooLong at) (λ e. cc) read refl
side_of text (Err TooManyTokens) read = by_bytes lexing.TooManyTokens (λ e. cc) read refl
side_of text (Err (Syntax at)) read = of_tokens text (Err (Syntax at)) read
side_of text (Err (Deep at)) read = of_tokens text (Err (Deep at)) read

-- a reading by what the parser answers
of_parsing : Result Tree SyntaxRefusal → Result Tree ReadRefusal
of_parsing (Ok tree) = Ok tree
of_parsing (Err (parsing.Syntax at)) = Err (Syntax at)
of_parsing (Err (parsing.Deep at)) = Err (Deep at)
of_parsing (Err parsing.NoMemory) = Err TooManyTokens

parsed_by : (tokens : List Token) (reading : Result Tree ReadRefusal) → IsParsedAs tokens reading →
    (answer : Result Tree SyntaxRefusal) × IsFullAnswer tokens answer × (reading ≡ of_parsing answer)
unfolding of_parsing
parsed_by tokens (Ok tree) parsed = (Ok tree, (parsed, λ e. cc), refl)
parsed_by tokens (Err (BadByte at)) parsed = absurd parsed
parsed_by tokens (Err (WordTooLong at)) parsed = absurd parsed
parsed_by tokens (Err TooManyTokens) parsed = absurd parsed
parsed_by tokens (Err (Syntax at)) parsed = (Err (parsing.Syntax at), (parsed, λ e. cc), refl)
parsed_by tokens (Err (Deep at)) parsed = (Err (parsing.Deep at), (parsed, λ e. cc), refl)

module _ (lex_once : OneLexing) (parse_once : OneParsing) where
  parsed_once : (tokens : List Token) (one two : Result Tree ReadRefusal) → IsParsedAs tokens one →
      IsParsedAs tokens two → one ≡ two
  parsed_once tokens one two first second =
      let p = parsed_by tokens one first in
      let q = parsed_by tokens two second in
      p.2 ∙ ap of_parsing (parse_once tokens p.0 q.0 p.1 q.1) ∙ sym q.2

  sides_once : (text : List ℕ) (one two : Result Tree ReadRefusal) → Side text one → Side text two → one ≡ two
  sides_once text one two (by_tokens a read parsed) (by_tokens b read' parsed') =
      let both : Ok a ≡ Ok b = lex_once text (Ok a) (Ok b) read read' in
      let same : a ≡ b = cc in
      parsed_once (tokens_of a) one two parsed
      (subst (λ (l : List Lexed). IsParsedAs (tokens_of l) two) (sym same) parsed')
  sides_once text one two (by_tokens a read parsed) (by_bytes refusal some refused e) =
      absurd (let both : Ok a ≡ Err refusal = lex_once text (Ok a) (Err refusal) read (some, refused) in cc)
  sides_once text one two (by_bytes refusal some refused e) (by_tokens a read parsed) =
      absurd (let both : Err refusal ≡ Ok a = lex_once text (Err refusal) (Ok a) (some, refused) read in cc)
  sides_once text one two (by_bytes refusal some refused e) (by_bytes other some' refused' e') =
      let both : Err refusal ≡ Err other = lex_once text (Err refusal) (Err other) (some, refused) (some', refused') in
      let same : refusal ≡ other = cc in
      e ∙ ap of_lexing same ∙ sym e'

  pub readings_once : OneReading
  readings_once text one two first second = sides_once text one two (side_of text one first) (side_of text two second)

pub reads_back : LayoutIsFile → LayoutReadsBack
reads_back layout_is_file tree shaped within few =
    let file = layout_is_file tree shaped in
    let lexeds = file.stands.0 in
    let same = file.stands.2 in (
      lexeds,
      record { read = file.stands.1; few = subst (λ n. n ≤ 1000000) (ap length (sym same) ∙ count_of lexeds) few },
      (shaped, sym same),
    )
