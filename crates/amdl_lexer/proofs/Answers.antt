-- A text has one answer.
use Rattle.std.proofs.Common.{◌≡◌, ℕ, List, [], Result, Ok, Err, inl, inr, length, drop, refl, sym, ap, subst, arith}
use Rattle.std.proofs.Common.{length-append}
use Rattle.amdl_tree.specs.declared.token.Lexed.{Lexed}
use Rattle.amdl_tree.proofs.LexemeLemmas.{lexeme_some}
use Rattle.amdl_lexer.specs.Answer.{IsLexed, IsRefused, IsOrNoMemory, StopsAt, StartsNothing, StartsOverlong}
use Rattle.amdl_lexer.specs.Answer.{IsOverfull}
use Rattle.amdl_lexer.specs.Laws.{OneAnswer, IsAnswer}
use Rattle.amdl_lexer.specs.declared.lexing.LexRefusal.{LexRefusal}
use Rattle.amdl_lexer.specs.declared.lexing.LexRefusal.TheVariants.{BadByte, WordTooLong, TooManyTokens, NoMemory}
use Rattle.amdl_lexer.proofs.Lexemes.{overlong_lexeme}
use Rattle.amdl_tree.proofs.PieceLemmas.{IsStuck, end_of, whole_stuck, whole_alike, stuck_has_most, stuck_alike}
use Rattle.amdl_lexer.proofs.Pieces.{nothing_stuck, overlong_stuck, nothing_not_overlong}

pub lists_alike : (text : List ℕ) (one other : List Lexed) → IsLexed text one → IsLexed text other → one ≡ other
lists_alike text one other p q = whole_alike text one other p.read q.read

-- a text that stops is not read as a whole, nor with too many tokens, and stops at one place
module _ (Fault : List ℕ → Type 0) (stuck : (text : List ℕ) → Fault text → IsStuck text) where
  pub stop_not_whole : (text : List ℕ) (tokens : List Lexed) (at : ℕ) → ¬ Fault [] → IsLexed text tokens →
      StopsAt Fault text at → ⊥
  stop_not_whole text tokens at never p q =
      let same =
      stuck_alike text (length text) at tokens q.tokens p.read q.read (whole_stuck text)
      (stuck (drop at text) q.fault) in
      never (subst Fault (end_of text) (subst (λ n. Fault (drop n text)) (sym same.0) q.fault))

  pub stop_not_overfull : (text : List ℕ) (at : ℕ) → StopsAt Fault text at → IsOverfull text → ⊥
  stop_not_overfull text at p q =
      omega (
        arith,
        stuck_has_most text q.at at q.tokens p.tokens q.read p.read (stuck (drop at text) p.fault),
        p.few,
        q.many,
      )

  pub stops_alike : (text : List ℕ) (at bt : ℕ) → StopsAt Fault text at → StopsAt Fault text bt → at ≡ bt
  stops_alike text at bt p q =
      (stuck_alike text at bt p.tokens q.tokens p.read q.read (stuck (drop at text) p.fault)
      (stuck (drop bt text) q.fault)).0

pub whole_not_overfull : (text : List ℕ) (tokens : List Lexed) → IsLexed text tokens → IsOverfull text → ⊥
whole_not_overfull text tokens p q =
    omega (
      arith,
      stuck_has_most text q.at (length text) q.tokens tokens q.read p.read (whole_stuck text),
      p.few,
      q.many,
    )

pub one_fault : (text : List ℕ) (at bt : ℕ) → StopsAt StartsNothing text at → StopsAt StartsOverlong text bt → ⊥
one_fault text at bt p q =
    let same =
    stuck_alike text at bt p.tokens q.tokens p.read q.read (nothing_stuck (drop at text) p.fault)
    (overlong_stuck (drop bt text) q.fault) in
    nothing_not_overlong (drop at text) p.fault (subst (λ n. StartsOverlong (drop n text)) (sym same.0) q.fault)

nothing_at_end : ¬ StartsNothing []
nothing_at_end nothing = nothing

overlong_at_end : ¬ StartsOverlong []
overlong_at_end overlong =
    omega (
      arith,
      ap length overlong.2,
      length-append overlong.0 overlong.1,
      lexeme_some overlong.0 (overlong_lexeme overlong.0 overlong.3),
    )

pub answers_alike : OneAnswer
answers_alike text (Ok ts) (Ok us) p q = ap Ok (lists_alike text ts us p q)
answers_alike text (Ok ts) (Err (BadByte at)) p q =
    absurd (stop_not_whole StartsNothing nothing_stuck text ts at nothing_at_end p q.1)
answers_alike text (Ok ts) (Err (WordTooLong at)) p q =
    absurd (stop_not_whole StartsOverlong overlong_stuck text ts at overlong_at_end p q.1)
answers_alike text (Ok ts) (Err TooManyTokens) p q = absurd (whole_not_overfull text ts p q.1)
answers_alike text (Ok ts) (Err NoMemory) p q = absurd (q.0 refl)
answers_alike text (Err (BadByte at)) (Ok ts) p q =
    absurd (stop_not_whole StartsNothing nothing_stuck text ts at nothing_at_end q p.1)
answers_alike text (Err (WordTooLong at)) (Ok ts) p q =
    absurd (stop_not_whole StartsOverlong overlong_stuck text ts at overlong_at_end q p.1)
answers_alike text (Err TooManyTokens) (Ok ts) p q = absurd (whole_not_overfull text ts q p.1)
answers_alike text (Err NoMemory) other p q = absurd (p.0 refl)
answers_alike text (Err one) (Err NoMemory) p q = absurd (q.0 refl)
answers_alike text (Err (BadByte at)) (Err (BadByte bt)) p q =
    ap (λ n. Err (BadByte n)) (stops_alike StartsNothing nothing_stuck text at bt p.1 q.1)
answers_alike text (Err (BadByte at)) (Err (WordTooLong bt)) p q = absurd (one_fault text at bt p.1 q.1)
answers_alike text (Err (BadByte at)) (Err TooManyTokens) p q =
    absurd (stop_not_overfull StartsNothing nothing_stuck text at p.1 q.1)
answers_alike text (Err (WordTooLong at)) (Err (BadByte bt)) p q = absurd (one_fault text bt at q.1 p.1)
answers_alike text (Err (WordTooLong at)) (Err (WordTooLong bt)) p q =
    ap (λ n. Err (WordTooLong n)) (stops_alike StartsOverlong overlong_stuck text at bt p.1 q.1)
answers_alike text (Err (WordTooLong at)) (Err TooManyTokens) p q =
    absurd (stop_not_overfull StartsOverlong overlong_stuck text at p.1 q.1)
answers_alike text (Err TooManyTokens) (Err (BadByte bt)) p q =
    absurd (stop_not_overfull StartsNothing nothing_stuck text bt q.1 p.1)
answers_alike text (Err TooManyTokens) (Err (WordTooLong bt)) p q =
    absurd (stop_not_overfull StartsOverlong overlong_stuck text bt q.1 p.1)
answers_alike text (Err TooManyTokens) (Err TooManyTokens) p q = refl

-- an answer that the text forces comes, unless memory ran out
pub forced_ok : (text : List ℕ) (tokens : List Lexed) (answer : Result (List Lexed) LexRefusal) → IsLexed text tokens →
    IsAnswer text answer → IsOrNoMemory (Ok tokens) answer
forced_ok text tokens answer given forced = inl (answers_alike text (Ok tokens) answer given forced)

pub forced_err : (text : List ℕ) (refusal : LexRefusal) (answer : Result (List Lexed) LexRefusal) →
    IsRefused text refusal → IsAnswer text answer → IsOrNoMemory (Err refusal) answer
forced_err text (BadByte at) answer given forced =
    inl (answers_alike text (Err (BadByte at)) answer (λ e. cc, given) forced)
forced_err text (WordTooLong at) answer given forced =
    inl (answers_alike text (Err (WordTooLong at)) answer (λ e. cc, given) forced)
forced_err text TooManyTokens answer given forced =
    inl (answers_alike text (Err TooManyTokens) answer (λ e. cc, given) forced)
forced_err text NoMemory answer given forced = inr refl
