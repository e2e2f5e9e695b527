-- Readings of a text, one piece after another, and where nothing stands.
use Rattle.std.proofs.Common.{◌≡◌, ◌≤◌, ◌+◌, ◌-◌, ℕ, List, [], ◌∷◌, ◌++◌, length, take, drop, refl, sym, ap, ◌∙◌, subst}
use Rattle.std.proofs.Common.{arith, inl, inr, append_assoc, length-append}
use Rattle.std.proofs.lemmas.Bool.{false≢true}
use Rattle.std.proofs.lemmas.List.{append-nil, take-append-drop, length-take-le, length-drop, drop-drop, take_at}
use Rattle.std.proofs.lemmas.List.{take_rest}
use Rattle.std.proofs.lemmas.Grind.{flat_map-append}
use Rattle.amdl_tree.specs.Lexical.{is_blank, IsLexeme, Piece, a_gap, a_token, bytes_of_piece, bytes_of, Stands}
use Rattle.amdl_tree.specs.Lexical.{AllStand, tokens_from, lexed, Reads}
use Rattle.amdl_tree.specs.declared.token.Token.{Token}
use Rattle.amdl_tree.specs.declared.token.Lexed.{Lexed}
use Rattle.amdl_tree.proofs.RunLemmas.{first, firsts_alike}
use Rattle.amdl_tree.proofs.LexemeLemmas.{lexeme_some, token_lexeme}
use Rattle.amdl_tree.proofs.PartLemmas.{all_stand-append}
use Rattle.amdl_tree.proofs.PieceLemmas.{IsStuck, gap_some, gap_first, gap_not_lexeme, tokens_from-append, whole_of}
use Rattle.amdl_tree.proofs.PieceLemmas.{size_of}
use Rattle.amdl_lexer.specs.Answer.{StartsNothing, StartsOverlong}
use Rattle.amdl_lexer.specs.Front.{IsFront}
use Rattle.amdl_lexer.specs.declared.front.Front.TheVariants as fronts
use Rattle.amdl_lexer.proofs.Lexemes.{good_not_overlong, overlong_lexeme}

pub nothing_stuck : (text : List ℕ) → StartsNothing text → IsStuck text
nothing_stuck [] nothing p rest e stands = absurd nothing
nothing_stuck (byte ∷ bytes) nothing (a_gap g) rest e gap =
    let same : byte ≡ first g = firsts_alike (byte ∷ []) bytes g rest (omega arith) (gap_some g rest gap) e in
    elim (gap_first g rest gap) [
      | inl blank ↦ false≢true (sym nothing.0 ∙ ap is_blank same ∙ blank)
      | inr hash ↦ nothing.1 (same ∙ hash)
    ]
nothing_stuck (byte ∷ bytes) nothing (a_token t s) rest e stands = nothing.2 s rest e (token_lexeme t s stands.0)

pub overlong_stuck : (text : List ℕ) → StartsOverlong text → IsStuck text
overlong_stuck text overlong (a_gap g) rest e gap =
    let lexeme : IsLexeme overlong.0 = overlong_lexeme overlong.0 overlong.3 in
    let whole : g ++ rest ≡ overlong.0 ++ overlong.1 = sym e ∙ overlong.2 in
    gap_not_lexeme g rest overlong.0 gap lexeme
    (firsts_alike g rest overlong.0 overlong.1 (gap_some g rest gap) (lexeme_some overlong.0 lexeme) whole)
overlong_stuck text overlong (a_token t s) rest e stands =
    good_not_overlong t s rest stands.0 stands.1 (subst StartsOverlong e overlong)

pub nothing_not_overlong : (text : List ℕ) → StartsNothing text → StartsOverlong text → ⊥
nothing_not_overlong [] nothing overlong = absurd nothing
nothing_not_overlong (byte ∷ bytes) nothing overlong =
    nothing.2 overlong.0 overlong.1 overlong.2 (overlong_lexeme overlong.0 overlong.3)

all_stand_push : (ps : List Piece) (p : Piece) (rest : List ℕ) → AllStand ps (bytes_of_piece p ++ rest) →
    Stands p rest → AllStand (ps ++ p ∷ []) rest
all_stand_push ps p rest all stands =
    all_stand-append ps (p ∷ []) rest
    (subst (λ bytes. AllStand ps (bytes ++ rest)) (sym (append-nil (bytes_of_piece p))) all) (stands, tt)

-- nothing is read at first
pub reads_none : (text : List ℕ) → Reads text 0 []
reads_none text = record { pieces = []; within = omega arith; front = refl; stand = tt; made = refl }

-- one more piece
pub reads_more : (text : List ℕ) (at size : ℕ) (tokens : List Lexed) (p : Piece) → Reads text at tokens →
    size ≤ length (drop at text) → bytes_of_piece p ≡ take size (drop at text) → Stands p (drop size (drop at text)) →
    Reads text (at + size) (tokens ++ tokens_from at (p ∷ []))
reads_more text at size tokens p r fits bytes stands =
    let rest : bytes_of_piece p ++ drop (at + size) text ≡ drop at text =
    ap (λ x. x ++ drop (at + size) text) bytes ∙ ap (λ x. take size (drop at text) ++ x) (sym (drop-drop size at text))
    ∙ take-append-drop size (drop at text) in
    let whole : bytes_of (r.pieces ++ p ∷ []) ++ drop (at + size) text ≡ text =
    ap (λ x. x ++ drop (at + size) text) (flat_map-append bytes_of_piece r.pieces (p ∷ []))
    ∙ simp (append_assoc, append-nil) (ap (λ x. bytes_of r.pieces ++ x) rest ∙ sym (whole_of text at tokens r)) in
    let long : length (bytes_of (r.pieces ++ p ∷ [])) ≡ at + size =
    omega (
      arith,
      ap length whole,
      length-append (bytes_of (r.pieces ++ p ∷ [])) (drop (at + size) text),
      length-drop (at + size) text,
      length-drop at text,
      r.within,
    ) in
    record {
      pieces = r.pieces ++ p ∷ [];
      within = omega (arith, length-drop at text, r.within);
      front = ap (take (at + size)) (sym whole)
          ∙ take_at (bytes_of (r.pieces ++ p ∷ [])) (drop (at + size) text) (at + size) long;
      stand = all_stand_push r.pieces p (drop (at + size) text) (subst (AllStand r.pieces) (sym rest) r.stand)
          (subst (Stands p) (drop-drop size at text) stands);
      made = ap (λ x. x ++ tokens_from at (p ∷ [])) r.made
          ∙ ap (λ n. tokens_from 0 r.pieces ++ tokens_from n (p ∷ [])) (sym (omega (arith, size_of text at tokens r)))
          ∙ sym (tokens_from-append 0 r.pieces (p ∷ []));
    }

-- a gap, or a token, at the front of what is left
pub step_gap : (text : List ℕ) (at size : ℕ) (tokens : List Lexed) → Reads text at tokens →
    IsFront (take (length text - at) (drop at text)) (fronts.Gap size) → Reads text (at + size) tokens
step_gap text at size tokens r here =
    let front : IsFront (drop at text) (fronts.Gap size) =
    subst (λ rest. IsFront rest (fronts.Gap size)) (take_rest text at) here in
    subst (Reads text (at + size)) (append-nil tokens)
    (reads_more text at size tokens (a_gap (take size (drop at text))) r front.0.within refl front.1)

pub step_token : (text : List ℕ) (at size : ℕ) (tokens : List Lexed) (token : Token) → Reads text at tokens →
    IsFront (take (length text - at) (drop at text)) (fronts.Good token size) →
    Reads text (at + size) (tokens ++ lexed token at (at + size) ∷ [])
step_token text at size tokens token r here =
    let front : IsFront (drop at text) (fronts.Good token size) =
    subst (λ rest. IsFront rest (fronts.Good token size)) (take_rest text at) here in
    subst (λ n. Reads text (at + size) (tokens ++ lexed token at (at + n) ∷ []))
    (length-take-le size (drop at text) front.0.within)
    (reads_more text at size tokens (a_token token (take size (drop at text))) r front.0.within refl (front.1, front.2))
