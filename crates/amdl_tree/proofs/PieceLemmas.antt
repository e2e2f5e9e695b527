-- Pieces of a text: at one place stands one piece, so that two readings of a text go on with one another.
use Rattle.std.proofs.Common.{◌≡◌, ◌≤◌, ◌<◌, ◌+◌, ℕ, Bool, true, List, [], ◌∷◌, ◌++◌, ◌==◌, not, length, drop, map}
use Rattle.std.proofs.Common.{refl, sym, ap, ◌∙◌, subst, arith, inl, inr, ◌⊎◌, append_assoc, length-append, append-nil}
use Rattle.std.proofs.Common.{add-zero}
use Rattle.std.specs.List.{list_all}
use Rattle.std.proofs.lemmas.Bool.{false≢true}
use Rattle.std.proofs.lemmas.List.{append_cancel_left, take-append-drop, length-take-le, drop_all}
use Rattle.std.proofs.lemmas.Grind.{flat_map-append}
use Rattle.amdl_tree.specs.Token.{SpellsToken}
use Rattle.amdl_tree.specs.Lexical.{is_blank, IsComment, EndsLine, IsGap, IsLexeme, Piece, a_gap, a_token}
use Rattle.amdl_tree.specs.Lexical.{bytes_of_piece, bytes_of, Stands, AllStand, tokens_from, lexed, Reads, token_of}
use Rattle.amdl_tree.specs.Lexical.{StandsFor}
use Rattle.amdl_tree.specs.declared.token.Token.{Token}
use Rattle.amdl_tree.specs.declared.token.Lexed.{Lexed}
use Rattle.amdl_tree.proofs.RunLemmas.{StopsRun, front_le, fronts_alike, first, firsts_alike}
use Rattle.amdl_tree.proofs.LexemeLemmas.{lexeme_some, lexeme_not_blank, lexeme_not_comment, token_lexeme, tokens_alike}

abbrev in_line : ℕ → Bool
in_line byte = not (byte == 10)

line_stops : (after : List ℕ) → EndsLine after → StopsRun in_line after
line_stops [] ends = tt
line_stops (byte ∷ bytes) ends = rw ends refl

comment_in_line : (bytes : List ℕ) → IsComment bytes → list_all in_line bytes ≡ true
comment_in_line [] is = absurd is
comment_in_line (byte ∷ bytes) is = rw is.0 is.1

comment_first : (bytes : List ℕ) → IsComment bytes → first bytes ≡ 35
comment_first [] is = absurd is
comment_first (byte ∷ bytes) is = is.0

comment_some : (bytes : List ℕ) → IsComment bytes → 0 < length bytes
comment_some [] is = absurd is
comment_some (byte ∷ bytes) is = omega arith

hash_not_blank : (byte : ℕ) → byte ≡ 35 → is_blank byte ≡ true → ⊥
hash_not_blank byte e is =
    let none : is_blank 35 ≡ true = subst (λ b. is_blank b ≡ true) e is in
    absurd (false≢true none)

-- a gap is not empty, and begins with a blank or a `#`
pub gap_some : (bytes after : List ℕ) → IsGap bytes after → 0 < length bytes
gap_some bytes after (inl blank) = rw blank.1 (omega arith)
gap_some bytes after (inr comment) = comment_some bytes comment.0

pub gap_first : (bytes after : List ℕ) → IsGap bytes after → (is_blank (first bytes) ≡ true) ⊎ (first bytes ≡ 35)
gap_first bytes after (inl blank) = inl (rw blank.1 blank.2)
gap_first bytes after (inr comment) = inr (comment_first bytes comment.0)

pub gap_not_lexeme : (bytes after other : List ℕ) → IsGap bytes after → IsLexeme other → first bytes ≡ first other → ⊥
gap_not_lexeme bytes after other gap lexeme same =
    elim (gap_first bytes after gap) [
      | inl blank ↦ lexeme_not_blank other lexeme (subst (λ b. is_blank b ≡ true) same blank)
      | inr hash ↦ lexeme_not_comment other lexeme (sym same ∙ hash)
    ]

-- each front of the text that may be a gap there is the same
gaps_alike : (g a h b : List ℕ) → IsGap g a → IsGap h b → g ++ a ≡ h ++ b → g ≡ h
gaps_alike g a h b (inl blank) (inl other) e =
    let size : length g ≡ length h = rw (blank.1, other.1) refl in
    (fronts_alike g a h b e size).0
gaps_alike g a h b (inl blank) (inr other) e =
    let same : first g ≡ first h = firsts_alike g a h b (gap_some g a (inl blank)) (comment_some h other.0) e in
    absurd (hash_not_blank (first g) (same ∙ comment_first h other.0) (rw blank.1 blank.2))
gaps_alike g a h b (inr comment) (inl other) e =
    let same : first g ≡ first h = firsts_alike g a h b (comment_some g comment.0) (gap_some h b (inl other)) e in
    absurd (hash_not_blank (first h) (sym same ∙ comment_first g comment.0) (rw other.1 other.2))
gaps_alike g a h b (inr comment) (inr other) e =
    let one : length h ≤ length g = front_le in_line g a h b (line_stops a comment.1) (comment_in_line h other.0) e in
    let two : length g ≤ length h =
    front_le in_line h b g a (line_stops b other.1) (comment_in_line g comment.0) (sym e) in
    (fronts_alike g a h b e (omega arith)).0

spelled_alike : (t u : Token) (s a r b : List ℕ) → Stands (a_token t s) a → Stands (a_token u r) b → s ++ a ≡ r ++ b →
    a_token t s ≡ a_token u r
spelled_alike t u s a r b p q e =
    let one : length r ≤ length s = p.1 r b e (token_lexeme u r q.0) in
    let two : length s ≤ length r = q.1 s a (sym e) (token_lexeme t s p.0) in
    let same : s ≡ r = (fronts_alike s a r b e (omega arith)).0 in
    let tokens : t ≡ u = tokens_alike t u r (subst (SpellsToken t) same p.0) q.0 in
    ap (a_token t) same ∙ ap (λ v. a_token v r) tokens

piece_some : (p : Piece) (after : List ℕ) → Stands p after → 0 < length (bytes_of_piece p)
piece_some (a_gap g) after stands = gap_some g after stands
piece_some (a_token t s) after stands = lexeme_some s (token_lexeme t s stands.0)

-- at one place stands one piece
pub pieces_alike : (p q : Piece) (a b : List ℕ) → Stands p a → Stands q b →
    bytes_of_piece p ++ a ≡ bytes_of_piece q ++ b → p ≡ q
pieces_alike (a_gap g) (a_gap h) a b s t e = ap a_gap (gaps_alike g a h b s t e)
pieces_alike (a_gap g) (a_token u r) a b s t e =
    let lexeme : IsLexeme r = token_lexeme u r t.0 in
    absurd (gap_not_lexeme g a r s lexeme (firsts_alike g a r b (gap_some g a s) (lexeme_some r lexeme) e))
pieces_alike (a_token u r) (a_gap g) a b s t e =
    let lexeme : IsLexeme r = token_lexeme u r s.0 in
    absurd (gap_not_lexeme g b r t lexeme (firsts_alike g b r a (gap_some g b t) (lexeme_some r lexeme) (sym e)))
pieces_alike (a_token u r) (a_token v w) a b s t e = spelled_alike u v r a w b s t e

-- no piece stands at the front
abbrev pub IsStuck : List ℕ → Type 0
IsStuck text = (p : Piece) (rest : List ℕ) → text ≡ bytes_of_piece p ++ rest → ¬ Stands p rest

pub end_stuck : IsStuck []
end_stuck p rest e stands =
    let some = piece_some p rest stands in
    omega (arith, ap length e, length-append (bytes_of_piece p) rest)

-- of two lists of pieces at the front of one text one goes on with the other
pub record GoesOn (fewer more : List Piece) (rest : List ℕ) : Type 0 where
  pub others : List Piece
  pub whole : more ≡ fewer ++ others
  pub stand : AllStand others rest

pub comparable : (ps qs : List Piece) (a b : List ℕ) → AllStand ps a → AllStand qs b →
    bytes_of ps ++ a ≡ bytes_of qs ++ b → GoesOn ps qs b ⊎ GoesOn qs ps a
comparable [] qs a b s t e = inl (record { others = qs; whole = refl; stand = t })
comparable (p ∷ ps) [] a b s t e = inr (record { others = p ∷ ps; whole = refl; stand = s })
comparable (p ∷ ps) (q ∷ qs) a b s t e =
    let whole : bytes_of_piece p ++ (bytes_of ps ++ a) ≡ bytes_of_piece q ++ (bytes_of qs ++ b) =
    sym (append_assoc (bytes_of_piece p) (bytes_of ps) a) ∙ e ∙ append_assoc (bytes_of_piece q) (bytes_of qs) b in
    let same : p ≡ q = pieces_alike p q (bytes_of ps ++ a) (bytes_of qs ++ b) s.0 t.0 whole in
    let tail : bytes_of ps ++ a ≡ bytes_of qs ++ b =
    append_cancel_left (bytes_of_piece p) (bytes_of ps ++ a) (bytes_of qs ++ b)
    (whole ∙ ap (λ x. bytes_of_piece x ++ (bytes_of qs ++ b)) (sym same)) in
    elim (comparable ps qs a b s.1 t.1 tail) [
      | inl on ↦ inl
          (record {
            others = on.others;
            whole = ap (λ x. x ∷ qs) (sym same)
                ∙ ap (λ x. p ∷ x) on.whole;
            stand = on.stand;
          })
      | inr on ↦ inr
          (record { others = on.others; whole = ap (λ x. x ∷ ps) same ∙ ap (λ x. q ∷ x) on.whole; stand = on.stand })
    ]

pub tokens_from-append : (at : ℕ) (ps qs : List Piece) →
    tokens_from at (ps ++ qs) ≡ tokens_from at ps ++ tokens_from (at + length (bytes_of ps)) qs
tokens_from-append at [] qs = rw add-zero refl
tokens_from-append at (a_gap g ∷ ps) qs =
    tokens_from-append (at + length g) ps qs
    ∙ ap (λ n. tokens_from (at + length g) ps ++ tokens_from n qs) (omega (arith, length-append g (bytes_of ps)))
tokens_from-append at (a_token t s ∷ ps) qs =
    ap (λ l. lexed t at (at + length s) ∷ l)
    (tokens_from-append (at + length s) ps qs
    ∙ ap (λ n. tokens_from (at + length s) ps ++ tokens_from n qs) (omega (arith, length-append s (bytes_of ps))))

-- the whole text from a reading
pub whole_of : (text : List ℕ) (at : ℕ) (tokens : List Lexed) (r : Reads text at tokens) →
    text ≡ bytes_of r.pieces ++ drop at text
whole_of text at tokens r = sym (take-append-drop at text) ∙ ap (λ x. x ++ drop at text) r.front

pub size_of : (text : List ℕ) (at : ℕ) (tokens : List Lexed) (r : Reads text at tokens) →
    length (bytes_of r.pieces) ≡ at
size_of text at tokens r = ap length (sym r.front) ∙ length-take-le at text r.within

-- where nothing stands no pieces do
stuck_ends : (text : List ℕ) → IsStuck text → (ps : List Piece) (rest : List ℕ) → text ≡ bytes_of ps ++ rest →
    AllStand ps rest → ps ≡ []
stuck_ends text stuck [] rest e all = refl
stuck_ends text stuck (p ∷ ps) rest e all =
    absurd (stuck p (bytes_of ps ++ rest) (e ∙ append_assoc (bytes_of_piece p) (bytes_of ps) rest) all.0)

-- a reading that cannot go on is not the shorter one
stuck_is_all : (text : List ℕ) (at bt : ℕ) (ts us : List Lexed) (r : Reads text at ts) (s : Reads text bt us) →
    IsStuck (drop bt text) → GoesOn s.pieces r.pieces (drop at text) → r.pieces ≡ s.pieces
stuck_is_all text at bt ts us r s stuck on =
    let whole : bytes_of s.pieces ++ (bytes_of on.others ++ drop at text) ≡ bytes_of s.pieces ++ drop bt text =
    sym (append_assoc (bytes_of s.pieces) (bytes_of on.others) (drop at text))
    ∙ ap (λ x. x ++ drop at text) (sym (flat_map-append bytes_of_piece s.pieces on.others))
    ∙ ap (λ x. bytes_of x ++ drop at text) (sym on.whole)
    ∙ sym (whole_of text at ts r) ∙ whole_of text bt us s in
    let none : on.others ≡ [] =
    stuck_ends (drop bt text) stuck on.others (drop at text)
    (sym
    (append_cancel_left (bytes_of s.pieces) (bytes_of on.others ++ drop at text) (drop bt text) whole)) on.stand in
    on.whole ∙ ap (λ x. s.pieces ++ x) none ∙ append-nil s.pieces

same_text : (text : List ℕ) (at bt : ℕ) (ts us : List Lexed) (r : Reads text at ts) (s : Reads text bt us) →
    bytes_of r.pieces ++ drop at text ≡ bytes_of s.pieces ++ drop bt text
same_text text at bt ts us r s = sym (whole_of text at ts r) ∙ whole_of text bt us s

more_tokens : (ps qs : List Piece) → length (tokens_from 0 ps) ≤ length (tokens_from 0 (ps ++ qs))
more_tokens ps qs =
    omega (
      arith,
      ap length (tokens_from-append 0 ps qs),
      length-append (tokens_from 0 ps) (tokens_from (0 + length (bytes_of ps)) qs),
    )

-- a reading that cannot go on has at least the tokens of each other
pub stuck_has_most : (text : List ℕ) (at bt : ℕ) (ts us : List Lexed) → Reads text at ts → Reads text bt us →
    IsStuck (drop bt text) → length ts ≤ length us
stuck_has_most text at bt ts us r s stuck =
    elim (comparable r.pieces s.pieces (drop at text) (drop bt text) r.stand s.stand (same_text text at bt ts us r s)) [
      | inl on ↦
          omega (
            arith,
            more_tokens r.pieces on.others,
            ap length r.made,
            ap length (s.made ∙ ap (tokens_from 0) on.whole),
          )
      | inr on ↦
          omega (
            arith,
            ap length (r.made ∙ ap (tokens_from 0) (stuck_is_all text at bt ts us r s stuck on) ∙ sym s.made),
          )
    ]

same_pieces : (text : List ℕ) (at bt : ℕ) (ts us : List Lexed) (r : Reads text at ts) (s : Reads text bt us) →
    IsStuck (drop at text) → IsStuck (drop bt text) → r.pieces ≡ s.pieces
same_pieces text at bt ts us r s one other =
    elim (comparable r.pieces s.pieces (drop at text) (drop bt text) r.stand s.stand (same_text text at bt ts us r s)) [
      | inl on ↦ sym (stuck_is_all text bt at us ts s r one on)
      | inr on ↦ stuck_is_all text at bt ts us r s other on
    ]

-- all readings that cannot go on are one
pub stuck_alike : (text : List ℕ) (at bt : ℕ) (ts us : List Lexed) → Reads text at ts → Reads text bt us →
    IsStuck (drop at text) → IsStuck (drop bt text) → (at ≡ bt) × (ts ≡ us)
stuck_alike text at bt ts us r s one other =
    let same : r.pieces ≡ s.pieces = same_pieces text at bt ts us r s one other in (
      sym (size_of text at ts r) ∙ ap (λ ps. length (bytes_of ps)) same ∙ size_of text bt us s,
      r.made ∙ ap (tokens_from 0) same ∙ sym s.made,
    )

-- the end of a text
pub end_of : (text : List ℕ) → drop (length text) text ≡ []
end_of text = drop_all (length text) text (omega arith)

pub whole_stuck : (text : List ℕ) → IsStuck (drop (length text) text)
whole_stuck text = subst IsStuck (sym (end_of text)) end_stuck

-- a whole text is read in one way
pub whole_alike : (text : List ℕ) (ts us : List Lexed) → Reads text (length text) ts → Reads text (length text) us →
    ts ≡ us
whole_alike text ts us r s =
    (stuck_alike text (length text) (length text) ts us r s (whole_stuck text) (whole_stuck text)).1

-- so it stands for one token list
pub stands_once : (text : List ℕ) (tokens others : List Token) → StandsFor text tokens → StandsFor text others →
    tokens ≡ others
stands_once text tokens others p q = sym p.2 ∙ ap (map token_of) (whole_alike text p.0 q.0 p.1 q.1) ∙ q.2
