-- Parts of a text that stand for tokens, whatever follows or where what follows goes on with no word.
use Rattle.std.proofs.Common.{◌≡◌, ◌+◌, ℕ, true, List, [], ◌∷◌, ◌++◌, length, drop, map, codes, refl, sym, ap, ◌∙◌}
use Rattle.std.proofs.Common.{subst, arith, inl, append_assoc, append-nil, take_all}
use Rattle.std.specs.List.{flat_map, All}
use Rattle.std.proofs.lemmas.Grind.{flat_map-append}
use Rattle.std.proofs.lemmas.List.Elements.{All-head, All-tail}
use Rattle.amdl_tree.specs.Word.{IsWord, IsName, EndsWord, goes_on_with_word, spelling_of_reserved}
use Rattle.amdl_tree.specs.Token.{spelling_of_sign}
use Rattle.amdl_tree.specs.Layout.{line, indented, behind_text, joined, listed}
use Rattle.amdl_tree.specs.Spelling.{word, key, mark, led, with_commas}
use Rattle.amdl_tree.specs.Spelling.{listed as spelled_list}
use Rattle.amdl_tree.specs.Lexical.{is_blank, IsLongest, Piece, a_gap, a_token, bytes_of_piece, bytes_of, Stands}
use Rattle.amdl_tree.specs.Lexical.{AllStand, tokens_from, token_of, StandsFor}
use Rattle.amdl_tree.specs.declared.reserved.Reserved.{Reserved}
use Rattle.amdl_tree.specs.declared.token.Sign.{Sign}
use Rattle.amdl_tree.specs.declared.token.Sign.TheVariants.{Colon, Comma}
use Rattle.amdl_tree.specs.declared.token.Token.{Token}
use Rattle.amdl_tree.specs.declared.token.Token.TheVariants.{Word, Key, Sign as Signed}
use Rattle.amdl_tree.proofs.RunLemmas.{StopsRun}
use Rattle.amdl_tree.proofs.LexemeLemmas.{word_longest, reserved_is_word, begins_none, sign_alone, colon_alone}

-- the tokens among the pieces, without their places
abbrev pub tokens_in : List Piece → List Token
tokens_in [] = []
tokens_in (a_gap bytes ∷ pieces) = tokens_in pieces
tokens_in (a_token token bytes ∷ pieces) = token ∷ tokens_in pieces

-- the text is cut into pieces that stand for these tokens in front of each rest that is so
pub record Part (follows : List ℕ → Type 0) (text : List ℕ) (tokens : List Token) : Type 0 where
  pub pieces : List Piece
  pub whole : bytes_of pieces ≡ text
  pub made : tokens_in pieces ≡ tokens
  pub stand : (rest : List ℕ) → follows rest → AllStand pieces rest

-- whatever follows
abbrev pub Anything : List ℕ → Type 0
Anything rest = Unit {0}

tokens_in-append : (ps qs : List Piece) → tokens_in (ps ++ qs) ≡ tokens_in ps ++ tokens_in qs
tokens_in-append [] qs = refl
tokens_in-append (a_gap bytes ∷ ps) qs = tokens_in-append ps qs
tokens_in-append (a_token token bytes ∷ ps) qs = ap (λ tokens. token ∷ tokens) (tokens_in-append ps qs)

pub all_stand-append : (ps qs : List Piece) (rest : List ℕ) → AllStand ps (bytes_of qs ++ rest) → AllStand qs rest →
    AllStand (ps ++ qs) rest
all_stand-append [] qs rest one two = two
all_stand-append (p ∷ ps) qs rest one two =
    let e : bytes_of ps ++ (bytes_of qs ++ rest) ≡ bytes_of (ps ++ qs) ++ rest =
    sym (append_assoc (bytes_of ps) (bytes_of qs) rest)
    ∙ ap (λ b. b ++ rest) (sym (flat_map-append bytes_of_piece ps qs)) in
    (subst (Stands p) e one.0, all_stand-append ps qs rest one.1 two)

-- one part behind the other
pub part_then : {F G : List ℕ → Type 0} {a b : List ℕ} {k l : List Token} → Part F a k → Part G b l →
    ((rest : List ℕ) → G rest → F (b ++ rest)) → Part G (a ++ b) (k ++ l)
part_then {b = b} one two meets = record {
  pieces = one.pieces ++ two.pieces;
  whole = flat_map-append bytes_of_piece one.pieces two.pieces ∙ (λ i. one.whole i ++ two.whole i);
  made = tokens_in-append one.pieces two.pieces ∙ (λ i. one.made i ++ two.made i);
  stand = λ rest follows. all_stand-append one.pieces two.pieces rest
      (subst (λ t. AllStand one.pieces (t ++ rest)) (sym two.whole) (one.stand (b ++ rest) (meets rest follows)))
      (two.stand rest follows);
}

pub part_on : {G : List ℕ → Type 0} {a b : List ℕ} {k l : List Token} → Part Anything a k → Part G b l →
    Part G (a ++ b) (k ++ l)
part_on one two = part_then one two (λ rest follows. tt)

-- what may stand in front of anything may stand in front of what ends a word
pub part_closed : {a : List ℕ} {k : List Token} → Part Anything a k → Part EndsWord a k
part_closed one =
    record { pieces = one.pieces; whole = one.whole; made = one.made; stand = λ rest follows. one.stand rest tt }

-- the same part of an equal text, for equal tokens
pub part_as : {F : List ℕ → Type 0} {a b : List ℕ} {k l : List Token} → Part F a k → a ≡ b → k ≡ l → Part F b l
part_as one e d = record { pieces = one.pieces; whole = one.whole ∙ e; made = one.made ∙ d; stand = one.stand }

pub part_none : Part EndsWord [] []
part_none = record { pieces = []; whole = refl; made = refl; stand = λ rest follows. tt }

pub part_nothing : Part Anything [] []
part_nothing = record { pieces = []; whole = refl; made = refl; stand = λ rest follows. tt }

-- Blanks.

blank_at : (byte : ℕ) → is_blank byte ≡ true → Part Anything (byte ∷ []) []
blank_at byte is =
    record {
      pieces = a_gap (byte ∷ [])
          ∷ [];
      whole = refl;
      made = refl;
      stand = λ rest follows. (inl (byte, refl, is), tt);
    }

pub part_blank : Part Anything (codes " ") []
part_blank = blank_at 32 refl

pub part_feed : Part Anything (10 ∷ []) []
part_feed = blank_at 10 refl

-- Words.

stops_word : (rest : List ℕ) → EndsWord rest → StopsRun goes_on_with_word rest
stops_word [] ends = tt
stops_word (byte ∷ bytes) ends = ends

word_part : (bytes : List ℕ) (token : Token) → IsWord bytes →
    ((rest : List ℕ) → IsLongest bytes rest → Stands (a_token token bytes) rest) → Part EndsWord bytes (token ∷ [])
word_part bytes token is stands = record {
  pieces = a_token token bytes ∷ [];
  whole = append-nil bytes;
  made = refl;
  stand = λ rest follows. (stands rest (word_longest bytes rest is (stops_word rest follows)), tt);
}

pub part_name : (name : List ℕ) → IsName name → Part EndsWord name (word name)
part_name name is = word_part name (Word name) is.word (λ rest longest. ((is, refl), longest))

pub part_key : (reserved : Reserved) → Part EndsWord (spelling_of_reserved reserved) (key reserved)
part_key reserved =
    word_part (spelling_of_reserved reserved) (Key reserved) (reserved_is_word reserved)
    (λ rest longest. (refl, longest))

-- a reserved word and a blank
pub part_lead : (reserved : Reserved) → Part Anything (spelling_of_reserved reserved ++ codes " ") (key reserved)
part_lead reserved = part_then (part_key reserved) part_blank (λ rest follows. refl)

-- the same between blanks
pub part_between : (reserved : Reserved) →
    Part Anything (codes " " ++ spelling_of_reserved reserved ++ codes " ") (key reserved)
part_between reserved = part_on part_blank (part_lead reserved)

-- Signs.

pub part_sign : (sign : Sign) → begins_none sign ≡ true → Part Anything (spelling_of_sign sign) (mark sign)
part_sign sign none = record {
  pieces = a_token (Signed sign) (spelling_of_sign sign) ∷ [];
  whole = append-nil (spelling_of_sign sign);
  made = refl;
  stand = λ rest follows. ((refl, sign_alone sign rest none), tt);
}

-- a sign between blanks
pub part_spaced : (sign : Sign) → begins_none sign ≡ true →
    Part Anything (codes " " ++ spelling_of_sign sign ++ codes " ") (mark sign)
part_spaced sign none = part_on part_blank (part_on (part_sign sign none) part_blank)

pub part_colon : Part Anything (codes " : ") (mark Colon)
part_colon = part_on part_blank (record {
  pieces = a_token (Signed Colon) (codes ":") ∷ a_gap (codes " ") ∷ [];
  whole = refl;
  made = refl;
  stand = λ rest follows. ((refl, colon_alone rest), (inl (32, refl, refl), tt));
})

pub part_comma : Part Anything (codes ", ") (mark Comma)
part_comma = part_on (part_sign Comma refl) part_blank

-- lists of parts that end with a word at most, with a text between that stands for one token
module _ {A : Type 0} (W : A → Type 0) (written : A → List ℕ) (spelled : A → List Token)
    (one : (x : A) → W x → Part EndsWord (written x) (spelled x)) where
  module _ (text : List ℕ) (token : Token) (between : Part Anything text (token ∷ []))
      (ends : (rest : List ℕ) → EndsWord (text ++ rest)) where
    behind_ends : (xs : List A) (rest : List ℕ) → EndsWord rest →
        EndsWord (flat_map (behind_text text written) xs ++ rest)
    behind_ends [] rest follows = follows
    behind_ends (x ∷ xs) rest follows =
        simp append_assoc (ends (written x ++ (flat_map (behind_text text written) xs ++ rest)))

    behind_part : (xs : List A) → All W xs →
        Part EndsWord (flat_map (behind_text text written) xs) (flat_map (led token spelled) xs)
    behind_part [] p = part_none
    behind_part (x ∷ xs) p =
        part_then (part_on between (one x (All-head W x xs p))) (behind_part xs (All-tail W x xs p)) (behind_ends xs)

    pub part_joined : (xs : List A) → All W xs → Part EndsWord (joined text written xs) (spelled_list token spelled xs)
    part_joined [] p = part_none
    part_joined (x ∷ xs) p = part_then (one x (All-head W x xs p)) (behind_part xs (All-tail W x xs p)) (behind_ends xs)

  commas_behind : (xs : List A) →
      flat_map (behind_text (codes ", ") written) xs ≡ flat_map (λ p. codes ", " ++ p) (map written xs)
  commas_behind [] = refl
  commas_behind (x ∷ xs) = ap (λ rest. (codes ", " ++ written x) ++ rest) (commas_behind xs)

  commas_joined : (xs : List A) → joined (codes ", ") written xs ≡ listed (map written xs)
  commas_joined [] = refl
  commas_joined (x ∷ xs) = ap (λ rest. written x ++ rest) (commas_behind xs)

  -- with commas between
  pub part_listed : (xs : List A) → All W xs → Part EndsWord (listed (map written xs)) (with_commas spelled xs)
  part_listed xs p =
      part_as (part_joined (codes ", ") (Signed Comma) part_comma (λ rest. refl) xs p) (commas_joined xs) refl

names_joined : (names : List (List ℕ)) → joined (codes ", ") (λ (name : List ℕ). name) names ≡ listed names
names_joined [] = refl
names_joined (name ∷ names) = refl

pub part_names : (names : List (List ℕ)) → All IsName names → Part EndsWord (listed names) (with_commas word names)
part_names names p =
    part_as
    (part_joined IsName (λ (name : List ℕ). name) word part_name (codes ", ") (Signed Comma) part_comma
    (λ rest. refl) names p) (names_joined names) refl

-- parts one behind the other
pub part_many : {A : Type 0} (W : A → Type 0) (written : A → List ℕ) (spelled : A → List Token) →
    ((x : A) → W x → Part Anything (written x) (spelled x)) → (xs : List A) → All W xs →
    Part Anything (flat_map written xs) (flat_map spelled xs)
part_many W written spelled one [] p = part_nothing
part_many W written spelled one (x ∷ xs) p =
    part_on (one x (All-head W x xs p)) (part_many W written spelled one xs (All-tail W x xs p))

-- each line stands for tokens where its line feed follows, and together they stand for these
abbrev ByLine : List (List ℕ) → List Token → Type 0
ByLine [] tokens = [] ≡ tokens
ByLine (text ∷ lines) tokens =
    (here more : List Token) × Part EndsWord text here × ByLine lines more × (here ++ more ≡ tokens)

pub record Lines (lines : List (List ℕ)) (tokens : List Token) : Type 0 where
  pub by_line : ByLine lines tokens

by_line-append : (a b : List (List ℕ)) (k l : List Token) → ByLine a k → ByLine b l → ByLine (a ++ b) (k ++ l)
by_line-append [] b k l p q = subst (λ tokens. ByLine b (tokens ++ l)) p q
by_line-append (text ∷ a) b k l p q =
    (p.0, p.1 ++ l, p.2, by_line-append a b p.1 l p.3 q, sym (append_assoc p.0 p.1 l) ∙ ap (λ tokens. tokens ++ l) p.4)

by_line-indented : (lines : List (List ℕ)) (tokens : List Token) → ByLine lines tokens → ByLine (indented lines) tokens
by_line-indented [] tokens p = p
by_line-indented (text ∷ lines) tokens p =
    (p.0, p.1, part_on (part_on part_blank part_blank) p.2, by_line-indented lines p.1 p.3, p.4)

by_line-text : (lines : List (List ℕ)) (tokens : List Token) → ByLine lines tokens →
    Part Anything (flat_map line lines) tokens
by_line-text [] tokens p = part_as part_nothing refl p
by_line-text (text ∷ lines) tokens p =
    part_as (part_on (part_then p.2 part_feed (λ rest follows. refl)) (by_line-text lines p.1 p.3)) refl
    (ap (λ here. here ++ p.1) (append-nil p.0) ∙ p.4)

pub lines_none : Lines [] []
lines_none = record { by_line = refl }

-- a line in front
pub lines_next : {text : List ℕ} {here : List Token} {lines : List (List ℕ)} {more : List Token} →
    Part EndsWord text here → Lines lines more → Lines (text ∷ lines) (here ++ more)
lines_next {here = here} {more = more} one others = record { by_line = (here, more, one, others.by_line, refl) }

pub lines_one : {text : List ℕ} {tokens : List Token} → Part EndsWord text tokens → Lines (text ∷ []) tokens
lines_one {tokens = tokens} one = record { by_line = (tokens, [], one, refl, append-nil tokens) }

pub lines_then : {a b : List (List ℕ)} {k l : List Token} → Lines a k → Lines b l → Lines (a ++ b) (k ++ l)
lines_then {a = a} {b = b} {k = k} {l = l} one two = record { by_line = by_line-append a b k l one.by_line two.by_line }

pub lines_indented : {lines : List (List ℕ)} {tokens : List Token} → Lines lines tokens → Lines (indented lines) tokens
lines_indented {lines = lines} {tokens = tokens} one = record { by_line = by_line-indented lines tokens one.by_line }

pub lines_as : {a b : List (List ℕ)} {k l : List Token} → Lines a k → a ≡ b → k ≡ l → Lines b l
lines_as {a = a} {b = b} {k = k} {l = l} one e d = record {
  by_line = subst (λ lines. ByLine lines l) e
      (subst (ByLine a) d one.by_line);
}

pub lines_many : {A : Type 0} (W : A → Type 0) (written : A → List (List ℕ)) (spelled : A → List Token) →
    ((x : A) → W x → Lines (written x) (spelled x)) → (xs : List A) → All W xs →
    Lines (flat_map written xs) (flat_map spelled xs)
lines_many W written spelled one [] p = lines_none
lines_many W written spelled one (x ∷ xs) p =
    lines_then (one x (All-head W x xs p)) (lines_many W written spelled one xs (All-tail W x xs p))

pub lines_text : {lines : List (List ℕ)} {tokens : List Token} → Lines lines tokens →
    Part Anything (flat_map line lines) tokens
lines_text {lines = lines} {tokens = tokens} one = by_line-text lines tokens one.by_line

-- A whole text.

tokens_placed : (at : ℕ) (pieces : List Piece) → map token_of (tokens_from at pieces) ≡ tokens_in pieces
tokens_placed at [] = refl
tokens_placed at (a_gap bytes ∷ pieces) = tokens_placed (at + length bytes) pieces
tokens_placed at (a_token token bytes ∷ pieces) =
    ap (λ tokens. token ∷ tokens) (tokens_placed (at + length bytes) pieces)

pub part_stands : {text : List ℕ} {tokens : List Token} → Part Anything text tokens → StandsFor text tokens
part_stands {text = text} one = (
  tokens_from 0 one.pieces,
  record {
    pieces = one.pieces;
    within = omega arith;
    front = take_all (length text) text (omega arith) ∙ sym one.whole;
    stand = one.stand (drop (length text) text) tt;
    made = refl;
  },
  tokens_placed 0 one.pieces ∙ one.made,
)
