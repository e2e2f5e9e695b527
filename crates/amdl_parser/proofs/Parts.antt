-- Each small part of a tree is read right.
use Rattle.std.proofs.Common.{◌≡◌, ℕ, Bool, true, false, ◌||◌, List, [], ◌∷◌, ◌++◌, Option, Some, None, refl, sym, ap}
use Rattle.std.proofs.Common.{subst, append_assoc, arith}
use Rattle.std.specs.Prelude.{⊤}
use Rattle.std.specs.List.{All}
use Rattle.std.proofs.lemmas.List.Elements.{All-nil}
use Rattle.amdl_tree.specs.Word.{IsName}
use Rattle.amdl_tree.specs.WellBuilt.{OneOrMore, IsBuiltEqual, IsBuiltAtom, IsBuiltEnd, IsBuiltRelation}
use Rattle.amdl_tree.specs.Spelling.{word, with_commas, spell_of_atom, spell_of_equal, spell_of_change}
use Rattle.amdl_tree.specs.Spelling.{spell_of_pattern, spell_of_end, spell_of_first, spell_of_changes}
use Rattle.amdl_tree.specs.Spelling.{spell_of_relation}
use Rattle.amdl_tree.specs.GoesOn.{Past, Once, never, goes_list}
use Rattle.amdl_tree.specs.declared.token.Token.{Token}
use Rattle.amdl_tree.specs.declared.token.Token.TheVariants.{Word, Key, Sign as Signed}
use Rattle.amdl_tree.specs.declared.token.Sign.{Sign}
use Rattle.amdl_tree.specs.declared.reserved.Reserved.{Reserved}
use Rattle.amdl_tree.specs.declared.token.Sign.TheVariants as signs
use Rattle.amdl_tree.specs.declared.reserved.Reserved.TheVariants as words
use Rattle.amdl_tree.specs.declared.guard.Atom.{Atom}
use Rattle.amdl_tree.specs.declared.class.Relation.{Relation}
use Rattle.amdl_tree.specs.declared.tree.Equal.{Equal}
use Rattle.amdl_tree.specs.declared.tree.End.{End}
use Rattle.amdl_tree.specs.declared.tree.End.TheVariants.{Host as AtHost, Port as AtPort}
use Rattle.amdl_tree.proofs.SpellingOnce.{rank_of}
use Rattle.amdl_parser.specs.Reading.{is_same, same_sign, same_key, begins, fixed_at, rest_of, before_at, made_at}
use Rattle.amdl_parser.specs.Grammar.{names_at, atom_of, atom_at, equal_of, equal_at, change_at, equals_at}
use Rattle.amdl_parser.specs.Grammar.{some_changes_at, atoms_at, no_equals, as_list, pattern_at, end_of, end_at}
use Rattle.amdl_parser.specs.Grammar.{list_of, first_at, changes_at, relation_of, relation_at}
use Rattle.amdl_parser.proofs.Holds.{Heads, Holds, Reader, Named, past_none, form_holds}
use Rattle.amdl_parser.proofs.Readers.{Always, never_goes, fixed_spelled, fixed, names, chain, shaped, recast, after}
use Rattle.amdl_parser.proofs.Readers.{before, listing, maybe, maybe_spelled, IfThere, maybe_goes, if_holds, begun}
use Rattle.amdl_parser.proofs.Readers.{not_begun}

abbrev T : Type 0
T = List Token

-- a token is the same as itself
pub own_sign : (sign : Sign) → is_same (Signed sign) (Signed sign) ≡ true
unfolding is_same same_sign
own_sign signs.Comma = refl
own_sign sign = refl

pub own_key : (word : Reserved) → is_same (Key word) (Key word) ≡ true
unfolding is_same same_key
own_key words.True = refl
own_key word = refl

abbrev pub goes_comma : Token → Bool
goes_comma = goes_list (is_same (Signed signs.Comma)) never

pub name_list : Reader (with_commas word) (OneOrMore IsName) (OneOrMore IsName) (λ xs. goes_comma) names_at
unfolding names_at
name_list = listing names (Signed signs.Comma) (own_sign signs.Comma) refl

stop_sign : (sign : Sign) → same_sign sign signs.Comma ≡ false → goes_comma (Signed sign) ≡ false
unfolding is_same
stop_sign sign e = subst (λ b. (b || false) ≡ false) (sym e) refl

pub comma_close_paren : goes_comma (Signed signs.CloseParen) ≡ false
unfolding is_same same_sign
comma_close_paren = refl

pub comma_close_brace : goes_comma (Signed signs.CloseBrace) ≡ false
unfolding is_same same_sign
comma_close_brace = refl

pub comma_close_bracket : goes_comma (Signed signs.CloseBracket) ≡ false
unfolding is_same same_sign
comma_close_bracket = refl

pub comma_semicolon : goes_comma (Signed signs.Semicolon) ≡ false
unfolding is_same same_sign
comma_semicolon = refl

pub atom : Reader spell_of_atom IsBuiltAtom IsBuiltAtom never_goes atom_at
unfolding atom_at
atom = shaped
    (chain names
    (after (before name_list (Signed signs.CloseParen) (own_sign signs.CloseParen) (λ xs w. comma_close_paren))
    (Signed signs.OpenParen) (own_sign signs.OpenParen)) (λ x y a p q u. refl))
    atom_of (λ (atom : Atom). (atom.relation, atom.args)) (λ x w. refl) (λ y. refl) spell_of_atom (λ y. refl)

pub equal : Reader spell_of_equal IsBuiltEqual IsBuiltEqual never_goes equal_at
unfolding equal_at
equal = shaped (chain names (after names (Signed signs.Equals) (own_sign signs.Equals)) (λ x y a p q u. refl))
    equal_of (λ (equal : Equal). (equal.field, equal.value)) (λ x w. refl) (λ y. refl) spell_of_equal (λ y. refl)

pub change : Reader spell_of_change IsBuiltEqual IsBuiltEqual never_goes change_at
unfolding change_at
change = shaped (chain names (after names (Signed signs.Becomes) (own_sign signs.Becomes)) (λ x y a p q u. refl))
    equal_of (λ (equal : Equal). (equal.field, equal.value)) (λ x w. refl) (λ y. refl) spell_of_change (λ y. refl)

pub equals : Reader (with_commas spell_of_equal) (OneOrMore IsBuiltEqual) (OneOrMore IsBuiltEqual)
    (λ xs. goes_comma) equals_at
unfolding equals_at
equals = listing equal (Signed signs.Comma) (own_sign signs.Comma) refl

pub some_changes : Reader (with_commas spell_of_change) (OneOrMore IsBuiltEqual) (OneOrMore IsBuiltEqual)
    (λ xs. goes_comma) some_changes_at
unfolding some_changes_at
some_changes = listing change (Signed signs.Comma) (own_sign signs.Comma) refl

pub atoms : Reader (with_commas spell_of_atom) (OneOrMore IsBuiltAtom) (OneOrMore IsBuiltAtom)
    (λ xs. goes_comma) atoms_at
unfolding atoms_at
atoms = listing atom (Signed signs.Comma) (own_sign signs.Comma) refl

pub relation : Reader spell_of_relation IsBuiltRelation IsBuiltRelation never_goes relation_at
unfolding relation_at
relation = shaped
    (after (chain names
    (after
    (before (before name_list (Signed signs.CloseParen) (own_sign signs.CloseParen) (λ xs w. comma_close_paren))
    (Signed signs.Semicolon) (own_sign signs.Semicolon) (λ xs w. refl)) (Signed signs.OpenParen)
    (own_sign signs.OpenParen)) (λ x y a p q u. refl)) (Key words.Relation) (own_key words.Relation))
    relation_of (λ (relation : Relation). (relation.name, relation.kinds)) (λ x w. refl) (λ y. refl) spell_of_relation
    (λ y. ap (λ l. Key words.Relation ∷ Word y.name ∷ Signed signs.OpenParen ∷ l)
    (sym (append_assoc (with_commas word y.kinds) (Signed signs.CloseParen ∷ []) (Signed signs.Semicolon ∷ []))))

-- patterns

abbrev pub pattern_goes : List Equal → Token → Bool
pattern_goes [] = never
pattern_goes (x ∷ xs) = goes_comma

pattern_split : (xs ys : List Equal) (a b : T) → All IsBuiltEqual xs → All IsBuiltEqual ys → Past (pattern_goes xs) a →
    Past (pattern_goes ys) b → spell_of_pattern xs ++ a ≡ spell_of_pattern ys ++ b → (xs ≡ ys) × (a ≡ b)
pattern_split [] [] a b p q u v e = (refl, cc)
pattern_split [] (y ∷ ys) a b p q u v e = absurd (omega (arith, ap rank_of e))
pattern_split (x ∷ xs) [] a b p q u v e = absurd (omega (arith, ap rank_of e))
pattern_split (x ∷ xs) (y ∷ ys) a b p q u v e =
    equals.once.once (x ∷ xs) (y ∷ ys) a b ((λ e. cc), p) ((λ e. cc), q) u v e

pattern_once : Once spell_of_pattern (All IsBuiltEqual) pattern_goes
pattern_once = record { once = pattern_split }

true_only : (tokens : T) (ys : List Equal) (b : T) → All IsBuiltEqual ys → Past (pattern_goes ys) b →
    Heads (Key words.True ∷ tokens) (spell_of_pattern ys ++ b) →
    (x : ⊤) × (ys ≡ no_equals x) × ⊤ × (All IsBuiltEqual ys → ⊤) × Past never b
true_only tokens [] b w u h = (tt, refl, tt, (λ f. tt), u)
true_only tokens (y ∷ ys) b w u h = absurd (omega (arith, ap rank_of h.1))

equals_only : (ts : T) → begins (Key words.True) ts ≡ false → (ys : List Equal) (b : T) → All IsBuiltEqual ys →
    Past (pattern_goes ys) b → Heads ts (spell_of_pattern ys ++ b) →
    (x : List Equal) × (ys ≡ as_list x) × OneOrMore IsBuiltEqual x × (All IsBuiltEqual ys → OneOrMore IsBuiltEqual x)
    × Past goes_comma b
equals_only ts e [] b w u h = absurd (not_begun (Key words.True) ts b (own_key words.True) e h)
equals_only ts e (y ∷ ys) b w u h = ((y ∷ ys), refl, ((λ e. cc), w), (λ f. ((λ e. cc), f)), u)

as_pattern : (xs : List Equal) → OneOrMore IsBuiltEqual xs →
    spell_of_pattern (as_list xs) ≡ with_commas spell_of_equal xs
as_pattern [] w = absurd (w.0 refl)
as_pattern (x ∷ xs) w = refl

past_pattern : (xs : List Equal) (b : T) → OneOrMore IsBuiltEqual xs → Past goes_comma b →
    Past (pattern_goes (as_list xs)) b
past_pattern [] b w p = absurd (w.0 refl)
past_pattern (x ∷ xs) b w p = p

pattern_holds : (ts : T) → Named ts →
    Holds spell_of_pattern (All IsBuiltEqual) (All IsBuiltEqual) pattern_goes ts (pattern_at ts)
unfolding pattern_at
pattern_holds ts named =
    if_holds spell_of_pattern (All IsBuiltEqual) (All IsBuiltEqual) pattern_goes ts (begins (Key words.True) ts)
    (made_at no_equals (fixed_at (Key words.True)) ts) (made_at as_list equals_at ts)
    (λ e. form_holds {s = fixed_spelled (Key words.True)} {W = Always} {F = Always} {goes = never_goes} spell_of_pattern
    (All IsBuiltEqual) (All IsBuiltEqual) pattern_goes no_equals
    (λ x f. f) (λ x w. refl) (λ x f. All-nil IsBuiltEqual) (λ x w. All-nil IsBuiltEqual) (λ x b f p. p) ts
    (fixed_at (Key words.True) ts) (λ y f. f)
    (λ y b w u h. true_only (rest_of ts) y b w u
    (subst (λ l. Heads l (spell_of_pattern y ++ b)) (begun (Key words.True) ts e) h))
    ((fixed (Key words.True) (own_key words.True)).holds ts named))
    (λ e. form_holds {s = with_commas spell_of_equal} {W = OneOrMore IsBuiltEqual} {F = OneOrMore IsBuiltEqual}
    {goes = λ xs. goes_comma} spell_of_pattern (All IsBuiltEqual) (All IsBuiltEqual) pattern_goes as_list
    (λ x f. f) as_pattern (λ x f. f.1) (λ x w. w.1) past_pattern ts (equals_at ts) (λ y f. f) (equals_only ts e)
    (equals.holds ts named))

pub pattern : Reader spell_of_pattern (All IsBuiltEqual) (All IsBuiltEqual) pattern_goes pattern_at
pattern =
    record { once = pattern_once; fits = λ x f. f; least = []; small = All-nil IsBuiltEqual; holds = pattern_holds }

pub pattern_stops : (pattern : List Equal) → All IsBuiltEqual pattern →
    pattern_goes pattern (Signed signs.Semicolon) ≡ false
pattern_stops [] w = refl
pattern_stops (x ∷ xs) w = comma_semicolon

-- ends

abbrev end_parts : End → List ℕ × Option (List ℕ)
end_parts (AtHost host) = (host, None)
end_parts (AtPort box port) = (box, Some port)

abbrev end_spelled : List ℕ × Option (List ℕ) → T
end_spelled parts = word parts.0 ++ maybe_spelled names (Signed signs.Point) (own_sign signs.Point) parts.1

end_alike : (end : End) → spell_of_end end ≡ end_spelled (end_parts end)
end_alike (AtHost host) = refl
end_alike (AtPort box port) = refl

end_there : (parts : List ℕ × Option (List ℕ)) → end_parts (end_of parts) ≡ parts
end_there (host, None) = refl
end_there (box, Some port) = refl

end_again : (end : End) → end_of (end_parts end) ≡ end
end_again (AtHost host) = refl
end_again (AtPort box port) = refl

end_to : (end : End) →
    IsName (end_parts end).0 × IfThere names (Signed signs.Point) (own_sign signs.Point) IsName (end_parts end).1 →
    IsBuiltEnd end
end_to (AtHost host) p = p.0
end_to (AtPort box port) p = p

end_from : (end : End) → IsBuiltEnd end →
    IsName (end_parts end).0 × IfThere names (Signed signs.Point) (own_sign signs.Point) IsName (end_parts end).1
end_from (AtHost host) p = (p, tt)
end_from (AtPort box port) p = p

abbrev pub end_goes : End → Token → Bool
end_goes end = maybe_goes names (Signed signs.Point) (own_sign signs.Point) (end_parts end).1

pub end : Reader spell_of_end IsBuiltEnd IsBuiltEnd end_goes end_at
unfolding end_at
end = recast
    (shaped
    (chain names (maybe names (Signed signs.Point) (own_sign signs.Point))
    (λ x y a p q u. past_none (maybe_spelled names (Signed signs.Point) (own_sign signs.Point) y ++ a)))
    end_of end_parts (λ x w. end_there x) end_again spell_of_end end_alike) end_to end_from end_to end_from

point_dashes : is_same (Signed signs.Point) (Signed signs.Dashes) ≡ false
unfolding is_same same_sign
point_dashes = refl

point_semicolon : is_same (Signed signs.Point) (Signed signs.Semicolon) ≡ false
unfolding is_same same_sign
point_semicolon = refl

pub end_dashes : (end : End) → end_goes end (Signed signs.Dashes) ≡ false
end_dashes (AtHost host) = point_dashes
end_dashes (AtPort box port) = refl

pub end_semicolon : (end : End) → end_goes end (Signed signs.Semicolon) ≡ false
end_semicolon (AtHost host) = point_semicolon
end_semicolon (AtPort box port) = refl

-- lists that may be left out

abbrev pub parts_of : {A : Type 0} → List A → Option (List A)
parts_of [] = None
parts_of (x ∷ xs) = Some (x ∷ xs)

abbrev OneOrMoreIn : {A : Type 0} → (A → Type 0) → Option (List A) → Type 0
OneOrMoreIn P None = ⊤
OneOrMoreIn P (Some xs) = OneOrMore P xs

parts_there : {A : Type 0} (P : A → Type 0) (x : Option (List A)) → (OneOrMoreIn P x) → parts_of (list_of x) ≡ x
parts_there P None w = refl
parts_there P (Some []) w = absurd (w.0 refl)
parts_there P (Some (x ∷ xs)) w = refl

parts_again : {A : Type 0} (xs : List A) → list_of (parts_of xs) ≡ xs
parts_again [] = refl
parts_again (x ∷ xs) = refl

parts_to : {A : Type 0} (P : A → Type 0) (xs : List A) → OneOrMoreIn P (parts_of xs) → All P xs
parts_to P [] w = All-nil P
parts_to P (x ∷ xs) w = w.1

parts_from : {A : Type 0} (P : A → Type 0) (xs : List A) → All P xs → OneOrMoreIn P (parts_of xs)
parts_from P [] w = tt
parts_from P (x ∷ xs) w = ((λ e. cc), w)

abbrev with_spelled : Option (List Atom) → T
with_spelled = maybe_spelled atoms (Key words.With) (own_key words.With)

first_alike : (xs : List Atom) → spell_of_first xs ≡ with_spelled (parts_of xs)
first_alike [] = refl
first_alike (x ∷ xs) = refl

abbrev pub first_goes : List Atom → Token → Bool
first_goes xs = maybe_goes atoms (Key words.With) (own_key words.With) (parts_of xs)

pub first : Reader spell_of_first (All IsBuiltAtom) (All IsBuiltAtom) first_goes first_at
unfolding first_at
first = recast
    (shaped (maybe atoms (Key words.With) (own_key words.With)) list_of parts_of
    (parts_there IsBuiltAtom) parts_again spell_of_first first_alike)
    (parts_to IsBuiltAtom) (parts_from IsBuiltAtom) (parts_to IsBuiltAtom) (parts_from IsBuiltAtom)

with_semicolon : is_same (Key words.With) (Signed signs.Semicolon) ≡ false
unfolding is_same
with_semicolon = refl

pub first_stops : (xs : List Atom) → first_goes xs (Signed signs.Semicolon) ≡ false
first_stops [] = with_semicolon
first_stops (x ∷ xs) = comma_semicolon

pub brackets : Reader (λ xs. with_commas spell_of_change xs ++ Signed signs.CloseBracket ∷ []) (OneOrMore IsBuiltEqual)
    (OneOrMore IsBuiltEqual) never_goes (before_at some_changes_at (Signed signs.CloseBracket))
brackets = before some_changes (Signed signs.CloseBracket) (own_sign signs.CloseBracket) (λ xs w. comma_close_bracket)

changes_alike : (xs : List Equal) →
    spell_of_changes xs ≡ maybe_spelled brackets (Signed signs.OpenBracket) (own_sign signs.OpenBracket) (parts_of xs)
changes_alike [] = refl
changes_alike (x ∷ xs) = refl

abbrev pub changes_goes : List Equal → Token → Bool
changes_goes xs = maybe_goes brackets (Signed signs.OpenBracket) (own_sign signs.OpenBracket) (parts_of xs)

pub changes : Reader spell_of_changes (All IsBuiltEqual) (All IsBuiltEqual) changes_goes changes_at
unfolding changes_at
changes =
    recast
    (shaped (maybe brackets (Signed signs.OpenBracket) (own_sign signs.OpenBracket)) list_of parts_of
    (parts_there IsBuiltEqual) parts_again spell_of_changes changes_alike)
    (parts_to IsBuiltEqual) (parts_from IsBuiltEqual) (parts_to IsBuiltEqual) (parts_from IsBuiltEqual)

bracket_semicolon : is_same (Signed signs.OpenBracket) (Signed signs.Semicolon) ≡ false
unfolding is_same same_sign
bracket_semicolon = refl

pub changes_stop : (xs : List Equal) → changes_goes xs (Signed signs.Semicolon) ≡ false
changes_stop [] = bracket_semicolon
changes_stop (x ∷ xs) = refl
