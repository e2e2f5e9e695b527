-- Literals and guards are read right, at each number of levels.
use Rattle.std.proofs.Common.{◌≡◌, ℕ, zero, suc, Bool, true, false, List, [], ◌∷◌, ◌++◌, refl, sym, ap, ◌∙◌, subst}
use Rattle.std.proofs.Common.{arith}
use Rattle.std.specs.Prelude.{⊤}
use Rattle.std.proofs.lemmas.List.Elements.{All-nil, All-cons}
use Rattle.amdl_tree.specs.Word.{IsName}
use Rattle.amdl_tree.specs.WellBuilt.{OneOrMore, IsBuiltAtom, LitLayer, LitFits, GuardFits, IsBuiltLit, IsBuiltGuard}
use Rattle.amdl_tree.specs.Spelling.{word, spell_of_atom, lit_spelled, spell_of_lit, spell_of_guard}
use Rattle.amdl_tree.specs.GoesOn.{Past, never, goes_list}
use Rattle.amdl_tree.specs.declared.token.Token.{Token}
use Rattle.amdl_tree.specs.declared.token.Token.TheVariants.{Word, Key, Sign as Signed}
use Rattle.amdl_tree.specs.declared.token.Sign.TheVariants as signs
use Rattle.amdl_tree.specs.declared.reserved.Reserved.TheVariants as words
use Rattle.amdl_tree.specs.declared.guard.Atom.{Atom}
use Rattle.amdl_tree.specs.declared.guard.Guard.{Guard}
use Rattle.amdl_tree.specs.declared.guard.Lit.{Lit}
use Rattle.amdl_tree.specs.declared.guard.Lit.TheOpen.{Lit-F}
use Rattle.amdl_tree.specs.declared.guard.Lit.TheViews.{out-Lit, roll-Lit, roll-out-Lit, outs-True, outs-Has, outs-Same}
use Rattle.amdl_tree.specs.declared.guard.Lit.TheViews.{outs-Differ, outs-Not, outs-Group, rolls-True, rolls-Has}
use Rattle.amdl_tree.specs.declared.guard.Lit.TheViews.{rolls-Same, rolls-Differ, rolls-Not, rolls-Group}
use Rattle.amdl_tree.specs.declared.guard.Lit.TheVariants as lits
use Rattle.amdl_tree.proofs.SpellingLemmas.{lit_spelling, guard_spelling}
use Rattle.amdl_tree.proofs.SpellingOnce.{rank_of}
use Rattle.amdl_tree.proofs.BuiltLemmas.{built_lit_once, lit-built, lit-open, guard-built, guard-open}
use Rattle.amdl_parser.specs.Reading.{Answer, is_same, same_key, begins, rest_of, refused, too_deep, word_at, fixed_at}
use Rattle.amdl_parser.specs.Reading.{then_at, made_at, after_at, before_at}
use Rattle.amdl_parser.specs.Grammar.{true_of, has_of, not_of, group_of, Comparison, same_as, differs_from}
use Rattle.amdl_parser.specs.Grammar.{comparison_at, compared_of, guard_of, atom_at, guard_by, lit_by, lit_at}
use Rattle.amdl_parser.proofs.Holds.{Heads, Holds, Reader, Named, past_none, refused_holds, deep_holds, form_holds}
use Rattle.amdl_parser.proofs.Readers.{never_goes, fixed, names, chain, shaped, recast, after, before, listing, variant}
use Rattle.amdl_parser.proofs.Readers.{if_holds, begun, not_begun}
use Rattle.amdl_parser.proofs.Parts.{own_sign, own_key, atom}

abbrev T : Type 0
T = List Token

-- a comparison behind its first name

abbrev spell_of_comparison : Comparison → T
spell_of_comparison (true, name) = Signed signs.Equals ∷ word name
spell_of_comparison (false, name) = Signed signs.Differs ∷ word name

abbrev IsComparison : Comparison → Type 0
IsComparison comparison = IsName comparison.1

comparison_split : (x y : Comparison) (a b : T) → IsComparison x → IsComparison y → Past never a → Past never b →
    spell_of_comparison x ++ a ≡ spell_of_comparison y ++ b → (x ≡ y) × (a ≡ b)
comparison_split (true, n) (true, m) a b p q u v e = (cc, cc)
comparison_split (true, n) (false, m) a b p q u v e = cc
comparison_split (false, n) (true, m) a b p q u v e = cc
comparison_split (false, n) (false, m) a b p q u v e = (cc, cc)

same_only : (tokens : T) (y : Comparison) (b : T) → IsComparison y →
    Heads (Signed signs.Equals ∷ tokens) (spell_of_comparison y ++ b) →
    (x : List ℕ) × (y ≡ same_as x) × IsName x × (IsComparison y → IsName x)
same_only tokens (true, n) b w h = (n, refl, w, (λ f. f))
same_only tokens (false, n) b w h = cc

differs_only : (tokens : T) (y : Comparison) (b : T) → IsComparison y →
    Heads (Signed signs.Differs ∷ tokens) (spell_of_comparison y ++ b) →
    (x : List ℕ) × (y ≡ differs_from x) × IsName x × (IsComparison y → IsName x)
differs_only tokens (true, n) b w h = cc
differs_only tokens (false, n) b w h = (n, refl, w, (λ f. f))

no_comparison : (ts : T) → begins (Signed signs.Equals) ts ≡ false → begins (Signed signs.Differs) ts ≡ false →
    (y : Comparison) (b : T) → IsComparison y → Past never b → Heads ts (spell_of_comparison y ++ b) → ⊥
no_comparison ts e f (true, n) b w u h = not_begun (Signed signs.Equals) ts (Word n ∷ b) (own_sign signs.Equals) e h
no_comparison ts e f (false, n) b w u h = not_begun (Signed signs.Differs) ts (Word n ∷ b) (own_sign signs.Differs) f h

comparison_holds : (ts : T) → Named ts →
    Holds spell_of_comparison IsComparison IsComparison never_goes ts (comparison_at ts)
unfolding comparison_at
comparison_holds ts named =
    if_holds spell_of_comparison IsComparison IsComparison never_goes ts (begins (Signed signs.Equals) ts)
    (made_at same_as (after_at (Signed signs.Equals) word_at) ts) _
    (λ e. variant
    (after names (Signed signs.Equals)
    (own_sign signs.Equals)) spell_of_comparison IsComparison IsComparison same_as (λ y f. f) (λ x. refl) (λ x f. f)
    (λ x f. f) (Signed signs.Equals) same_only ts named e)
    (λ e. if_holds spell_of_comparison IsComparison IsComparison never_goes ts (begins (Signed signs.Differs) ts)
    (made_at differs_from (after_at (Signed signs.Differs) word_at) ts) (refused ts)
    (λ f. variant
    (after names (Signed signs.Differs)
    (own_sign signs.Differs)) spell_of_comparison IsComparison IsComparison differs_from (λ y f. f) (λ x. refl)
    (λ x f. f) (λ x f. f) (Signed signs.Differs) differs_only ts named f)
    (λ f. refused_holds ts (true, names.least) names.small (no_comparison ts e f)))

comparison : Reader spell_of_comparison IsComparison IsComparison never_goes comparison_at
comparison =
    record {
      once = record { once = comparison_split };
      fits = λ x f. f;
      least =
          (true, names.least);
      small = names.small;
      holds = comparison_holds;
    }

-- one layer of a literal

spell_true : spell_of_lit lits.True ≡ Key words.True ∷ []
spell_true = lit_spelling lits.True ∙ ap (lit_spelled spell_of_lit spell_of_guard) outs-True

spell_has : (atom : Atom) → spell_of_lit (lits.Has atom) ≡ Key words.Has ∷ spell_of_atom atom
spell_has atom = lit_spelling (lits.Has atom) ∙ ap (lit_spelled spell_of_lit spell_of_guard) (outs-Has atom)

spell_not : (lit : Lit) → spell_of_lit (lits.Not lit) ≡ Key words.Not ∷ spell_of_lit lit
spell_not lit = lit_spelling (lits.Not lit) ∙ ap (lit_spelled spell_of_lit spell_of_guard) (outs-Not lit)

spell_group : (guard : Guard) →
    spell_of_lit (lits.Group guard) ≡ Signed signs.OpenParen ∷ spell_of_guard guard ++ Signed signs.CloseParen ∷ []
spell_group guard = lit_spelling (lits.Group guard) ∙ ap (lit_spelled spell_of_lit spell_of_guard) (outs-Group guard)

spell_compared : (x : List ℕ × Comparison) → spell_of_lit (compared_of x) ≡ word x.0 ++ spell_of_comparison x.1
spell_compared (one, (true, two)) =
    lit_spelling (lits.Same one two) ∙ ap (lit_spelled spell_of_lit spell_of_guard) (outs-Same one two)
spell_compared (one, (false, two)) =
    lit_spelling (lits.Differ one two) ∙ ap (lit_spelled spell_of_lit spell_of_guard) (outs-Differ one two)

-- what a literal that begins with a token is

-- one form of literals, where the literals of a level ask P of the literal behind a `not` and Q of the guard of a group
abbrev LitOf : (Lit → Type 0) → (Guard → Type 0) → Lit → Type 0
LitOf P Q lit = LitLayer P Q (out-Lit lit)

abbrev BuiltLayer : Lit-F Lit Guard → Type 0
BuiltLayer = LitLayer IsBuiltLit IsBuiltGuard

abbrev spell_of_layer : Lit-F Lit Guard → T
spell_of_layer = lit_spelled spell_of_lit spell_of_guard

module _ {X : Type 0} {s : X → T} {W F : X → Type 0} {r : T → Answer X} (part : Reader s W F never_goes r)
    (P : Lit → Type 0) (Q : Guard → Type 0) (weaker : (lit : Lit) → LitOf P Q lit → IsBuiltLit lit)
    (inside : X → Lit-F Lit Guard) (made : X → Lit) (rolls : (x : X) → roll-Lit (inside x) ≡ made x)
    (outs : (x : X) → out-Lit (made x) ≡ inside x)
    (same : (x : X) → spell_of_layer (inside x) ≡ s x) (fit : (x : X) → F x → LitLayer P Q (inside x))
    (built : (x : X) → W x → BuiltLayer (inside x)) where
  lit_form : (ts : T) → Named ts →
      ((l : Lit-F Lit Guard) (b : T) → BuiltLayer l → Heads ts (spell_of_layer l ++ b) →
      (x : X) × (l ≡ inside x) × W x × (LitLayer P Q l → F x)) →
      Holds spell_of_lit IsBuiltLit (LitOf P Q) never_goes ts (made_at made r ts)
  lit_form ts named only = form_holds {goes = never_goes} spell_of_lit IsBuiltLit (LitOf P Q) never_goes made part.fits
      (λ x w. lit_spelling (made x) ∙ ap spell_of_layer (outs x) ∙ same x)
      (λ x f. subst (LitLayer P Q) (sym (outs x)) (fit x f))
      (λ x w. lit-built (made x) (subst BuiltLayer (sym (outs x)) (built x w)))
      (λ x b f p. p) ts (r ts) weaker
      (λ y b w u h.
      let o = only (out-Lit y) b (lit-open y w) (subst (λ l. Heads ts (l ++ b)) (lit_spelling y) h) in
      (o.0, sym (roll-out-Lit y) ∙ ap roll-Lit o.1 ∙ rolls o.0, o.2, o.3, u))
      (part.holds ts named)

true_layer : (tokens : T) (P : Lit → Type 0) (Q : Guard → Type 0) (l : Lit-F Lit Guard) (b : T) → BuiltLayer l →
    Heads (Key words.True ∷ tokens) (spell_of_layer l ++ b) → (x : ⊤) × (l ≡ Lit-F.True) × ⊤ × (LitLayer P Q l → ⊤)
true_layer tokens P Q Lit-F.True b w h = (tt, refl, tt, (λ f. tt))
true_layer tokens P Q l b w h = absurd (omega (arith, ap rank_of h.1))

has_layer : (tokens : T) (P : Lit → Type 0) (Q : Guard → Type 0) (l : Lit-F Lit Guard) (b : T) → BuiltLayer l →
    Heads (Key words.Has ∷ tokens) (spell_of_layer l ++ b) →
    (x : Atom) × (l ≡ Lit-F.Has x) × IsBuiltAtom x × (LitLayer P Q l → IsBuiltAtom x)
has_layer tokens P Q (Lit-F.Has atom) b w h = (atom, refl, w, (λ f. f))
has_layer tokens P Q l b w h = absurd (omega (arith, ap rank_of h.1))

not_layer : (tokens : T) (P : Lit → Type 0) (Q : Guard → Type 0) (l : Lit-F Lit Guard) (b : T) → BuiltLayer l →
    Heads (Key words.Not ∷ tokens) (spell_of_layer l ++ b) →
    (x : Lit) × (l ≡ Lit-F.Not x) × IsBuiltLit x × (LitLayer P Q l → P x)
not_layer tokens P Q (Lit-F.Not lit) b w h = (lit, refl, w, (λ f. f))
not_layer tokens P Q l b w h = absurd (omega (arith, ap rank_of h.1))

group_layer : (tokens : T) (P : Lit → Type 0) (Q : Guard → Type 0) (l : Lit-F Lit Guard) (b : T) → BuiltLayer l →
    Heads (Signed signs.OpenParen ∷ tokens) (spell_of_layer l ++ b) →
    (x : Guard) × (l ≡ Lit-F.Group x) × IsBuiltGuard x × (LitLayer P Q l → Q x)
group_layer tokens P Q (Lit-F.Group guard) b w h = (guard, refl, w, (λ f. f))
group_layer tokens P Q l b w h = absurd (omega (arith, ap rank_of h.1))

abbrev compared_layer_of : List ℕ × Comparison → Lit-F Lit Guard
compared_layer_of (one, (true, two)) = Lit-F.Same one two
compared_layer_of (one, (false, two)) = Lit-F.Differ one two

-- a literal that begins with none of the four first tokens is a comparison
compared_layer : (ts : T) (P : Lit → Type 0) (Q : Guard → Type 0) → begins (Key words.True) ts ≡ false →
    begins (Key words.Has) ts ≡ false → begins (Key words.Not) ts ≡ false → begins (Signed signs.OpenParen) ts ≡ false →
    (l : Lit-F Lit Guard) (b : T) → BuiltLayer l → Heads ts (spell_of_layer l ++ b) →
    (x : List ℕ × Comparison) × (l ≡ compared_layer_of x) × (IsName x.0 × IsComparison x.1)
    × (LitLayer P Q l → IsName x.0 × IsComparison x.1)
compared_layer ts P Q d e f g Lit-F.True b w h = absurd (not_begun (Key words.True) ts b (own_key words.True) d h)
compared_layer ts P Q d e f g (Lit-F.Has atom) b w h =
    absurd (not_begun (Key words.Has) ts (spell_of_atom atom ++ b) (own_key words.Has) e h)
compared_layer ts P Q d e f g (Lit-F.Not lit) b w h =
    absurd (not_begun (Key words.Not) ts (spell_of_lit lit ++ b) (own_key words.Not) f h)
compared_layer ts P Q d e f g (Lit-F.Group guard) b w h =
    absurd
    (not_begun (Signed signs.OpenParen) ts ((spell_of_guard guard ++ Signed signs.CloseParen ∷ []) ++ b)
    (own_sign signs.OpenParen) g h)
compared_layer ts P Q d e f g (Lit-F.Same one two) b w h = ((one, (true, two)), refl, w, (λ f. f))
compared_layer ts P Q d e f g (Lit-F.Differ one two) b w h = ((one, (false, two)), refl, w, (λ f. f))

compared_rolls : (x : List ℕ × Comparison) → roll-Lit (compared_layer_of x) ≡ compared_of x
compared_rolls (one, (true, two)) = rolls-Same one two
compared_rolls (one, (false, two)) = rolls-Differ one two

compared_outs : (x : List ℕ × Comparison) → out-Lit (compared_of x) ≡ compared_layer_of x
compared_outs (one, (true, two)) = outs-Same one two
compared_outs (one, (false, two)) = outs-Differ one two

compared_same : (x : List ℕ × Comparison) → spell_of_layer (compared_layer_of x) ≡ word x.0 ++ spell_of_comparison x.1
compared_same (one, (true, two)) = refl
compared_same (one, (false, two)) = refl

compared_fit : (P : Lit → Type 0) (Q : Guard → Type 0) (x : List ℕ × Comparison) → IsName x.0 × IsComparison x.1 →
    LitLayer P Q (compared_layer_of x)
compared_fit P Q (one, (true, two)) f = f
compared_fit P Q (one, (false, two)) f = f

-- a literal, where the literal behind a `not` and the guard of a group are read right
module _ (P : Lit → Type 0) (Q : Guard → Type 0) (weaker : (lit : Lit) → LitOf P Q lit → IsBuiltLit lit)
    (denied grouped : T → Answer Lit) where
  abbrev Right : T → Answer Lit → Type 0
  Right ts a = Holds spell_of_lit IsBuiltLit (LitOf P Q) never_goes ts a

  true_holds : (ts : T) → Named ts → begins (Key words.True) ts ≡ true →
      Right ts (made_at true_of (fixed_at (Key words.True)) ts)
  true_holds ts named e =
      lit_form (fixed (Key words.True) (own_key words.True)) P Q weaker (λ u. Lit-F.True) true_of (λ u. rolls-True)
      (λ u. outs-True) (λ u. refl) (λ u f. tt) (λ u w. tt) ts named
      (λ l b w h. true_layer (rest_of ts) P Q l b w
      (subst (λ k. Heads k (spell_of_layer l ++ b)) (begun (Key words.True) ts e) h))

  has_holds : (ts : T) → Named ts → begins (Key words.Has) ts ≡ true →
      Right ts (made_at has_of (after_at (Key words.Has) atom_at) ts)
  has_holds ts named e =
      lit_form (after atom (Key words.Has) (own_key words.Has)) P Q weaker Lit-F.Has has_of rolls-Has outs-Has
      (λ x. refl) (λ x f. f) (λ x w. w) ts named
      (λ l b w h. has_layer (rest_of ts) P Q l b w
      (subst (λ k. Heads k (spell_of_layer l ++ b)) (begun (Key words.Has) ts e) h))

  compared_holds : (ts : T) → Named ts → begins (Key words.True) ts ≡ false → begins (Key words.Has) ts ≡ false →
      begins (Key words.Not) ts ≡ false → begins (Signed signs.OpenParen) ts ≡ false →
      Right ts (made_at compared_of (then_at word_at comparison_at) ts)
  compared_holds ts named d e f g =
      lit_form
      (chain names comparison
      (λ x y a p q u. past_none _)) P Q weaker compared_layer_of compared_of compared_rolls compared_outs compared_same
      (compared_fit P Q) (compared_fit IsBuiltLit IsBuiltGuard) ts named
      (compared_layer ts P Q d e f g)

  lit_by_holds : ((ts : T) → Named ts → begins (Key words.Not) ts ≡ true → Right ts (denied ts)) →
      ((ts : T) → Named ts → begins (Signed signs.OpenParen) ts ≡ true → Right ts (grouped ts)) → (ts : T) → Named ts →
      Right ts (lit_by denied grouped ts)
  lit_by_holds not_right group_right ts named =
      if_holds spell_of_lit IsBuiltLit (LitOf P Q) never_goes ts (begins (Key words.True) ts) _ _ (true_holds ts named)
      (λ d.
      if_holds spell_of_lit IsBuiltLit (LitOf P Q) never_goes ts (begins (Key words.Has) ts) _ _ (has_holds ts named)
      (λ e.
      if_holds spell_of_lit IsBuiltLit (LitOf P Q) never_goes ts (begins (Key words.Not) ts) _ _ (not_right ts named)
      (λ f.
      if_holds spell_of_lit IsBuiltLit (LitOf P Q) never_goes ts (begins (Signed signs.OpenParen) ts) _ _
      (group_right ts named) (λ g.
      compared_holds ts named d e f g))))

-- literals and guards at n levels

abbrev NoLit : Lit → Type 0
NoLit lit = ⊥

abbrev NoGuard : Guard → Type 0
NoGuard guard = ⊥

true_built : IsBuiltLit lits.True
true_built = lit-built lits.True (subst BuiltLayer (sym outs-True) tt)

not_true_built : IsBuiltLit (lits.Not lits.True)
not_true_built = lit-built (lits.Not lits.True) (subst BuiltLayer (sym (outs-Not lits.True)) true_built)

abbrev pub guard_of_true : Guard
guard_of_true = record { any = (lits.True ∷ []) ∷ [] }

pub guard_of_true_built : IsBuiltGuard guard_of_true
guard_of_true_built =
    guard-built guard_of_true (
      (λ e. cc),
      All-cons (OneOrMore IsBuiltLit) (lits.True ∷ []) []
          ((λ e. cc), All-cons IsBuiltLit lits.True [] true_built (All-nil IsBuiltLit))
          (All-nil (OneOrMore IsBuiltLit)),
    )

group_true_built : IsBuiltLit (lits.Group guard_of_true)
group_true_built =
    lit-built (lits.Group guard_of_true) (subst BuiltLayer (sym (outs-Group guard_of_true)) guard_of_true_built)

module _ (weaker : (lit : Lit) → LitOf NoLit NoGuard lit → IsBuiltLit lit) where
  not_too_deep : (ts : T) → Named ts → begins (Key words.Not) ts ≡ true →
      Holds spell_of_lit IsBuiltLit (LitOf NoLit NoGuard) never_goes ts (too_deep ts)
  not_too_deep ts named e =
      subst (λ l. Holds spell_of_lit IsBuiltLit (LitOf NoLit NoGuard) never_goes l (too_deep l))
      (sym (begun (Key words.Not) ts e))
      (deep_holds (Key words.Not) (rest_of ts) lits.True (subst (LitLayer NoLit NoGuard) (sym outs-True) tt)
      (λ x b f u h.
      (not_layer (rest_of ts) NoLit NoGuard (out-Lit x) b (lit-open x (weaker x f))
      (subst (λ l. Heads (Key words.Not ∷ rest_of ts) (l ++ b)) (lit_spelling x) h)).3 f)
      (lits.Not lits.True) (spell_of_lit lits.True) not_true_built (spell_not lits.True))

  group_too_deep : (ts : T) → Named ts → begins (Signed signs.OpenParen) ts ≡ true →
      Holds spell_of_lit IsBuiltLit (LitOf NoLit NoGuard) never_goes ts (too_deep ts)
  group_too_deep ts named e =
      subst (λ l. Holds spell_of_lit IsBuiltLit (LitOf NoLit NoGuard) never_goes l (too_deep l))
      (sym (begun (Signed signs.OpenParen) ts e))
      (deep_holds (Signed signs.OpenParen) (rest_of ts) lits.True (subst (LitLayer NoLit NoGuard) (sym outs-True) tt)
      (λ x b f u h.
      (group_layer (rest_of ts) NoLit NoGuard (out-Lit x) b (lit-open x (weaker x f))
      (subst (λ l. Heads (Signed signs.OpenParen ∷ rest_of ts) (l ++ b)) (lit_spelling x) h)).3 f)
      (lits.Group guard_of_true) (spell_of_guard guard_of_true ++ Signed signs.CloseParen ∷ []) group_true_built
      (spell_group guard_of_true))

abbrev pub goes_and : Token → Bool
goes_and = goes_list (is_same (Key words.And)) never

abbrev pub goes_or : Token → Bool
goes_or = goes_list (is_same (Key words.Or)) goes_and

and_not_or : goes_and (Key words.Or) ≡ false
unfolding is_same same_key
and_not_or = refl

or_not_close : goes_or (Signed signs.CloseParen) ≡ false
unfolding is_same
or_not_close = refl

pub or_not_arrow : goes_or (Signed signs.Arrow) ≡ false
unfolding is_same
or_not_arrow = refl

guard_reader_by : (n : ℕ) (r : T → Answer Lit) → Reader spell_of_lit IsBuiltLit (LitFits n) never_goes r →
    Reader spell_of_guard IsBuiltGuard (GuardFits n) (λ guard. goes_or) (guard_by r)
guard_reader_by n r literal = recast (shaped
    (listing (listing literal (Key words.And) (own_key words.And) refl) (Key words.Or) (own_key words.Or) and_not_or)
    guard_of (λ (guard : Guard). guard.any) (λ x w. refl) (λ y. refl) spell_of_guard guard_spelling)
    guard-built guard-open (λ x f. f) (λ x f. f)

lit_holds_by : (n : ℕ) (r : T → Answer Lit) → Reader spell_of_lit IsBuiltLit (LitFits n) never_goes r →
    (weaker : (lit : Lit) → LitOf (LitFits n) (GuardFits n) lit → IsBuiltLit lit) → (ts : T) → Named ts →
    Holds spell_of_lit IsBuiltLit (LitOf (LitFits n) (GuardFits n)) never_goes ts
    (lit_by (made_at not_of (after_at (Key words.Not) r))
    (made_at group_of (after_at (Signed signs.OpenParen) (before_at (guard_by r) (Signed signs.CloseParen)))) ts)
lit_holds_by n r literal weaker =
    lit_by_holds (LitFits n) (GuardFits n) weaker (made_at not_of (after_at (Key words.Not) r))
    (made_at group_of (after_at (Signed signs.OpenParen) (before_at (guard_by r) (Signed signs.CloseParen))))
    (λ ts named e. lit_form (after literal (Key words.Not) (own_key words.Not)) (LitFits n)
    (GuardFits n) weaker Lit-F.Not not_of rolls-Not outs-Not (λ x. refl) (λ x f. f) (λ x w. w) ts named
    (λ l b w h. not_layer (rest_of ts) (LitFits n) (GuardFits n) l b w
    (subst (λ k. Heads k (spell_of_layer l ++ b)) (begun (Key words.Not) ts e) h)))
    (λ ts named e. lit_form
    (after
    (before (guard_reader_by n r literal) (Signed signs.CloseParen) (own_sign signs.CloseParen)
    (λ x w. or_not_close)) (Signed signs.OpenParen) (own_sign signs.OpenParen)) (LitFits n)
    (GuardFits n) weaker Lit-F.Group group_of rolls-Group outs-Group (λ x. refl) (λ x f. f) (λ x w. w) ts named
    (λ l b w h. group_layer (rest_of ts) (LitFits n) (GuardFits n) l b w
    (subst (λ k. Heads k (spell_of_layer l ++ b)) (begun (Signed signs.OpenParen) ts e) h)))

pub literal : (n : ℕ) → Reader spell_of_lit IsBuiltLit (LitFits n) never_goes (lit_at n)
unfolding LitFits lit_at
literal zero = record {
  once = built_lit_once;
  fits = λ x f. (0, f);
  least = lits.True;
  small = subst (LitLayer NoLit NoGuard) (sym outs-True) tt;
  holds = lit_by_holds NoLit NoGuard (λ x f. (0, f)) too_deep too_deep (not_too_deep (λ x f. (0, f)))
      (group_too_deep (λ x f. (0, f)));
}
literal (suc n) = record {
  once = built_lit_once;
  fits = λ x f. (suc n, f);
  least = lits.True;
  small = subst (LitLayer (LitFits n) (GuardFits n)) (sym outs-True) tt;
  holds = lit_holds_by n (lit_at n) (literal n) (λ x f. (suc n, f));
}

pub guard : (n : ℕ) → Reader spell_of_guard IsBuiltGuard (GuardFits n) (λ guard. goes_or) (guard_by (lit_at n))
guard n = guard_reader_by n (lit_at n) (literal n)
