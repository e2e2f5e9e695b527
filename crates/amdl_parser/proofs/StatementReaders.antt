-- Statements and blocks are read right, at each number of levels.
use Rattle.std.proofs.Common.{◌≡◌, ℕ, zero, suc, true, false, List, [], ◌∷◌, ◌++◌, refl, sym, ap, ◌∙◌, subst, arith}
use Rattle.std.specs.Prelude.{⊤}
use Rattle.std.specs.List.{All}
use Rattle.std.proofs.lemmas.List.Elements.{All-nil, All-cons}
use Rattle.amdl_tree.specs.Word.{IsName}
use Rattle.amdl_tree.specs.WellBuilt.{OneOrMore, IsBuiltAtom, IsBuiltEqual, StmtLayer, StmtFits, AlternativeFits}
use Rattle.amdl_tree.specs.WellBuilt.{IsBuiltStmt, IsBuiltAlternative}
use Rattle.amdl_tree.specs.Spelling.{word, listed, spell_of_atom, stmt_spelled, block_spelled, spell_of_statement}
use Rattle.amdl_tree.specs.Spelling.{spell_of_alternative}
use Rattle.amdl_tree.specs.GoesOn.{never, goes_list, starts_statement}
use Rattle.amdl_tree.specs.declared.token.Token.{Token}
use Rattle.amdl_tree.specs.declared.token.Token.TheVariants.{Key, Sign as Signed}
use Rattle.amdl_tree.specs.declared.token.Sign.TheVariants as signs
use Rattle.amdl_tree.specs.declared.reserved.Reserved.{Reserved}
use Rattle.amdl_tree.specs.declared.reserved.Reserved.TheVariants as words
use Rattle.amdl_tree.specs.declared.guard.Atom.{Atom}
use Rattle.amdl_tree.specs.declared.tree.Equal.{Equal}
use Rattle.amdl_tree.specs.declared.statement.Alternative.{Alternative}
use Rattle.amdl_tree.specs.declared.statement.Stmt.{Stmt}
use Rattle.amdl_tree.specs.declared.statement.Stmt.TheOpen.{Stmt-F}
use Rattle.amdl_tree.specs.declared.statement.Stmt.TheViews.{out-Stmt, roll-Stmt, roll-out-Stmt, outs-Insert}
use Rattle.amdl_tree.specs.declared.statement.Stmt.TheViews.{outs-Remove, outs-Abort, outs-Output, outs-Choose}
use Rattle.amdl_tree.specs.declared.statement.Stmt.TheViews.{outs-Pick, rolls-Insert, rolls-Remove, rolls-Abort}
use Rattle.amdl_tree.specs.declared.statement.Stmt.TheViews.{rolls-Output, rolls-Choose, rolls-Pick}
use Rattle.amdl_tree.specs.declared.statement.Stmt.TheVariants as stmts
use Rattle.amdl_tree.proofs.SpellingLemmas.{statement_spelling, alternative_spelling}
use Rattle.amdl_tree.proofs.SpellingOnce.{rank_of, stmt_begins}
use Rattle.amdl_tree.proofs.BuiltLemmas.{built_stmt_once, stmt-built, stmt-open, alternative-built, alternative-open}
use Rattle.amdl_parser.specs.Reading.{Answer, is_same, begins, rest_of, too_deep, made_at}
use Rattle.amdl_parser.specs.Grammar.{insert_of, remove_of, abort_of, output_of, choose_of, pick_of, alternative_of}
use Rattle.amdl_parser.specs.Grammar.{update_at, abort_at, output_at, lit_at, guard_by, guard_at, any_at, conj_at}
use Rattle.amdl_parser.specs.Grammar.{block_by, branch_by, choose_by, pick_by, stmt_by, stmt_at}
use Rattle.amdl_parser.proofs.Holds.{Heads, Holds, Reader, Named, past_none, refused_holds, deep_holds, form_holds}
use Rattle.amdl_parser.proofs.Readers.{never_goes, fixed, names, chain, shaped, recast, after, before, listing, many}
use Rattle.amdl_parser.proofs.Readers.{if_holds, begun, not_begun}
use Rattle.amdl_parser.proofs.Parts.{own_sign, own_key, atom, changes, changes_stop}
use Rattle.amdl_parser.proofs.GuardReaders.{guard, or_not_arrow, guard_of_true, guard_of_true_built}

abbrev T : Type 0
T = List Token

abbrev Layer : Type 0
Layer = Stmt-F Stmt Alternative

abbrev BuiltLayer : Layer → Type 0
BuiltLayer = StmtLayer (OneOrMore IsBuiltAlternative) (All IsBuiltStmt)

abbrev spell_of_layer : Layer → T
spell_of_layer = stmt_spelled spell_of_statement spell_of_alternative

-- where the statements of a level ask P of the alternatives of an `if` and Q of the block of a `pick`
abbrev StmtOf : (List Alternative → Type 0) → (List Stmt → Type 0) → Stmt → Type 0
StmtOf P Q stmt = StmtLayer P Q (out-Stmt stmt)

module _ {X : Type 0} {s : X → T} {W F : X → Type 0} {r : T → Answer X} (part : Reader s W F never_goes r)
    (P : List Alternative → Type 0) (Q : List Stmt → Type 0)
    (weaker : (stmt : Stmt) → StmtOf P Q stmt → IsBuiltStmt stmt)
    (inside : X → Layer) (made : X → Stmt) (rolls : (x : X) → roll-Stmt (inside x) ≡ made x)
    (outs : (x : X) → out-Stmt (made x) ≡ inside x)
    (same : (x : X) → spell_of_layer (inside x) ≡ s x) (fit : (x : X) → F x → StmtLayer P Q (inside x))
    (built : (x : X) → W x → BuiltLayer (inside x))
    (token : Token)
    (only : (tokens : T) (l : Layer) (b : T) → BuiltLayer l → Heads (token ∷ tokens) (spell_of_layer l ++ b) →
    (x : X) × (l ≡ inside x) × W x × (StmtLayer P Q l → F x)) where
  stmt_form : (ts : T) → Named ts → begins token ts ≡ true →
      Holds spell_of_statement IsBuiltStmt (StmtOf P Q) never_goes ts (made_at made r ts)
  stmt_form ts named e =
      form_holds {goes = never_goes} spell_of_statement IsBuiltStmt (StmtOf P Q) never_goes made part.fits
      (λ x w. statement_spelling (made x) ∙ ap spell_of_layer (outs x) ∙ same x)
      (λ x f. subst (StmtLayer P Q) (sym (outs x)) (fit x f))
      (λ x w. stmt-built (made x) (subst BuiltLayer (sym (outs x)) (built x w)))
      (λ x b f p. p) ts (r ts) weaker
      (λ y b w u h.
      let o = only (rest_of ts) (out-Stmt y) b (stmt-open y w)
      (subst (λ k. Heads k (spell_of_layer (out-Stmt y) ++ b)) (begun token ts e)
      (subst (λ l. Heads ts (l ++ b)) (statement_spelling y) h)) in
      (o.0, sym (roll-out-Stmt y) ∙ ap roll-Stmt o.1 ∙ rolls o.0, o.2, o.3, u))
      (part.holds ts named)

module _ (P : List Alternative → Type 0) (Q : List Stmt → Type 0) (tokens : T) where
  insert_layer : (l : Layer) (b : T) → BuiltLayer l → Heads (Key words.Insert ∷ tokens) (spell_of_layer l ++ b) →
      (x : Atom) × (l ≡ Stmt-F.Insert x) × IsBuiltAtom x × (StmtLayer P Q l → IsBuiltAtom x)
  insert_layer (Stmt-F.Insert atom) b w h = (atom, refl, w, (λ f. f))
  insert_layer l b w h = absurd (omega (arith, ap rank_of h.1))

  remove_layer : (l : Layer) (b : T) → BuiltLayer l → Heads (Key words.Remove ∷ tokens) (spell_of_layer l ++ b) →
      (x : Atom) × (l ≡ Stmt-F.Remove x) × IsBuiltAtom x × (StmtLayer P Q l → IsBuiltAtom x)
  remove_layer (Stmt-F.Remove atom) b w h = (atom, refl, w, (λ f. f))
  remove_layer l b w h = absurd (omega (arith, ap rank_of h.1))

  abort_layer : (l : Layer) (b : T) → BuiltLayer l → Heads (Key words.Abort ∷ tokens) (spell_of_layer l ++ b) →
      (x : ⊤) × (l ≡ Stmt-F.Abort) × ⊤ × (StmtLayer P Q l → ⊤)
  abort_layer Stmt-F.Abort b w h = (tt, refl, tt, (λ f. tt))
  abort_layer l b w h = absurd (omega (arith, ap rank_of h.1))

  output_layer : (l : Layer) (b : T) → BuiltLayer l → Heads (Key words.Output ∷ tokens) (spell_of_layer l ++ b) →
      (x : List ℕ × List Equal) × (l ≡ Stmt-F.Output x.0 x.1) × (IsName x.0 × All IsBuiltEqual x.1)
      × (StmtLayer P Q l → IsName x.0 × All IsBuiltEqual x.1)
  output_layer (Stmt-F.Output port changes) b w h = ((port, changes), refl, w, (λ f. f))
  output_layer l b w h = absurd (omega (arith, ap rank_of h.1))

  choose_layer : (l : Layer) (b : T) → BuiltLayer l → Heads (Key words.If ∷ tokens) (spell_of_layer l ++ b) →
      (x : List Alternative) × (l ≡ Stmt-F.Choose x) × OneOrMore IsBuiltAlternative x × (StmtLayer P Q l → P x)
  choose_layer (Stmt-F.Choose alternatives) b w h = (alternatives, refl, w, (λ f. f))
  choose_layer l b w h = absurd (omega (arith, ap rank_of h.1))

  pick_layer : (l : Layer) (b : T) → BuiltLayer l → Heads (Key words.Pick ∷ tokens) (spell_of_layer l ++ b) →
      (x : List ℕ × (List ℕ × List Stmt)) × (l ≡ Stmt-F.Pick x.0 x.1.0 x.1.1)
      × (IsName x.0 × (IsName x.1.0 × All IsBuiltStmt x.1.1))
      × (StmtLayer P Q l → IsName x.0 × (IsName x.1.0 × Q x.1.1))
  pick_layer (Stmt-F.Pick name kind body) b w h =
      ((name, (kind, body)), refl, (w.0, (w.1, w.2)), (λ f. (f.0, (f.1, f.2))))
  pick_layer l b w h = absurd (omega (arith, ap rank_of h.1))

no_layer : (ts : T) → begins (Key words.Insert) ts ≡ false → begins (Key words.Remove) ts ≡ false →
    begins (Key words.Output) ts ≡ false → begins (Key words.Abort) ts ≡ false → begins (Key words.If) ts ≡ false →
    begins (Key words.Pick) ts ≡ false →
    (l : Layer) (b : T) → Heads ts (spell_of_layer l ++ b) → ⊥
no_layer ts i r o a f p (Stmt-F.Insert _) b h = not_begun (Key words.Insert) ts _ (own_key words.Insert) i h
no_layer ts i r o a f p (Stmt-F.Remove _) b h = not_begun (Key words.Remove) ts _ (own_key words.Remove) r h
no_layer ts i r o a f p (Stmt-F.Output _ _) b h = not_begun (Key words.Output) ts _ (own_key words.Output) o h
no_layer ts i r o a f p Stmt-F.Abort b h = not_begun (Key words.Abort) ts _ (own_key words.Abort) a h
no_layer ts i r o a f p (Stmt-F.Choose alternatives) b h = not_begun (Key words.If) ts _ (own_key words.If) f h
no_layer ts i r o a f p (Stmt-F.Pick name kind body) b h = not_begun (Key words.Pick) ts _ (own_key words.Pick) p h

semicolon : is_same (Signed signs.Semicolon) (Signed signs.Semicolon) ≡ true
semicolon = own_sign signs.Semicolon

update : (word : Reserved) →
    Reader (λ atom. Key word ∷ (spell_of_atom atom ++ Signed signs.Semicolon ∷ [])) IsBuiltAtom IsBuiltAtom never_goes
    (update_at word)
unfolding update_at
update word = after (before atom (Signed signs.Semicolon) semicolon (λ x w. refl)) (Key word) (own_key word)

-- a statement, where an `if` and a `pick` are read right
module _ (P : List Alternative → Type 0) (Q : List Stmt → Type 0)
    (weaker : (stmt : Stmt) → StmtOf P Q stmt → IsBuiltStmt stmt) (chosen picked : T → Answer Stmt) where
  abbrev Right : T → Answer Stmt → Type 0
  Right ts a = Holds spell_of_statement IsBuiltStmt (StmtOf P Q) never_goes ts a

  insert_holds : (ts : T) → Named ts → begins (Key words.Insert) ts ≡ true →
      Right ts (made_at insert_of (update_at words.Insert) ts)
  insert_holds =
      stmt_form (update words.Insert) P Q weaker Stmt-F.Insert insert_of rolls-Insert outs-Insert (λ x. refl) (λ x f. f)
      (λ x w. w) (Key words.Insert) (insert_layer P Q)

  remove_holds : (ts : T) → Named ts → begins (Key words.Remove) ts ≡ true →
      Right ts (made_at remove_of (update_at words.Remove) ts)
  remove_holds =
      stmt_form (update words.Remove) P Q weaker Stmt-F.Remove remove_of rolls-Remove outs-Remove (λ x. refl) (λ x f. f)
      (λ x w. w) (Key words.Remove) (remove_layer P Q)

  abort_holds : (ts : T) → Named ts → begins (Key words.Abort) ts ≡ true → Right ts (abort_at ts)
  unfolding abort_at
  abort_holds =
      stmt_form (after (fixed (Signed signs.Semicolon) semicolon) (Key words.Abort) (own_key words.Abort)) P Q weaker
      (λ u. Stmt-F.Abort) abort_of (λ u. rolls-Abort) (λ u. outs-Abort) (λ x. refl) (λ x f. tt) (λ x w. tt)
      (Key words.Abort) (abort_layer P Q)

  output_holds : (ts : T) → Named ts → begins (Key words.Output) ts ≡ true → Right ts (output_at ts)
  unfolding output_at
  output_holds =
      stmt_form
      (after
      (chain names (before changes (Signed signs.Semicolon) semicolon (λ x w. changes_stop x))
      (λ x y a p q u. past_none _)) (Key words.Output) (own_key words.Output)) P Q weaker
      (λ x. Stmt-F.Output x.0 x.1) output_of (λ x. rolls-Output x.0 x.1) (λ x. outs-Output x.0 x.1) (λ x. refl)
      (λ x f. f) (λ x w. w) (Key words.Output) (output_layer P Q)

  least_small : StmtOf P Q stmts.Abort
  least_small = subst (StmtLayer P Q) (sym outs-Abort) tt

  stmt_by_holds : ((ts : T) → Named ts → begins (Key words.If) ts ≡ true → Right ts (chosen ts)) →
      ((ts : T) → Named ts → begins (Key words.Pick) ts ≡ true → Right ts (picked ts)) → (ts : T) → Named ts →
      Right ts (stmt_by chosen picked ts)
  stmt_by_holds chosen_right picked_right ts named =
      if_holds spell_of_statement IsBuiltStmt (StmtOf P Q) never_goes ts (begins (Key words.Insert) ts) _ _
      (insert_holds ts named) (λ i.
      if_holds spell_of_statement IsBuiltStmt (StmtOf P Q) never_goes ts (begins (Key words.Remove) ts) _ _
      (remove_holds ts named) (λ r.
      if_holds spell_of_statement IsBuiltStmt (StmtOf P Q) never_goes ts (begins (Key words.Output) ts) _ _
      (output_holds ts named) (λ o.
      if_holds spell_of_statement IsBuiltStmt (StmtOf P Q) never_goes ts (begins (Key words.Abort) ts) _ _
      (abort_holds ts named) (λ a.
      if_holds spell_of_statement IsBuiltStmt (StmtOf P Q) never_goes ts (begins (Key words.If) ts) _ _
      (chosen_right ts named) (λ f.
      if_holds spell_of_statement IsBuiltStmt (StmtOf P Q) never_goes ts (begins (Key words.Pick) ts) _ _
      (picked_right ts named) (λ p.
      refused_holds ts stmts.Abort least_small
      (λ x b w u h. no_layer ts i r o a f p (out-Stmt x) b
      (subst (λ l. Heads ts (l ++ b)) (statement_spelling x) h))))))))

-- statements and blocks at n levels

abbrev NoBranches : List Alternative → Type 0
NoBranches alternatives = ⊥

abbrev NoBlock : List Stmt → Type 0
NoBlock body = ⊥

abbrev one_branch : List Alternative
one_branch = record { guard = guard_of_true; body = [] } ∷ []

choose_built : IsBuiltStmt (stmts.Choose one_branch)
choose_built = stmt-built (stmts.Choose one_branch) (subst BuiltLayer (sym (outs-Choose one_branch)) (
  (λ e. cc),
  All-cons IsBuiltAlternative (record { guard = guard_of_true; body = [] }) []
      (alternative-built (record { guard = guard_of_true; body = [] }) (guard_of_true_built, All-nil IsBuiltStmt))
      (All-nil IsBuiltAlternative),
))

pick_built : IsBuiltStmt (stmts.Pick names.least names.least [])
pick_built =
    stmt-built (stmts.Pick names.least names.least [])
    (subst BuiltLayer (sym (outs-Pick names.least names.least [])) (names.small, names.small, All-nil IsBuiltStmt))

module _ (weaker : (stmt : Stmt) → StmtOf NoBranches NoBlock stmt → IsBuiltStmt stmt) where
  choose_too_deep : (ts : T) → Named ts → begins (Key words.If) ts ≡ true →
      Holds spell_of_statement IsBuiltStmt (StmtOf NoBranches NoBlock) never_goes ts (too_deep ts)
  choose_too_deep ts named e =
      subst (λ l. Holds spell_of_statement IsBuiltStmt (StmtOf NoBranches NoBlock) never_goes l (too_deep l))
      (sym (begun (Key words.If) ts e))
      (deep_holds (Key words.If) (rest_of ts) stmts.Abort (subst (StmtLayer NoBranches NoBlock) (sym outs-Abort) tt)
      (λ x b f u h.
      (choose_layer NoBranches NoBlock (rest_of ts) (out-Stmt x) b (stmt-open x (weaker x f))
      (subst (λ l. Heads (Key words.If ∷ rest_of ts) (l ++ b)) (statement_spelling x) h)).3 f)
      (stmts.Choose one_branch)
      (listed (Signed signs.Bar) spell_of_alternative one_branch ++ Key words.Fi ∷ []) choose_built
      (statement_spelling (stmts.Choose one_branch) ∙ ap spell_of_layer (outs-Choose one_branch)))

  pick_too_deep : (ts : T) → Named ts → begins (Key words.Pick) ts ≡ true →
      Holds spell_of_statement IsBuiltStmt (StmtOf NoBranches NoBlock) never_goes ts (too_deep ts)
  pick_too_deep ts named e =
      subst (λ l. Holds spell_of_statement IsBuiltStmt (StmtOf NoBranches NoBlock) never_goes l (too_deep l))
      (sym (begun (Key words.Pick) ts e))
      (deep_holds (Key words.Pick) (rest_of ts) stmts.Abort (subst (StmtLayer NoBranches NoBlock) (sym outs-Abort) tt)
      (λ x b f u h.
      ((pick_layer NoBranches NoBlock (rest_of ts) (out-Stmt x) b (stmt-open x (weaker x f))
      (subst (λ l. Heads (Key words.Pick ∷ rest_of ts) (l ++ b)) (statement_spelling x) h)).3 f).1.1)
      (stmts.Pick names.least names.least []) _ pick_built
      (statement_spelling (stmts.Pick names.least names.least [])
      ∙ ap spell_of_layer (outs-Pick names.least names.least [])))

block_by_reader : (n : ℕ) (r : T → Answer Stmt) → Reader spell_of_statement IsBuiltStmt (StmtFits n) never_goes r →
    Reader (block_spelled spell_of_statement) (All IsBuiltStmt) (All (StmtFits n)) never_goes (block_by r)
block_by_reader n r stated =
    after
    (before (many stated starts_statement (stmt_begins IsBuiltStmt)) (Signed signs.CloseBrace)
    (own_sign signs.CloseBrace) (λ x w. refl)) (Signed signs.OpenBrace) (own_sign signs.OpenBrace)

branch_by_reader : (n : ℕ) (r : T → Answer Stmt) → Reader spell_of_statement IsBuiltStmt (StmtFits n) never_goes r →
    Reader spell_of_alternative IsBuiltAlternative (AlternativeFits n) never_goes (branch_by (guard_by (lit_at n)) r)
branch_by_reader n r stated = recast (shaped
    (chain (guard n) (after (block_by_reader n r stated) (Signed signs.Arrow) (own_sign signs.Arrow))
    (λ x y a p q u. or_not_arrow))
    alternative_of (λ (alternative : Alternative). (alternative.guard, alternative.body)) (λ x w. refl)
    (λ y. refl) spell_of_alternative alternative_spelling)
    alternative-built alternative-open (λ x f. f) (λ x f. f)

bar_not_fi : goes_list (is_same (Signed signs.Bar)) never (Key words.Fi) ≡ false
unfolding is_same
bar_not_fi = refl

stmt_holds_by : (n : ℕ) (r : T → Answer Stmt) → Reader spell_of_statement IsBuiltStmt (StmtFits n) never_goes r →
    (weaker : (stmt : Stmt) → StmtOf (OneOrMore (AlternativeFits n)) (All (StmtFits n)) stmt → IsBuiltStmt stmt) →
    (ts : T) → Named ts →
    Holds spell_of_statement IsBuiltStmt (StmtOf (OneOrMore (AlternativeFits n)) (All (StmtFits n))) never_goes ts
    (stmt_by (choose_by (branch_by (guard_by (lit_at n)) r)) (pick_by r) ts)
stmt_holds_by n r stated weaker =
    stmt_by_holds (OneOrMore (AlternativeFits n)) (All (StmtFits n)) weaker
    (choose_by (branch_by (guard_by (lit_at n)) r)) (pick_by r)
    (stmt_form
    (after
    (before (listing (branch_by_reader n r stated) (Signed signs.Bar) (own_sign signs.Bar) refl) (Key words.Fi)
    (own_key words.Fi) (λ x w. bar_not_fi)) (Key words.If) (own_key words.If))
    (OneOrMore (AlternativeFits n)) (All (StmtFits n)) weaker Stmt-F.Choose choose_of rolls-Choose outs-Choose
    (λ x. refl) (λ x f. f) (λ x w. w) (Key words.If)
    (choose_layer (OneOrMore (AlternativeFits n)) (All (StmtFits n))))
    (stmt_form
    (after
    (chain names
    (after
    (chain names (after (block_by_reader n r stated) (Key words.In) (own_key words.In)) (λ x y a p q u. refl))
    (Signed signs.Colon) (own_sign signs.Colon)) (λ x y a p q u. refl)) (Key words.Pick) (own_key words.Pick))
    (OneOrMore (AlternativeFits n)) (All (StmtFits n)) weaker (λ x. Stmt-F.Pick x.0 x.1.0 x.1.1) pick_of
    (λ x. rolls-Pick x.0 x.1.0 x.1.1) (λ x. outs-Pick x.0 x.1.0 x.1.1) (λ x. refl) (λ x f. (f.0, f.1.0, f.1.1))
    (λ x w. (w.0, w.1.0, w.1.1)) (Key words.Pick) (pick_layer (OneOrMore (AlternativeFits n)) (All (StmtFits n))))

pub statement : (n : ℕ) → Reader spell_of_statement IsBuiltStmt (StmtFits n) never_goes (stmt_at n)
unfolding StmtFits stmt_at guard_at any_at conj_at
statement zero = record {
  once = built_stmt_once;
  fits = λ x f. (0, f);
  least = stmts.Abort;
  small = subst (StmtLayer NoBranches NoBlock) (sym outs-Abort) tt;
  holds = stmt_by_holds NoBranches NoBlock (λ x f. (0, f)) too_deep too_deep (choose_too_deep (λ x f. (0, f)))
      (pick_too_deep (λ x f. (0, f)));
}
statement (suc n) = record {
  once = built_stmt_once;
  fits = λ x f. (suc n, f);
  least = stmts.Abort;
  small = subst (StmtLayer (OneOrMore (AlternativeFits n)) (All (StmtFits n))) (sym outs-Abort) tt;
  holds = stmt_holds_by n (stmt_at n) (statement n) (λ x f. (suc n, f));
}

pub block : (n : ℕ) →
    Reader (block_spelled spell_of_statement) (All IsBuiltStmt) (All (StmtFits n)) never_goes (block_by (stmt_at n))
block n = block_by_reader n (stmt_at n) (statement n)
