-- Each part of a tree is spelled in one way.
use Rattle.std.proofs.Common.{◌≡◌, ℕ, zero, suc, Bool, true, false, List, [], ◌∷◌, ◌++◌, refl, sym, ap, ◌∙◌, arith}
use Rattle.std.specs.List.{flat_map, All}
use Rattle.amdl_tree.specs.Word.{IsName}
use Rattle.amdl_tree.specs.WellBuilt.{OneOrMore, IsBuiltEqual, IsBuiltAtom, LitLayer, GuardLayer, LitFits, GuardFits}
use Rattle.amdl_tree.specs.WellBuilt.{StmtLayer, AlternativeLayer, StmtFits, AlternativeFits}
use Rattle.amdl_tree.specs.Spelling.{word, led, listed, with_commas, spell_of_atom, spell_of_equal, spell_of_change}
use Rattle.amdl_tree.specs.Spelling.{lit_spelled, spell_of_lit, spell_of_guard, block_spelled, spell_of_changes}
use Rattle.amdl_tree.specs.Spelling.{stmt_spelled, spell_of_statement, spell_of_alternative}
use Rattle.amdl_tree.specs.GoesOn.{Past, Once, Begins, never, is_comma, is_bar, is_open_bracket, is_and, is_or}
use Rattle.amdl_tree.specs.GoesOn.{starts_statement, goes_list, goes_guard, goes_commas, goes_changes}
use Rattle.amdl_tree.specs.declared.token.Token.{Token}
use Rattle.amdl_tree.specs.declared.token.Token.TheVariants.{Word, Key, Sign as Signed}
use Rattle.amdl_tree.specs.declared.token.Sign.TheVariants as signs
use Rattle.amdl_tree.specs.declared.reserved.Reserved.TheVariants as words
use Rattle.amdl_tree.specs.declared.guard.Atom.{Atom}
use Rattle.amdl_tree.specs.declared.guard.Guard.{Guard}
use Rattle.amdl_tree.specs.declared.guard.Lit.{Lit}
use Rattle.amdl_tree.specs.declared.guard.Lit.TheOpen.{Lit-F}
use Rattle.amdl_tree.specs.declared.guard.Lit.TheViews.{out-Lit, roll-Lit, roll-out-Lit}
use Rattle.amdl_tree.specs.declared.statement.Alternative.{Alternative}
use Rattle.amdl_tree.specs.declared.statement.Stmt.{Stmt}
use Rattle.amdl_tree.specs.declared.statement.Stmt.TheOpen.{Stmt-F}
use Rattle.amdl_tree.specs.declared.statement.Stmt.TheViews.{out-Stmt, roll-Stmt, roll-out-Stmt}
use Rattle.amdl_tree.specs.declared.tree.Equal.{Equal}
use Rattle.amdl_tree.proofs.OnceLemmas.{not_past, once_word, once_after, once_before, once_shaped, once_chain}
use Rattle.amdl_tree.proofs.OnceLemmas.{once_then, once_listed, once_many}
use Rattle.amdl_tree.proofs.SpellingLemmas.{lit_spelling, guard_spelling, statement_spelling, alternative_spelling}

abbrev T : Type 0
T = List Token

-- names with commas between
pub names_once : Once (with_commas word) (OneOrMore IsName) (λ names. goes_commas)
names_once = once_listed (Signed signs.Comma) is_comma refl (once_word IsName) refl

pub atom_once : Once spell_of_atom IsBuiltAtom (λ atom. never)
atom_once = once_shaped
    (once_then (once_word IsName)
    (once_after (once_before names_once (Signed signs.CloseParen) [] (λ names p. refl)) (Signed signs.OpenParen)))
    (λ (atom : Atom). (atom.relation, atom.args))
    (λ x y e i. record { relation = (e i).0; args = (e i).1 }) spell_of_atom (λ atom. refl)

pub equal_once : Once spell_of_equal IsBuiltEqual (λ equal. never)
equal_once = once_shaped
    (once_then (once_word IsName) (once_after (once_word IsName) (Signed signs.Equals)))
    (λ (equal : Equal). (equal.field, equal.value))
    (λ x y e i. record { field = (e i).0; value = (e i).1 }) spell_of_equal (λ equal. refl)

pub change_once : Once spell_of_change IsBuiltEqual (λ change. never)
change_once = once_shaped
    (once_then (once_word IsName) (once_after (once_word IsName) (Signed signs.Becomes)))
    (λ (equal : Equal). (equal.field, equal.value))
    (λ x y e i. record { field = (e i).0; value = (e i).1 }) spell_of_change (λ equal. refl)

-- a number for each first token that begins a part, to tell parts apart
abbrev pub rank_of : T → ℕ
rank_of [] = 0
rank_of (Signed signs.OpenParen ∷ tokens) = 1
rank_of (Key words.True ∷ tokens) = 2
rank_of (Key words.Has ∷ tokens) = 3
rank_of (Key words.Not ∷ tokens) = 4
rank_of (Word name ∷ Signed signs.Equals ∷ tokens) = 5
rank_of (Word name ∷ Signed signs.Differs ∷ tokens) = 6
rank_of (Key words.Insert ∷ tokens) = 7
rank_of (Key words.Remove ∷ tokens) = 8
rank_of (Key words.Output ∷ tokens) = 9
rank_of (Key words.Abort ∷ tokens) = 10
rank_of (Key words.If ∷ tokens) = 11
rank_of (Key words.Pick ∷ tokens) = 12
rank_of (Key words.Kind ∷ tokens) = 13
rank_of (Key words.Field ∷ tokens) = 14
rank_of (Key words.Middlebox ∷ tokens) = 15
rank_of (Key words.Host ∷ tokens) = 16
rank_of (Key words.Box ∷ tokens) = 17
rank_of (Key words.Link ∷ tokens) = 18
rank_of (Key words.Sends ∷ tokens) = 19
rank_of (Key words.Forbid ∷ tokens) = 20
rank_of tokens = 21

-- one layer of a literal, where the literal behind a `not` and the guard of a group are spelled in one way
module _ (inner : Lit → Type 0) (group : Guard → Type 0) (one : Once spell_of_lit inner (λ lit. never))
    (two : Once spell_of_guard group (λ guard. goes_guard)) where
  lit_layer_once : (x y : Lit-F Lit Guard) (a b : T) → LitLayer inner group x → LitLayer inner group y → Past never a →
      Past never b → lit_spelled spell_of_lit spell_of_guard x ++ a ≡ lit_spelled spell_of_lit spell_of_guard y ++ b →
      (x ≡ y) × (a ≡ b)
  lit_layer_once Lit-F.True Lit-F.True a b p q u v e = (refl, cc)
  lit_layer_once (Lit-F.Has x) (Lit-F.Has y) a b p q u v e =
      let split = (once_after atom_once (Key words.Has)).once x y a b p q u v e in (ap Lit-F.Has split.0, split.1)
  lit_layer_once (Lit-F.Same x z) (Lit-F.Same y w) a b p q u v e = (cc, cc)
  lit_layer_once (Lit-F.Differ x z) (Lit-F.Differ y w) a b p q u v e = (cc, cc)
  lit_layer_once (Lit-F.Not x) (Lit-F.Not y) a b p q u v e =
      let split = (once_after one (Key words.Not)).once x y a b p q u v e in (ap Lit-F.Not split.0, split.1)
  lit_layer_once (Lit-F.Group x) (Lit-F.Group y) a b p q u v e =
      let split =
      (once_after (once_before two (Signed signs.CloseParen) [] (λ guard p. refl))
      (Signed signs.OpenParen)).once x y a b p q u v e in
      (ap Lit-F.Group split.0, split.1)
  lit_layer_once x y a b _ _ _ _ e = absurd (omega (arith, ap rank_of e))

-- a part that no value is
nothing_once : {X : Type 0} (s : X → T) (goes : X → Token → Bool) → Once s (λ x. ⊥) goes
nothing_once s goes = record { once = λ x y a b p q u v e. absurd p }

lit_once_by : (inner : Lit → Type 0) (group : Guard → Type 0) → Once spell_of_lit inner (λ lit. never) →
    Once spell_of_guard group (λ guard. goes_guard) →
    Once spell_of_lit (λ lit. LitLayer inner group (out-Lit lit)) (λ lit. never)
lit_once_by inner group one two = once_shaped
    (record { once = lit_layer_once inner group one two })
    out-Lit (λ x y e. sym (roll-out-Lit x) ∙ ap roll-Lit e ∙ roll-out-Lit y) spell_of_lit lit_spelling

-- a guard whose literals are spelled in one way
pub guard_once_by : (W : Lit → Type 0) → Once spell_of_lit W (λ lit. never) →
    Once spell_of_guard (GuardLayer W) (λ guard. goes_guard)
guard_once_by W one = once_shaped
    (once_listed (Key words.Or) is_or refl (once_listed (Key words.And) is_and refl one refl) refl)
    (λ (guard : Guard). guard.any) (λ x y e i. record { any = e i }) spell_of_guard guard_spelling

pub lit_once : (n : ℕ) → Once spell_of_lit (LitFits n) (λ lit. never)
unfolding LitFits
lit_once zero =
    lit_once_by (λ inner. ⊥) (λ group. ⊥) (nothing_once spell_of_lit (λ lit. never))
    (nothing_once spell_of_guard (λ guard. goes_guard))
lit_once (suc n) =
    lit_once_by (LitFits n) (GuardLayer (LitFits n)) (lit_once n) (guard_once_by (LitFits n) (lit_once n))

pub guard_once : (n : ℕ) → Once spell_of_guard (GuardFits n) (λ guard. goes_guard)
guard_once n = guard_once_by (LitFits n) (lit_once n)

-- some changes in brackets
brackets_once : Once
    (led (Signed signs.OpenBracket) (λ changes. with_commas spell_of_change changes ++ Signed signs.CloseBracket ∷ []))
    (OneOrMore IsBuiltEqual) (λ changes. never)
brackets_once =
    once_after
    (once_before (once_listed (Signed signs.Comma) is_comma refl change_once refl) (Signed signs.CloseBracket) []
    (λ changes p. refl)) (Signed signs.OpenBracket)

changes_split : (xs ys : List Equal) (a b : T) → All IsBuiltEqual xs → All IsBuiltEqual ys → Past (goes_changes xs) a →
    Past (goes_changes ys) b → spell_of_changes xs ++ a ≡ spell_of_changes ys ++ b → (xs ≡ ys) × (a ≡ b)
changes_split [] [] a b p q u v e = (refl, e)
changes_split [] (y ∷ ys) a b p q u v e =
    absurd
    (not_past is_open_bracket a (Signed signs.OpenBracket)
    ((with_commas spell_of_change (y ∷ ys) ++ Signed signs.CloseBracket ∷ []) ++ b) u refl e)
changes_split (x ∷ xs) [] a b p q u v e =
    absurd
    (not_past is_open_bracket b (Signed signs.OpenBracket)
    ((with_commas spell_of_change (x ∷ xs) ++ Signed signs.CloseBracket ∷ []) ++ a) v refl (sym e))
changes_split (x ∷ xs) (y ∷ ys) a b p q u v e =
    brackets_once.once (x ∷ xs) (y ∷ ys) a b ((λ e. cc), p) ((λ e. cc), q) u v e

pub changes_once : Once spell_of_changes (All IsBuiltEqual) goes_changes
changes_once = record { once = changes_split }

changes_stop : (changes : List Equal) → All IsBuiltEqual changes → goes_changes changes (Signed signs.Semicolon) ≡ false
changes_stop [] p = refl
changes_stop (change ∷ changes) p = refl

-- a change of a relation, behind its word
pub update_once : Once (λ atom. spell_of_atom atom ++ Signed signs.Semicolon ∷ []) IsBuiltAtom (λ atom. never)
update_once = once_before atom_once (Signed signs.Semicolon) [] (λ atom p. refl)

pub output_once : Once {X = List ℕ × List Equal}
    (λ o. word o.0 ++ (spell_of_changes o.1 ++ Signed signs.Semicolon ∷ [])) (λ o. IsName o.0 × All IsBuiltEqual o.1)
    (λ o. never)
output_once = once_then (once_word IsName) (once_before changes_once (Signed signs.Semicolon) [] changes_stop)

-- one layer of a statement, where the alternatives of an `if` and the statements of a block are spelled in one way
module _ (branches : List Alternative → Type 0) (block : List Stmt → Type 0)
    (one : Once (listed (Signed signs.Bar) spell_of_alternative) branches (λ alternatives. goes_list is_bar never))
    (two : Once (flat_map spell_of_statement) block (λ body. starts_statement)) where
  braces_once : Once
      (led (Signed signs.OpenBrace) (λ body. flat_map spell_of_statement body ++ Signed signs.CloseBrace ∷ [])) block
      (λ body. never)
  braces_once = once_after (once_before two (Signed signs.CloseBrace) [] (λ body p. refl)) (Signed signs.OpenBrace)

  stmt_layer_once : (x y : Stmt-F Stmt Alternative) (a b : T) → StmtLayer branches block x →
      StmtLayer branches block y → Past never a → Past never b →
      stmt_spelled spell_of_statement spell_of_alternative x ++ a
      ≡ stmt_spelled spell_of_statement spell_of_alternative y ++ b → (x ≡ y) × (a ≡ b)
  stmt_layer_once (Stmt-F.Insert x) (Stmt-F.Insert y) a b p q u v e =
      let split =
      (once_after update_once (Key words.Insert)).once x y a b p q u v e in (ap Stmt-F.Insert split.0, split.1)
  stmt_layer_once (Stmt-F.Remove x) (Stmt-F.Remove y) a b p q u v e =
      let split =
      (once_after update_once (Key words.Remove)).once x y a b p q u v e in (ap Stmt-F.Remove split.0, split.1)
  stmt_layer_once Stmt-F.Abort Stmt-F.Abort a b p q u v e = (refl, cc)
  stmt_layer_once (Stmt-F.Output x xs) (Stmt-F.Output y ys) a b p q u v e =
      let split = (once_after output_once (Key words.Output)).once (x, xs) (y, ys) a b p q u v e in
      (ap (λ (o : List ℕ × List Equal). Stmt-F.Output o.0 o.1) split.0, split.1)
  stmt_layer_once (Stmt-F.Choose xs) (Stmt-F.Choose ys) a b p q u v e =
      let split =
      (once_after (once_before one (Key words.Fi) [] (λ alternatives p. refl))
      (Key words.If)).once xs ys a b p q u v e in
      (ap Stmt-F.Choose split.0, split.1)
  stmt_layer_once (Stmt-F.Pick n k xs) (Stmt-F.Pick m l ys) a b p q u v e =
      let picked =
      once_after
      (once_then (once_word IsName)
      (once_after (once_then (once_word IsName) (once_after braces_once (Key words.In))) (Signed signs.Colon)))
      (Key words.Pick) in
      let split = picked.once (n, (k, xs)) (m, (l, ys)) a b (p.0, (p.1, p.2)) (q.0, (q.1, q.2)) u v e in
      (ap (λ (o : List ℕ × (List ℕ × List Stmt)). Stmt-F.Pick o.0 o.1.0 o.1.1) split.0, split.1)
  stmt_layer_once x y a b _ _ _ _ e = absurd (omega (arith, ap rank_of e))

stmt_once_by : (branches : List Alternative → Type 0) (block : List Stmt → Type 0) →
    Once (listed (Signed signs.Bar) spell_of_alternative) branches (λ alternatives. goes_list is_bar never) →
    Once (flat_map spell_of_statement) block (λ body. starts_statement) →
    Once spell_of_statement (λ stmt. StmtLayer branches block (out-Stmt stmt)) (λ stmt. never)
stmt_once_by branches block one two = once_shaped
    (record { once = stmt_layer_once branches block one two })
    out-Stmt (λ x y e. sym (roll-out-Stmt x) ∙ ap roll-Stmt e ∙ roll-out-Stmt y) spell_of_statement statement_spelling

stmt_layer_begins : (layer : Stmt-F Stmt Alternative) →
    (token : Token) × (tokens : T) × (stmt_spelled spell_of_statement spell_of_alternative layer ≡ token ∷ tokens)
    × (starts_statement token ≡ true)
stmt_layer_begins (Stmt-F.Insert atom) = (_, _, refl, refl)
stmt_layer_begins (Stmt-F.Remove atom) = (_, _, refl, refl)
stmt_layer_begins Stmt-F.Abort = (_, _, refl, refl)
stmt_layer_begins (Stmt-F.Output port changes) = (_, _, refl, refl)
stmt_layer_begins (Stmt-F.Choose alternatives) = (_, _, refl, refl)
stmt_layer_begins (Stmt-F.Pick name kind body) = (_, _, refl, refl)

pub stmt_begins : (W : Stmt → Type 0) → Begins spell_of_statement W starts_statement
stmt_begins W = record {
  begins = λ stmt p. let begun = stmt_layer_begins (out-Stmt stmt) in
      (begun.0, begun.1, statement_spelling stmt ∙ begun.2, begun.3);
}

-- the statements of a block that are spelled in one way
pub statements_once_by : (W : Stmt → Type 0) → Once spell_of_statement W (λ stmt. never) →
    Once (flat_map spell_of_statement) (All W) (λ body. starts_statement)
statements_once_by W one = once_many one (stmt_begins W)

pub block_once_by : (W : Stmt → Type 0) → Once spell_of_statement W (λ stmt. never) →
    Once (block_spelled spell_of_statement) (All W) (λ body. never)
block_once_by W one =
    once_after (once_before (statements_once_by W one) (Signed signs.CloseBrace) [] (λ body p. refl))
    (Signed signs.OpenBrace)

pub alternative_once_by : (V : Guard → Type 0) (W : Stmt → Type 0) → Once spell_of_guard V (λ guard. goes_guard) →
    Once spell_of_statement W (λ stmt. never) → Once spell_of_alternative (AlternativeLayer V W) (λ alternative. never)
alternative_once_by V W one two = once_shaped
    (once_chain one (once_after (block_once_by W two) (Signed signs.Arrow)) (λ guard body a p q u. refl))
    (λ (alternative : Alternative). (alternative.guard, alternative.body))
    (λ x y e i. record { guard = (e i).0; body = (e i).1 }) spell_of_alternative alternative_spelling

alternatives_once_by : (W : Alternative → Type 0) → Once spell_of_alternative W (λ alternative. never) →
    Once (listed (Signed signs.Bar) spell_of_alternative) (OneOrMore W) (λ alternatives. goes_list is_bar never)
alternatives_once_by W one = once_listed (Signed signs.Bar) is_bar refl one refl

pub stmt_once : (n : ℕ) → Once spell_of_statement (StmtFits n) (λ stmt. never)
unfolding StmtFits
stmt_once zero =
    stmt_once_by (λ branches. ⊥) (λ block. ⊥)
    (nothing_once (listed (Signed signs.Bar) spell_of_alternative) (λ alternatives. goes_list is_bar never))
    (nothing_once (flat_map spell_of_statement) (λ body. starts_statement))
stmt_once (suc n) = stmt_once_by (OneOrMore (AlternativeLayer (GuardFits n) (StmtFits n))) (All (StmtFits n))
    (alternatives_once_by (AlternativeLayer (GuardFits n) (StmtFits n))
    (alternative_once_by (GuardFits n) (StmtFits n) (guard_once n) (stmt_once n)))
    (statements_once_by (StmtFits n) (stmt_once n))

pub alternative_once : (n : ℕ) → Once spell_of_alternative (AlternativeFits n) (λ alternative. never)
alternative_once n = alternative_once_by (GuardFits n) (StmtFits n) (guard_once n) (stmt_once n)
