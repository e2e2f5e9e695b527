-- What the folds over guards and statements say, one equation for each of them.
use Rattle.std.proofs.Common.{◌≡◌, List, [], ◌∷◌, ◌++◌, map, refl, ap, ◌∙◌}
use Rattle.std.specs.List.{flat_map}
use Rattle.amdl_tree.specs.Spelling.{led, listed, as_it_is, lit_spelled, guard_spelled, lit_layer, guard_layer}
use Rattle.amdl_tree.specs.Spelling.{spell_of_lit, spell_of_guard, stmt_spelled, branch_spelled, stmt_layer}
use Rattle.amdl_tree.specs.Spelling.{alternative_layer, spell_of_statement, spell_of_alternative}
use Rattle.amdl_tree.specs.declared.token.Token.{Token}
use Rattle.amdl_tree.specs.declared.token.Token.TheVariants.{Word, Key, Sign as Signed}
use Rattle.amdl_tree.specs.declared.token.Sign.TheVariants.{Bar, Colon, OpenBrace, CloseBrace, Arrow}
use Rattle.amdl_tree.specs.declared.reserved.Reserved.TheVariants.{And, Or}
use Rattle.amdl_tree.specs.declared.reserved.Reserved.TheVariants as words
use Rattle.amdl_tree.specs.declared.guard.Guard.{Guard}
use Rattle.amdl_tree.specs.declared.guard.Lit.{Lit}
use Rattle.amdl_tree.specs.declared.guard.Lit.TheOpen.{Lit-F}
use Rattle.amdl_tree.specs.declared.guard.Lit.TheViews.{out-Lit}
use Rattle.amdl_tree.specs.declared.guard.Lit.TheFolds.{map-Lit, fold_out-Lit, fold_out-Guard}
use Rattle.amdl_tree.specs.declared.statement.Alternative.{Alternative}
use Rattle.amdl_tree.specs.declared.statement.Stmt.{Stmt}
use Rattle.amdl_tree.specs.declared.statement.Stmt.TheOpen.{Stmt-F}
use Rattle.amdl_tree.specs.declared.statement.Stmt.TheViews.{out-Stmt, out-Alternative}
use Rattle.amdl_tree.specs.declared.statement.Stmt.TheFolds.{map-Stmt, map-Alternative, fold_out-Stmt}
use Rattle.amdl_tree.specs.declared.statement.Stmt.TheFolds.{fold_out-Alternative}

-- parts that are spelled first, then joined, are spelled as they are joined
module _ {A B : Type 0} (c : Token) (s : B → List Token) (f : A → B) (g : A → List Token)
    (same : (x : A) → s (f x) ≡ g x) where
  flat_of : (xs : List A) → flat_map s (map f xs) ≡ flat_map g xs
  flat_of [] = refl
  flat_of (x ∷ xs) = λ i. same x i ++ flat_of xs i

  led_of : (xs : List A) → flat_map (led c s) (map f xs) ≡ flat_map (led c g) xs
  led_of [] = refl
  led_of (x ∷ xs) = λ i. (c ∷ same x i) ++ led_of xs i

  listed_of : (xs : List A) → listed c s (map f xs) ≡ listed c g xs
  listed_of [] = refl
  listed_of (x ∷ xs) = λ i. same x i ++ led_of xs i

module _ {A : Type 0} (f : A → List Token) where
  flat_as : (xs : List A) → flat_map as_it_is (map f xs) ≡ flat_map f xs
  flat_as = flat_of (Key Or) as_it_is f f (λ x. refl)

  listed_as : (c : Token) (xs : List A) → listed c as_it_is (map f xs) ≡ listed c f xs
  listed_as c = listed_of c as_it_is f f (λ x. refl)

abbrev T : Type 0
T = List Token

lit_laid : (layer : Lit-F Lit Guard) →
    lit_layer (map-Lit Lit Guard T T spell_of_lit spell_of_guard layer) ≡ lit_spelled spell_of_lit spell_of_guard layer
lit_laid Lit-F.True = refl
lit_laid (Lit-F.Has atom) = refl
lit_laid (Lit-F.Same one two) = refl
lit_laid (Lit-F.Differ one two) = refl
lit_laid (Lit-F.Not lit) = refl
lit_laid (Lit-F.Group guard) = refl

pub lit_spelling : (lit : Lit) → spell_of_lit lit ≡ lit_spelled spell_of_lit spell_of_guard (out-Lit lit)
unfolding spell_of_lit spell_of_guard
lit_spelling lit = fold_out-Lit T T lit_layer guard_layer lit ∙ lit_laid (out-Lit lit)

pub guard_spelling : (guard : Guard) → spell_of_guard guard ≡ guard_spelled spell_of_lit guard.any
unfolding spell_of_lit spell_of_guard
guard_spelling guard =
    fold_out-Guard T T lit_layer guard_layer guard
    ∙ listed_of (Key Or) (listed (Key And) as_it_is) (map spell_of_lit) (listed (Key And) spell_of_lit)
    (listed_as spell_of_lit (Key And)) guard.any

stmt_laid : (layer : Stmt-F Stmt Alternative) →
    stmt_layer (map-Stmt Stmt Alternative T T spell_of_statement spell_of_alternative layer)
    ≡ stmt_spelled spell_of_statement spell_of_alternative layer
stmt_laid (Stmt-F.Insert atom) = refl
stmt_laid (Stmt-F.Remove atom) = refl
stmt_laid Stmt-F.Abort = refl
stmt_laid (Stmt-F.Output port changes) = refl
stmt_laid (Stmt-F.Choose alternatives) =
    ap (λ tokens. Key words.If ∷ tokens ++ Key words.Fi ∷ []) (listed_as spell_of_alternative (Signed Bar) alternatives)
stmt_laid (Stmt-F.Pick name kind body) =
    ap (λ tokens. Key words.Pick ∷ Word name ∷ Signed Colon ∷ Word kind ∷ Key words.In ∷ Signed OpenBrace ∷ tokens
    ++ Signed CloseBrace ∷ []) (flat_as spell_of_statement body)

pub statement_spelling : (stmt : Stmt) →
    spell_of_statement stmt ≡ stmt_spelled spell_of_statement spell_of_alternative (out-Stmt stmt)
unfolding spell_of_statement spell_of_alternative
statement_spelling stmt = fold_out-Stmt T T stmt_layer alternative_layer stmt ∙ stmt_laid (out-Stmt stmt)

alternative_laid : (alternative : Alternative) →
    alternative_layer
    (map-Alternative Stmt Alternative T T spell_of_statement spell_of_alternative (out-Alternative alternative))
    ≡ branch_spelled spell_of_statement alternative.guard alternative.body
alternative_laid alternative =
    ap (λ tokens. spell_of_guard alternative.guard ++ Signed Arrow
    ∷ (Signed OpenBrace ∷ tokens ++ Signed CloseBrace ∷ [])) (flat_as spell_of_statement alternative.body)

pub alternative_spelling : (alternative : Alternative) →
    spell_of_alternative alternative ≡ branch_spelled spell_of_statement alternative.guard alternative.body
unfolding spell_of_statement spell_of_alternative
alternative_spelling alternative =
    fold_out-Alternative T T stmt_layer alternative_layer alternative ∙ alternative_laid alternative
