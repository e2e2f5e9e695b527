-- Whether something that a part of a handler uses passes a test.
use Rattle.std.proofs.Common.{
  ◌≡◌,
  ℕ,
  ◌+◌,
  ◌<◌,
  ◌≤◌,
  Bool,
  true,
  false,
  ◌||◌,
  List,
  [],
  ◌∷◌,
  ◌++◌,
  length,
  drop,
  get_or,
  flat_map,
  refl,
  sym,
  ap,
  ◌∙◌,
  add-one,
}
use Rattle.std.specs.List.{list_any}
use Rattle.std.proofs.lemmas.List.{drop_all}
use Rattle.std.proofs.Math.Seq.{drop-cons}
use Rattle.amdl_tree.specs.declared.guard.Atom.{Atom}
use Rattle.amdl_tree.specs.declared.guard.Guard.{Guard}
use Rattle.amdl_tree.specs.declared.guard.Lit.{Lit}
use Rattle.amdl_tree.specs.declared.guard.Lit.TheVariants.{True, Has, Same, Differ, Not, Group}
use Rattle.amdl_tree.specs.declared.guard.Lit.TheOpen.{Lit-F}
use Rattle.amdl_tree.specs.declared.guard.Lit.TheViews.{
  out-Lit,
  outs-True,
  outs-Has,
  outs-Same,
  outs-Differ,
  outs-Not,
  outs-Group,
}
use Rattle.amdl_tree.specs.declared.statement.Alternative.{Alternative}
use Rattle.amdl_tree.specs.declared.statement.Stmt.{Stmt}
use Rattle.amdl_tree.specs.declared.statement.Stmt.TheVariants.{Insert, Remove, Abort, Output, Choose, Pick}
use Rattle.amdl_tree.specs.declared.statement.Stmt.TheOpen.{Stmt-F}
use Rattle.amdl_tree.specs.declared.statement.Stmt.TheViews.{
  out-Stmt,
  outs-Insert,
  outs-Remove,
  outs-Abort,
  outs-Output,
  outs-Choose,
  outs-Pick,
}
use Rattle.amdl_tree.specs.declared.tree.Equal.{Equal}
use Rattle.tree_rules.specs.declared.opened.Opened.{Opened}
use Rattle.tree_rules.specs.Uses.{
  Use,
  OfAtom,
  OfPair,
  OfOutput,
  OfPick,
  all_uses,
  lit_uses,
  stmt_uses,
  uses_of_lit,
  uses_of_guard,
  uses_of_statement,
  uses_of_alternative,
}
use Rattle.tree_rules.proofs.UseLemmas.{literal_uses, guard_uses_are, statement_uses, alternative_uses}

or_false : (a : Bool) → a || false ≡ a
or_false true = refl
or_false false = refl

or_assoc : (a b c : Bool) → (a || b) || c ≡ a || (b || c)
or_assoc true b c = refl
or_assoc false b c = refl

any_append : {A : Type 0} (t : A → Bool) (xs ys : List A) → list_any t (xs ++ ys) ≡ list_any t xs || list_any t ys
any_append t [] ys = refl
any_append t (x ∷ xs) ys =
    ap (λ b. t x || b) (any_append t xs ys) ∙ sym (or_assoc (t x) (list_any t xs) (list_any t ys))

-- the part at an index stands before those behind it
next_part : {A : Type 0} (parts : List A) (i : ℕ) (part : A) → i < length parts → part ≡ get_or parts i part →
    drop i parts ≡ part ∷ drop (i + 1) parts
next_part parts i part inside here =
    let drop_next = rw (← add-one i) at (drop-cons parts i part inside) in
    drop_next ∙ ap (λ p. p ∷ drop (i + 1) parts) (sym here)

-- what the next part of a list uses, and what the others use
next_uses : {A B : Type 0} (t : B → Bool) (uses : A → List B) (parts : List A) (i : ℕ) (part : A) → i < length parts →
    part ≡ get_or parts i part → list_any t (flat_map uses (drop i parts))
    ≡ list_any t (uses part) || list_any t (flat_map uses (drop (i + 1) parts))
next_uses t uses parts i part inside here =
    ap (λ ps. list_any t (flat_map uses ps)) (next_part parts i part inside here)
    ∙ any_append t (uses part) (flat_map uses (drop (i + 1) parts))

-- something that the next part uses passes
pub part_passes : {A B : Type 0} (t : B → Bool) (uses : A → List B) (parts : List A) (i : ℕ) (part : A)
    (passed : Bool) →
    i < length parts → part ≡ get_or parts i part →
    list_any t (flat_map uses parts) ≡ list_any t (flat_map uses (drop i parts)) →
    passed ≡ list_any t (uses part) → passed ≡ true → true ≡ list_any t (flat_map uses parts)
part_passes t uses parts i part passed inside here so_far is passes =
    sym (so_far ∙ next_uses t uses parts i part inside here
    ∙ ap (λ b. b || list_any t (flat_map uses (drop (i + 1) parts))) (sym is ∙ passes))

-- nothing that it uses passes
pub part_fails : {A B : Type 0} (t : B → Bool) (uses : A → List B) (parts : List A) (i : ℕ) (part : A) (passed : Bool) →
    i < length parts → part ≡ get_or parts i part →
    list_any t (flat_map uses parts) ≡ list_any t (flat_map uses (drop i parts)) →
    passed ≡ list_any t (uses part) → passed ≡ false →
    list_any t (flat_map uses parts) ≡ list_any t (flat_map uses (drop (i + 1) parts))
part_fails t uses parts i part passed inside here so_far is fails =
    so_far ∙ next_uses t uses parts i part inside here
    ∙ ap (λ b. b || list_any t (flat_map uses (drop (i + 1) parts))) (sym is ∙ fails)

-- nothing that any part uses passes
pub none_passes : {A B : Type 0} (t : B → Bool) (uses : A → List B) (parts : List A) (i : ℕ) → length parts ≤ i →
    list_any t (flat_map uses parts) ≡ list_any t (flat_map uses (drop i parts)) →
    false ≡ list_any t (flat_map uses parts)
none_passes t uses parts i all so_far = sym (so_far ∙ ap (λ ps. list_any t (flat_map uses ps)) (drop_all i parts all))

module _ (t : Use → Bool) (opened : List Opened) where
  abbrev lit_test : Lit-F Lit Guard → Bool
  lit_test layer = list_any t (lit_uses uses_of_lit uses_of_guard layer opened)

  literal : (lit : Lit) (layer : Lit-F Lit Guard) → out-Lit lit ≡ layer →
      list_any t (uses_of_lit lit opened) ≡ lit_test layer
  literal lit layer out = ap (list_any t) (literal_uses lit opened) ∙ ap lit_test out

  pub true_uses : false ≡ list_any t (uses_of_lit True opened)
  true_uses = sym (literal True Lit-F.True outs-True)

  pub has_uses : (atom : Atom) → t (OfAtom opened atom) ≡ list_any t (uses_of_lit (Has atom) opened)
  has_uses atom = sym (literal (Has atom) (Lit-F.Has atom) (outs-Has atom) ∙ or_false (t (OfAtom opened atom)))

  pub same_uses : (one two : List ℕ) → t (OfPair opened one two) ≡ list_any t (uses_of_lit (Same one two) opened)
  same_uses one two =
      sym (literal (Same one two) (Lit-F.Same one two) (outs-Same one two) ∙ or_false (t (OfPair opened one two)))

  pub differ_uses : (one two : List ℕ) → t (OfPair opened one two) ≡ list_any t (uses_of_lit (Differ one two) opened)
  differ_uses one two =
      sym (literal (Differ one two) (Lit-F.Differ one two) (outs-Differ one two) ∙ or_false (t (OfPair opened one two)))

  pub not_uses : (lit : Lit) → list_any t (uses_of_lit lit opened) ≡ list_any t (uses_of_lit (Not lit) opened)
  not_uses lit = sym (literal (Not lit) (Lit-F.Not lit) (outs-Not lit))

  pub group_uses : (guard : Guard) →
      list_any t (uses_of_guard guard opened) ≡ list_any t (uses_of_lit (Group guard) opened)
  group_uses guard = sym (literal (Group guard) (Lit-F.Group guard) (outs-Group guard))

  guard_is : (guard : Guard) →
      list_any t (flat_map (λ lits. all_uses uses_of_lit lits opened) guard.any)
      ≡ list_any t (uses_of_guard guard opened)
  guard_is guard = sym (ap (list_any t) (guard_uses_are guard opened))

  abbrev listed : List (List Lit) → Bool
  listed any = list_any t (flat_map (λ lits. all_uses uses_of_lit lits opened) any)

  -- something that the next list of a guard uses passes
  pub list_passes : (guard : Guard) (i : ℕ) (lits : List Lit) (passed : Bool) → i < length guard.any →
      lits ≡ get_or guard.any i lits → listed guard.any ≡ listed (drop i guard.any) →
      passed ≡ list_any t (all_uses uses_of_lit lits opened) → passed ≡ true →
      true ≡ list_any t (uses_of_guard guard opened)
  list_passes guard i lits passed inside here so_far is passes =
      part_passes t (λ ls. all_uses uses_of_lit ls opened) guard.any i lits passed inside here so_far is passes
      ∙ guard_is guard

  pub no_list_passes : (guard : Guard) (i : ℕ) → length guard.any ≤ i → listed guard.any ≡ listed (drop i guard.any) →
      false ≡ list_any t (uses_of_guard guard opened)
  no_list_passes guard i all so_far =
      none_passes t (λ ls. all_uses uses_of_lit ls opened) guard.any i all so_far ∙ guard_is guard

  abbrev stmt_test : Stmt-F Stmt Alternative → Bool
  stmt_test layer = list_any t (stmt_uses uses_of_statement uses_of_alternative layer opened)

  statement : (stmt : Stmt) (layer : Stmt-F Stmt Alternative) → out-Stmt stmt ≡ layer →
      list_any t (uses_of_statement stmt opened) ≡ stmt_test layer
  statement stmt layer out = ap (list_any t) (statement_uses stmt opened) ∙ ap stmt_test out

  pub insert_uses : (atom : Atom) → t (OfAtom opened atom) ≡ list_any t (uses_of_statement (Insert atom) opened)
  insert_uses atom =
      sym (statement (Insert atom) (Stmt-F.Insert atom) (outs-Insert atom) ∙ or_false (t (OfAtom opened atom)))

  pub remove_uses : (atom : Atom) → t (OfAtom opened atom) ≡ list_any t (uses_of_statement (Remove atom) opened)
  remove_uses atom =
      sym (statement (Remove atom) (Stmt-F.Remove atom) (outs-Remove atom) ∙ or_false (t (OfAtom opened atom)))

  pub abort_uses : false ≡ list_any t (uses_of_statement Abort opened)
  abort_uses = sym (statement Abort Stmt-F.Abort outs-Abort)

  pub output_uses : (port : List ℕ) (changes : List Equal) →
      t (OfOutput opened port changes) ≡ list_any t (uses_of_statement (Output port changes) opened)
  output_uses port changes =
      sym (statement (Output port changes) (Stmt-F.Output port changes) (outs-Output port changes)
      ∙ or_false (t (OfOutput opened port changes)))

  pub choose_uses : (alternatives : List Alternative) →
      list_any t (all_uses uses_of_alternative alternatives opened)
      ≡ list_any t (uses_of_statement (Choose alternatives) opened)
  choose_uses alternatives =
      sym (statement (Choose alternatives) (Stmt-F.Choose alternatives) (outs-Choose alternatives))

  pub pick_uses : (name kind : List ℕ) (body : List Stmt) →
      list_any t (OfPick opened name kind
      ∷ all_uses uses_of_statement body (opened ++ record { name = name; kind = kind } ∷ []))
      ≡ list_any t (uses_of_statement (Pick name kind body) opened)
  pick_uses name kind body =
      sym (statement (Pick name kind body) (Stmt-F.Pick name kind body) (outs-Pick name kind body))

  branch : (alternative : Alternative) → list_any t (uses_of_alternative alternative opened)
      ≡ list_any t (uses_of_guard alternative.guard opened)
      || list_any t (all_uses uses_of_statement alternative.body opened)
  branch alternative =
      ap (list_any t) (alternative_uses alternative opened)
      ∙ any_append t (uses_of_guard alternative.guard opened) (all_uses uses_of_statement alternative.body opened)

  pub guard_passes : (alternative : Alternative) (passed : Bool) →
      passed ≡ list_any t (uses_of_guard alternative.guard opened) → passed ≡ true →
      true ≡ list_any t (uses_of_alternative alternative opened)
  guard_passes alternative passed is passes =
      sym (branch alternative
      ∙ ap (λ b. b || list_any t (all_uses uses_of_statement alternative.body opened)) (sym is ∙ passes))

  pub guard_fails : (alternative : Alternative) (passed : Bool) →
      passed ≡ list_any t (uses_of_guard alternative.guard opened) → passed ≡ false →
      list_any t (all_uses uses_of_statement alternative.body opened)
      ≡ list_any t (uses_of_alternative alternative opened)
  guard_fails alternative passed is fails =
      sym (branch alternative
      ∙ ap (λ b. b || list_any t (all_uses uses_of_statement alternative.body opened)) (sym is ∙ fails))

-- a test of the pick itself goes before its block
pub name_passes : (t : Use → Bool) (one : Use) (uses : List Use) (passed : Bool) → passed ≡ t one → passed ≡ true →
    true ≡ list_any t (one ∷ uses)
name_passes t one uses passed is passes = sym (ap (λ b. b || list_any t uses) (sym is ∙ passes))

pub name_fails : (t : Use → Bool) (one : Use) (uses : List Use) (passed : Bool) → passed ≡ t one → passed ≡ false →
    list_any t uses ≡ list_any t (one ∷ uses)
name_fails t one uses passed is fails = sym (ap (λ b. b || list_any t uses) (sym is ∙ fails))
