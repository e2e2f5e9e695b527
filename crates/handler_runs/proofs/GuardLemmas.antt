-- Whether guards are true, part by part.
use Rattle.std.proofs.Common.{◌≡◌, ℕ, ◌+◌, ◌<◌, ◌≤◌, Bool, true, false, not, ◌&&◌, ◌||◌, nat_eq, List, ◌∷◌, length}
use Rattle.std.proofs.Common.{drop}
use Rattle.std.proofs.Common.{get_or, map, refl, sym, ap, ◌∙◌}
use Rattle.std.proofs.lemmas.List.{drop_all, drop_more}
use Rattle.box_contents.specs.declared.entry.Entry.{Entry}
use Rattle.box_contents.specs.Contents.{holds_entry}
use Rattle.box_handlers.specs.declared.act.Term.{Term}
use Rattle.box_handlers.specs.declared.act.Query.{Query}
use Rattle.box_handlers.specs.declared.act.Probe.{Probe}
use Rattle.box_handlers.specs.declared.act.Probe.TheVariants as probe
use Rattle.box_handlers.specs.declared.act.Test.{Test}
use Rattle.box_handlers.specs.declared.act.Branch.{Branch}
use Rattle.box_handlers.specs.Body.{all_of, any_of, branches_of, formula_of, formula_of_probe}
use Rattle.box_handlers.proofs.BodyLemmas.{bodies_read, formulas_read}
use Rattle.handler_runs.specs.Reading.{Scene, value_by, entry_by, holds_by, any_holds}

-- the part at an index stands before those behind it
pub next_part : {A : Type 0} (parts : List A) (i : ℕ) (part : A) → i < length parts → part ≡ get_or parts i part →
    drop i parts ≡ part ∷ drop (i + 1) parts
next_part parts i part inside here = drop_more parts i part inside ∙ ap (λ p. p ∷ drop (i + 1) parts) (sym here)

or_true : (a b : Bool) → a ≡ true → (a || b) ≡ true
or_true true b e = refl
or_true false b e = absurd (let wrong : ◌≡◌ {A = Bool} false true = e in cc)

or_false : (a b : Bool) → a ≡ false → (a || b) ≡ b
or_false true b e = absurd (let wrong : ◌≡◌ {A = Bool} true false = e in cc)
or_false false b e = refl

and_true : (a b : Bool) → a ≡ true → (a && b) ≡ b
and_true true b e = refl
and_true false b e = absurd (let wrong : ◌≡◌ {A = Bool} false true = e in cc)

and_false : (a b : Bool) → a ≡ false → (a && b) ≡ false
and_false true b e = absurd (let wrong : ◌≡◌ {A = Bool} true false = e in cc)
and_false false b e = refl

module _ (scene : Scene) (contents : List Entry) where
  abbrev pub all_behind : List Probe → Bool
  all_behind probes = holds_by scene contents (all_of (map formula_of_probe probes))

  abbrev pub some_behind : List (List Probe) → Bool
  some_behind lists = holds_by scene contents (any_of (map (map formula_of_probe) lists))

  abbrev pub branches_behind : List Branch → Bool
  branches_behind branches = any_holds scene contents (branches_of branches)

  -- the probes of a list
  pub probe_true : (probes : List Probe) (i : ℕ) (one : Probe) (found whole : Bool) → i < length probes →
      one ≡ get_or probes i one → whole ≡ all_behind (drop i probes) →
      found ≡ holds_by scene contents (formula_of_probe one) → found ≡ true → whole ≡ all_behind (drop (i + 1) probes)
  probe_true probes i one found whole inside here so_far is passed =
      so_far ∙ ap all_behind (next_part probes i one inside here)
      ∙ and_true (holds_by scene contents (formula_of_probe one)) (all_behind (drop (i + 1) probes)) (sym is ∙ passed)

  pub probe_false : (probes : List Probe) (i : ℕ) (one : Probe) (found whole : Bool) → i < length probes →
      one ≡ get_or probes i one → whole ≡ all_behind (drop i probes) →
      found ≡ holds_by scene contents (formula_of_probe one) → found ≡ false → false ≡ whole
  probe_false probes i one found whole inside here so_far is failed =
      sym (so_far ∙ ap all_behind (next_part probes i one inside here)
      ∙ and_false (holds_by scene contents (formula_of_probe one)) (all_behind (drop (i + 1) probes)) (sym is ∙ failed))

  pub all_true : (probes : List Probe) (i : ℕ) (whole : Bool) → length probes ≤ i →
      whole ≡ all_behind (drop i probes) → true ≡ whole
  all_true probes i whole all so_far = sym (so_far ∙ ap all_behind (drop_all i probes all))

  -- the lists of a test
  test_is : (test : Test) → some_behind test.any ≡ holds_by scene contents (formula_of test)
  test_is test = ap (holds_by scene contents) (sym (formulas_read.test test))

  pub list_true : (test : Test) (i : ℕ) (probes : List Probe) (found : Bool) → i < length test.any →
      probes ≡ get_or test.any i probes → some_behind test.any ≡ some_behind (drop i test.any) →
      found ≡ all_behind probes → found ≡ true → true ≡ holds_by scene contents (formula_of test)
  list_true test i probes found inside here so_far is passed =
      sym (sym (test_is test) ∙ so_far ∙ ap some_behind (next_part test.any i probes inside here)
      ∙ or_true (all_behind probes) (some_behind (drop (i + 1) test.any)) (sym is ∙ passed))

  pub list_false : (test : Test) (i : ℕ) (probes : List Probe) (found : Bool) → i < length test.any →
      probes ≡ get_or test.any i probes → some_behind test.any ≡ some_behind (drop i test.any) →
      found ≡ all_behind probes → found ≡ false → some_behind test.any ≡ some_behind (drop (i + 1) test.any)
  list_false test i probes found inside here so_far is failed =
      so_far ∙ ap some_behind (next_part test.any i probes inside here)
      ∙ or_false (all_behind probes) (some_behind (drop (i + 1) test.any)) (sym is ∙ failed)

  pub no_list_true : (test : Test) (i : ℕ) → length test.any ≤ i →
      some_behind test.any ≡ some_behind (drop i test.any) → false ≡ holds_by scene contents (formula_of test)
  no_list_true test i all so_far =
      sym (sym (test_is test) ∙ so_far ∙ ap some_behind (drop_all i test.any all))

  -- the branches of a choice
  branch_is : (branch : Branch) (more : List Branch) → branches_behind (branch ∷ more)
      ≡ holds_by scene contents (formula_of branch.guard) || branches_behind more
  branch_is branch more = ap (any_holds scene contents) (bodies_read.branch branch more)

  pub branch_true : (branches : List Branch) (i : ℕ) (branch : Branch) (found : Bool) → i < length branches →
      branch ≡ get_or branches i branch → branches_behind branches ≡ branches_behind (drop i branches) →
      found ≡ holds_by scene contents (formula_of branch.guard) → found ≡ true → true ≡ branches_behind branches
  branch_true branches i branch found inside here so_far is passed =
      sym (so_far ∙ ap branches_behind (next_part branches i branch inside here)
      ∙ branch_is branch (drop (i + 1) branches)
      ∙ or_true (holds_by scene contents (formula_of branch.guard)) (branches_behind (drop (i + 1) branches))
      (sym is ∙ passed))

  pub branch_false : (branches : List Branch) (i : ℕ) (branch : Branch) (found : Bool) → i < length branches →
      branch ≡ get_or branches i branch → branches_behind branches ≡ branches_behind (drop i branches) →
      found ≡ holds_by scene contents (formula_of branch.guard) → found ≡ false →
      branches_behind branches ≡ branches_behind (drop (i + 1) branches)
  branch_false branches i branch found inside here so_far is failed =
      so_far ∙ ap branches_behind (next_part branches i branch inside here)
      ∙ branch_is branch (drop (i + 1) branches)
      ∙ or_false (holds_by scene contents (formula_of branch.guard)) (branches_behind (drop (i + 1) branches))
      (sym is ∙ failed)

  pub none_true : (branches : List Branch) (i : ℕ) → length branches ≤ i →
      branches_behind branches ≡ branches_behind (drop i branches) → false ≡ branches_behind branches
  none_true branches i all so_far = sym (so_far ∙ ap branches_behind (drop_all i branches all))

  -- one probe
  pub true_holds : true ≡ holds_by scene contents (formula_of_probe probe.True)
  true_holds = ap (holds_by scene contents) (sym formulas_read.always)

  pub has_holds : (query : Query) → holds_entry contents (entry_by scene query)
      ≡ holds_by scene contents (formula_of_probe (probe.Has query))
  has_holds query = ap (holds_by scene contents) (sym (formulas_read.has query))

  pub same_holds : (one two : Term) → nat_eq (value_by scene one) (value_by scene two)
      ≡ holds_by scene contents (formula_of_probe (probe.Same one two))
  same_holds one two = ap (holds_by scene contents) (sym (formulas_read.same one two))

  pub differ_holds : (one two : Term) → not (nat_eq (value_by scene one) (value_by scene two))
      ≡ holds_by scene contents (formula_of_probe (probe.Differ one two))
  differ_holds one two = ap (holds_by scene contents) (sym (formulas_read.differ one two))

  pub not_holds : (inner : Probe) → not (holds_by scene contents (formula_of_probe inner))
      ≡ holds_by scene contents (formula_of_probe (probe.Not inner))
  not_holds inner = ap (holds_by scene contents) (sym (formulas_read.deny inner))

  pub group_holds : (test : Test) → holds_by scene contents (formula_of test)
      ≡ holds_by scene contents (formula_of_probe (probe.Group test))
  group_holds test = ap (holds_by scene contents) (sym (formulas_read.group test))
