-- The tables of probes and of statements.
use Rattle.std.proofs.Common.{◌≡◌, ℕ, ◌<◌, zero, suc, true, false, List, [], ◌∷◌, map, Some, ◌⊎◌, inl, inr, ◌↔◌, refl}
use Rattle.std.proofs.Common.{sym, subst, arith}
use Rattle.std.specs.Prelude.{All, Any}
use Rattle.std.specs.List.{AllByRecursion}
use Rattle.std.proofs.lemmas.List.Elements.{All-from_recursion, recursion_from_All}
use Rattle.box_contents.specs.declared.entry.Entry.{Entry}
use Rattle.box_handlers.specs.declared.act.Probe.{Probe}
use Rattle.box_handlers.specs.declared.act.Probe.TheVariants as probe
use Rattle.box_handlers.specs.declared.act.Branch.{Branch}
use Rattle.box_handlers.specs.declared.act.Act.{Act}
use Rattle.box_handlers.specs.declared.act.Act.TheVariants as act
use Rattle.box_handlers.specs.Body.{Formula, Truth, Holds, Alike, Unlike, Denied, Grouped, Body, Stop, Writes, Emit}
use Rattle.box_handlers.specs.Body.{Halt, Fork, Each, OneBranch, all_of, any_of, formula_of_probe, formula_of, body_of}
use Rattle.box_handlers.specs.Body.{branches_of, BodiesAreRead, FormulasAreRead}
use Rattle.box_executions.specs.Environment.{Environment, with_pick}
use Rattle.box_executions.specs.Guard.{IsSatisfied, ProbeIsTrue, GuardIsTrue}
use Rattle.box_executions.specs.Execution.{Outcome, Behaviour, InSequence, UsesChoice, NoGuardIsTrue, BodyRuns}
use Rattle.box_executions.specs.Execution.{BranchRuns, Runs}
use Rattle.box_executions.specs.Table.{GuardTable, RunsBranch, RunsPicked, StatementTable}

-- guards

module _ (env : Environment) (contents : List Entry) where
  same_truth : (one two : Formula) → one ≡ two → IsSatisfied env contents one ↔ IsSatisfied env contents two
  same_truth one two e = (subst (IsSatisfied env contents) e, subst (IsSatisfied env contents) (sym e))

  all_true : (probes : List Probe) → IsSatisfied env contents (all_of (map formula_of_probe probes)) →
      AllByRecursion (ProbeIsTrue env contents) probes
  all_true [] h = tt
  all_true (probe ∷ probes) h = (h.0, all_true probes h.1)

  true_of_all : (probes : List Probe) → AllByRecursion (ProbeIsTrue env contents) probes →
      IsSatisfied env contents (all_of (map formula_of_probe probes))
  true_of_all [] h = tt
  true_of_all (probe ∷ probes) h = (h.0, true_of_all probes h.1)

  abbrev SomeList : List (List Probe) → Type 0
  SomeList lists = Any (λ probes. All (ProbeIsTrue env contents) probes) lists

  any_true : (lists : List (List Probe)) → IsSatisfied env contents (any_of (map (map formula_of_probe) lists)) →
      SomeList lists
  any_true [] h = absurd h
  any_true (probes ∷ lists) (inl h) =
      (0, probes, omega arith, refl, All-from_recursion (ProbeIsTrue env contents) probes (all_true probes h))
  any_true (probes ∷ lists) (inr h) =
      let later = any_true lists h in
      (suc later.0, later.1, omega (arith, later.2), later.3, later.4)

  true_of_any : (lists : List (List Probe)) → SomeList lists →
      IsSatisfied env contents (any_of (map (map formula_of_probe) lists))
  true_of_any [] (k, probes, less, is, h) = absurd (omega arith)
  true_of_any (first ∷ lists) (zero, probes, less, is, h) =
      inl (true_of_all first
      (recursion_from_All (ProbeIsTrue env contents) first
      (subst (λ l. All (ProbeIsTrue env contents) l) (sym is) h)))
  true_of_any (first ∷ lists) (suc k, probes, less, is, h) =
      inr (true_of_any lists (k, probes, omega (arith, less), is, h))

  pub guard_table : FormulasAreRead → GuardTable env contents
  guard_table read = record {
    test = λ test.
        let same = same_truth (formula_of test) (any_of (map (map formula_of_probe) test.any)) (read.test test) in
        (λ h. any_true test.any (same.0 h), λ h. same.1 (true_of_any test.any h));
    always = (same_truth (formula_of_probe probe.True) Truth read.always).1 tt;
    has = λ query. same_truth (formula_of_probe (probe.Has query)) (Holds query) (read.has query);
    same = λ one two. same_truth (formula_of_probe (probe.Same one two)) (Alike one two) (read.same one two);
    differ = λ one two. same_truth (formula_of_probe (probe.Differ one two)) (Unlike one two) (read.differ one two);
    deny = λ inner. same_truth (formula_of_probe (probe.Not inner)) (Denied (formula_of_probe inner))
        (read.deny inner);
    group = λ test. same_truth (formula_of_probe (probe.Group test)) (Grouped (formula_of test)) (read.group test);
  }

-- statements

-- one block runs where the other does
abbrev pub Implies : Behaviour → Behaviour → Type 0
Implies one two = (contents : List Entry) (choices : List ℕ) (outcome : Outcome) (left : List ℕ) →
    one contents choices outcome left → two contents choices outcome left

in_sequence : (one two rest : Behaviour) → Implies one two → Implies (InSequence one rest) (InSequence two rest)
in_sequence one two rest implies contents choices outcome left (inl (aborts, ends)) =
    inl (implies contents choices Outcome.Aborted left aborts, ends)
in_sequence one two rest implies contents choices outcome left (inr goes) = inr record {
  mid = goes.mid;
  outputs = goes.outputs;
  unused = goes.unused;
  last = goes.last;
  first = implies contents choices (Outcome.Done goes.mid goes.outputs) goes.unused goes.first;
  second = goes.second;
  ends = goes.ends;
}

by_choice : (one two : ℕ → Behaviour) (rest : Behaviour) → ((choice : ℕ) → Implies (one choice) (two choice)) →
    Implies (UsesChoice one rest) (UsesChoice two rest)
by_choice one two rest implies contents choices outcome left uses = record {
  choice = uses.choice;
  others = uses.others;
  next = uses.next;
  runs = in_sequence (one uses.choice) (two uses.choice) rest (implies uses.choice) contents uses.others outcome left
      uses.runs;
}

module _ (read : BodiesAreRead) (env : Environment) where
  abbrev IsShut : List Entry → Branch → Type 0
  IsShut contents branch = GuardIsTrue env contents branch → ⊥

  same_none : (contents : List Entry) (branch : Branch) (more : List Branch) →
      NoGuardIsTrue env contents (branches_of (branch ∷ more))
      ↔ NoGuardIsTrue env contents (OneBranch (formula_of branch.guard) (body_of branch.body) (branches_of more))
  same_none contents branch more = (
    subst (NoGuardIsTrue env contents) (read.branch branch more),
    subst (NoGuardIsTrue env contents)
        (sym (read.branch branch more)),
  )

  all_shut : (contents : List Entry) (branches : List Branch) → NoGuardIsTrue env contents (branches_of branches) →
      AllByRecursion (IsShut contents) branches
  all_shut contents [] h = tt
  all_shut contents (branch ∷ more) h =
      let opened = (same_none contents branch more).0 h in
      (opened.0, all_shut contents more opened.1)

  none_of_all : (contents : List Entry) (branches : List Branch) → AllByRecursion (IsShut contents) branches →
      NoGuardIsTrue env contents (branches_of branches)
  none_of_all contents [] h = tt
  none_of_all contents (branch ∷ more) h = (same_none contents branch more).1 (h.0, none_of_all contents more h.1)

  branch_found : (branches : List Branch) (number : ℕ) →
      Implies (BranchRuns (branches_of branches) env number) (RunsBranch env branches number)
  branch_found [] number contents choices outcome left h = absurd h
  branch_found (branch ∷ more) zero contents choices outcome left h =
      let opened = subst (λ b. BranchRuns b env zero contents choices outcome left) (read.branch branch more) h in
      record { branch = branch; numbered = refl; guard = opened.0; runs = opened.1 }
  branch_found (branch ∷ more) (suc number) contents choices outcome left h =
      let later =
      branch_found more number contents choices outcome left
      (subst (λ b. BranchRuns b env (suc number) contents choices outcome left) (read.branch branch more) h) in
      record { branch = later.branch; numbered = later.numbered; guard = later.guard; runs = later.runs }

  some_inside : {X : Type 0} {x y : X} → Some x ≡ Some y → x ≡ y
  some_inside e = cc

  found_branch : (branches : List Branch) (number : ℕ) →
      Implies (RunsBranch env branches number) (BranchRuns (branches_of branches) env number)
  found_branch [] number contents choices outcome left h = absurd (let none = h.numbered in cc)
  found_branch (branch ∷ more) zero contents choices outcome left h =
      let same : branch ≡ h.branch = some_inside h.numbered in
      subst (λ b. BranchRuns b env zero contents choices outcome left) (sym (read.branch branch more))
      (subst (λ (b : Branch). GuardIsTrue env contents b × Runs env b.body contents choices outcome left) (sym same)
      (h.guard, h.runs))
  found_branch (branch ∷ more) (suc number) contents choices outcome left h =
      subst (λ b. BranchRuns b env (suc number) contents choices outcome left) (sym (read.branch branch more))
      (found_branch more number contents choices outcome left
      (record { branch = h.branch; numbered = h.numbered; guard = h.guard; runs = h.runs }))

  module _ (rest : List Act) (contents : List Entry) (choices : List ℕ) (outcome : Outcome) (left : List ℕ) where
    same_runs : (one two : Body) → one ≡ two →
        BodyRuns one env contents choices outcome left ↔ BodyRuns two env contents choices outcome left
    same_runs one two e = (
      subst (λ b. BodyRuns b env contents choices outcome left) e,
      subst
          (λ b. BodyRuns b env contents choices outcome left) (sym e),
    )

    chosen : (branches : List Branch) →
        BodyRuns (Fork (branches_of branches) (body_of rest)) env contents choices outcome left →
        (All (IsShut contents) branches × Runs env rest contents choices outcome left)
        ⊎ UsesChoice (RunsBranch env branches) (Runs env rest) contents choices outcome left
    chosen branches (inl (none, runs)) =
        inl (All-from_recursion (IsShut contents) branches (all_shut contents branches none), runs)
    chosen branches (inr uses) =
        inr (by_choice (BranchRuns (branches_of branches) env) (RunsBranch env branches) (Runs env rest)
        (branch_found branches) contents choices outcome left uses)

    choosing : (branches : List Branch) →
        (All (IsShut contents) branches × Runs env rest contents choices outcome left)
        ⊎ UsesChoice (RunsBranch env branches) (Runs env rest) contents choices outcome left →
        BodyRuns (Fork (branches_of branches) (body_of rest)) env contents choices outcome left
    choosing branches (inl (all, runs)) =
        inl (none_of_all contents branches (recursion_from_All (IsShut contents) branches all), runs)
    choosing branches (inr uses) =
        inr (by_choice (RunsBranch env branches) (BranchRuns (branches_of branches) env) (Runs env rest)
        (found_branch branches) contents choices outcome left uses)

    abbrev WithValue : ℕ → List Act → ℕ → Behaviour
    WithValue values body value contents choices outcome left =
        (value < values) × Runs (with_pick env value) body contents choices outcome left

    with_value : (values : ℕ) (body : List Act) (value : ℕ) →
        Implies (WithValue values body value) (RunsPicked env values body value)
    with_value values body value c ch o l h = record { in_range = h.0; runs = h.1 }

    value_with : (values : ℕ) (body : List Act) (value : ℕ) →
        Implies (RunsPicked env values body value) (WithValue values body value)
    value_with values body value c ch o l h = (h.in_range, h.runs)

    pub statement_table : StatementTable env rest contents choices outcome left
    statement_table = record {
      none = same_runs (body_of []) Stop read.none;
      insert = λ query. same_runs (body_of (act.Insert query ∷ rest)) (Writes query true (body_of rest))
          (read.insert query rest);
      remove = λ query. same_runs (body_of (act.Remove query ∷ rest)) (Writes query false (body_of rest))
          (read.remove query rest);
      output = λ port changes. same_runs (body_of (act.Output port changes ∷ rest)) (Emit port changes (body_of rest))
          (read.output port changes rest);
      abort = same_runs (body_of (act.Abort ∷ rest)) (Halt (body_of rest)) (read.abort rest);
      choose = λ branches.
          let same =
          same_runs (body_of (act.Choose branches ∷ rest)) (Fork (branches_of branches) (body_of rest))
          (read.choose branches rest) in
          (λ h. chosen branches (same.0 h), λ h. same.1 (choosing branches h));
      pick = λ values body.
          let same =
          same_runs (body_of (act.Pick values body ∷ rest)) (Each values (body_of body) (body_of rest))
          (read.pick values body rest) in (
            λ h. by_choice (WithValue values body) (RunsPicked env values body) (Runs env rest)
                (with_value values body) contents choices outcome left (same.0 h),
            λ h. same.1
                (by_choice (RunsPicked env values body) (WithValue values body) (Runs env rest)
                (value_with values body) contents choices outcome left h),
          );
    }
