-- There are executions, beginning with each branch whose guard is true, and with each value of a pick.
use Rattle.std.proofs.Common.{◌≡◌, ℕ, ◌<◌, ◌≤◌, zero, suc, Bool, true, false, List, [], ◌∷◌, ◌++◌, append_assoc, Some}
use Rattle.std.proofs.Common.{◌⊎◌, inl, inr, refl, sym, subst, arith}
use Rattle.std.specs.Prelude.{slice_get, Contains}
use Rattle.std.specs.List.{All}
use Rattle.std.proofs.lemmas.Bool.{cases_eq}
use Rattle.header_set.specs.Laws.{FieldsAreBelowSizes, FieldsAreFree}
use Rattle.box_contents.specs.declared.entry.Entry.{Entry}
use Rattle.box_contents.specs.Contents.{holds_entry, with_entry, without_entry}
use Rattle.box_contents.specs.Laws.{HeldIsMember, WithKeepsRising, WithoutKeepsRising}
use Rattle.box_handlers.specs.declared.act.Branch.{Branch}
use Rattle.box_handlers.specs.Body.{Formula, Truth, Holds, Alike, Unlike, Denied, Grouped, Both, Every, Either, Neither}
use Rattle.box_handlers.specs.Body.{Body, Stop, Writes, Emit, Halt, Fork, Each, Branches, NoBranch, OneBranch, body_of}
use Rattle.box_handlers.specs.Body.{branches_of, BodiesAreRead}
use Rattle.box_handlers.specs.Fits.{Surroundings, Fits, BranchesFit}
use Rattle.box_executions.specs.Environment.{Environment, value_in, entry_in, with_pick}
use Rattle.box_executions.specs.Guard.{IsSatisfied, GuardIsTrue}
use Rattle.box_executions.specs.Execution.{Outcome, Done, Aborted, Behaviour, after_outputs, InSequence, UsesChoice}
use Rattle.box_executions.specs.Execution.{NoGuardIsTrue, BodyRuns, BranchRuns}
use Rattle.box_executions.specs.Shape.{IsEnvironment, AreContents}
use Rattle.box_executions.specs.Laws.{HandlerExecutes, BranchBegins, ValueBegins}
use Rattle.box_executions.proofs.RangeLemmas.{some_inside, pick_opened, entry_is_tuple, changed_is}
use Rattle.box_executions.proofs.KeepLemmas.{Keeps, body_keeps, branches_keep, with_fits, without_fits}

-- from these contents there is an execution, whatever choices it leaves
abbrev pub From : Behaviour → List Entry → Type 0
From runs contents =
    (used : List ℕ) × (outcome : Outcome) × ((left : List ℕ) → runs contents (used ++ left) outcome left)

abbrev pub Total : List (List ℕ) → Behaviour → Type 0
Total relations runs = (contents : List Entry) → AreContents relations contents → From runs contents

abbrev pub Decided : Type 0 → Type 0
Decided P = P ⊎ (P → ⊥)

-- the guard of the branch of this number is true
abbrev pub IsTrueAt : Branches → Environment → List Entry → ℕ → Type 0
IsTrueAt NoBranch env contents number = ⊥
IsTrueAt (OneBranch guard body more) env contents zero = IsSatisfied env contents guard
IsTrueAt (OneBranch guard body more) env contents (suc number) = IsTrueAt more env contents number

-- guards are true or not

both : {P Q : Type 0} → Decided P → Decided Q → Decided (P × Q)
both (inl p) (inl q) = inl (p, q)
both (inl p) (inr q) = inr (λ h. q h.1)
both (inr p) q = inr (λ h. p h.0)

either : {P Q : Type 0} → Decided P → Decided Q → Decided (P ⊎ Q)
either (inl p) q = inl (inl p)
either (inr p) (inl q) = inl (inr q)
either (inr p) (inr q) = inr (λ h. elim h [ inl one ↦ p one | inr two ↦ q two ])

denied : {P : Type 0} → Decided P → Decided (P → ⊥)
denied (inl p) = inr (λ h. h p)
denied (inr p) = inl p

member_decided : HeldIsMember → (contents : List Entry) (entry : Entry) → Decided (Contains contents entry)
member_decided law contents entry = by (holds_entry contents entry) refl
  where
    by : (b : Bool) → holds_entry contents entry ≡ b → Decided (Contains contents entry)
    by true e = inl ((law contents entry).0 e)
    by false e = inr (λ h. let held : holds_entry contents entry ≡ true = (law contents entry).1 h in cc)

pub decide : HeldIsMember → (env : Environment) (contents : List Entry) (formula : Formula) →
    Decided (IsSatisfied env contents formula)
decide law env contents Truth = inl tt
decide law env contents (Holds query) = member_decided law contents (entry_in env query)
decide law env contents (Alike one two) = cases_eq (value_in env one) (value_in env two)
decide law env contents (Unlike one two) = denied (cases_eq (value_in env one) (value_in env two))
decide law env contents (Denied formula) = denied (decide law env contents formula)
decide law env contents (Grouped formula) = decide law env contents formula
decide law env contents (Both one two) = both (decide law env contents one) (decide law env contents two)
decide law env contents Every = inl tt
decide law env contents (Either one two) = either (decide law env contents one) (decide law env contents two)
decide law env contents Neither = inr (λ h. h)

pub find : HeldIsMember → (env : Environment) (contents : List Entry) (branches : Branches) →
    NoGuardIsTrue env contents branches ⊎ ((number : ℕ) × IsTrueAt branches env contents number)
find law env contents NoBranch = inl tt
find law env contents (OneBranch guard body more) = by (decide law env contents guard) (find law env contents more)
  where
    by : Decided (IsSatisfied env contents guard) →
        NoGuardIsTrue env contents more ⊎ ((number : ℕ) × IsTrueAt more env contents number) →
        NoGuardIsTrue env contents (OneBranch guard body more)
        ⊎ ((number : ℕ) × IsTrueAt (OneBranch guard body more) env contents number)
    by (inl holds) later = inr (0, holds)
    by (inr fails) (inl none) = inl (fails, none)
    by (inr fails) (inr later) = inr (suc later.0, later.1)

-- one after the other

module _ (ports : ℕ) (headers : List ℕ) (relations : List (List ℕ)) where
  in_sequence_from : (block rest : Behaviour) → Keeps ports headers relations block → Total relations rest →
      (contents : List Entry) → AreContents relations contents →
      From block contents → From (InSequence block rest) contents
  in_sequence_from block rest keeps total contents are (used, Aborted, runs) =
      (used, Aborted, λ left. inl (runs left, refl))
  in_sequence_from block rest keeps total contents are (used, Done mid outputs, runs) =
      let kept = keeps contents (used ++ []) [] (Done mid outputs) are (runs []) in
      let second = total mid kept.0 in (
        used ++ second.0,
        after_outputs outputs second.1,
        λ left. inr record {
          mid = mid;
          outputs = outputs;
          unused = second.0 ++ left;
          last = second.1;
          first = subst (λ c. block contents c (Done mid outputs) (second.0 ++ left))
              (sym (append_assoc used second.0 left)) (runs (second.0 ++ left));
          second = second.2 left;
          ends = refl;
        },
      )

  by_choice_from : (block : ℕ → Behaviour) (rest : Behaviour) (choice : ℕ) →
      Keeps ports headers relations (block choice) → Total relations rest →
      (contents : List Entry) → AreContents relations contents → From (block choice) contents →
      (others : List ℕ) × (outcome : Outcome)
      × ((left : List ℕ) → UsesChoice block rest contents (choice ∷ (others ++ left)) outcome left)
  by_choice_from block rest choice keeps total contents are from =
      let both = in_sequence_from (block choice) rest keeps total contents are from in
      (both.0, both.1, λ left. record { choice = choice; others = both.0 ++ left; next = refl; runs = both.2 left })

module _ (below : FieldsAreBelowSizes) (free : FieldsAreFree) (held : HeldIsMember) (with_rising : WithKeepsRising)
    (without_rising : WithoutKeepsRising) (around : Surroundings) where
  -- the block of the first value
  pub size_some : (picks : List ℕ) (env : Environment) (kind values : ℕ) → IsEnvironment around picks env →
      slice_get around.sizes kind ≡ Some values → 0 < values
  size_some picks env kind values is e = first around.sizes kind e is.kinds
    where
      first : (sizes : List ℕ) (kind : ℕ) → slice_get sizes kind ≡ Some values → All (λ size. 1 ≤ size) sizes →
          0 < values
      first [] kind e all = absurd (cc)
      first (size ∷ sizes) zero e all =
          let same : size ≡ values = some_inside e in
          let some : 1 ≤ size = all 0 0 (omega arith) in
          omega (arith, same, some)
      first (size ∷ sizes) (suc kind) e all = first sizes kind e (λ k d less. all (suc k) d (omega (arith, less)))

  abbrev Block : Body → Environment → ℕ → ℕ → Behaviour
  Block body env values value contents choices outcome left =
      (value < values) × BodyRuns body (with_pick env value) contents choices outcome left

  pub block_keeps : (body : Body) (env : Environment) (picks : List ℕ) (values value : ℕ) →
      IsEnvironment around picks env → Fits around body (picks ++ values ∷ []) →
      Keeps around.ports env.headers env.relations (Block body env values value)
  block_keeps body env picks values value is fits contents choices left outcome are runs =
      body_keeps below with_rising without_rising around body (with_pick env value) (picks ++ values ∷ [])
      (pick_opened around picks env values value is runs.0) fits contents choices left outcome are runs.1

  mutual
    pub body_total : (body : Body) (env : Environment) (picks : List ℕ) → IsEnvironment around picks env →
        Fits around body picks → Total env.relations (BodyRuns body env)
    body_total Stop env picks is fits contents are = ([], Done contents [], λ left. (refl, refl))
    body_total (Writes query true rest) env picks is fits contents are =
        body_total rest env picks is fits.1 (with_entry contents (entry_in env query))
        (with_fits below with_rising without_rising around env.relations contents (entry_in env query) are
        (entry_is_tuple below around picks env is query fits.0))
    body_total (Writes query false rest) env picks is fits contents are =
        body_total rest env picks is fits.1 (without_entry contents (entry_in env query))
        (without_fits below with_rising without_rising around env.relations contents (entry_in env query) are)
    body_total (Emit port changes rest) env picks is fits contents are =
        let packet = changed_is below around picks env is free changes fits.1 in
        let later = body_total rest env picks is fits.3 contents are in (
          later.0,
          after_outputs (record { port = port; packet = packet.0 } ∷ []) later.1,
          λ left. record { packet = packet.0; changed = packet.1; last = later.1; second = later.2 left; ends = refl },
        )
    body_total (Halt rest) env picks is fits contents are = ([], Aborted, λ left. (refl, refl))
    body_total (Fork branches rest) env picks is fits contents are =
        elim (find held env contents branches) [
          | inl none ↦
              let later = body_total rest env picks is fits.1 contents are in
              (later.0, later.1, λ left. inl (none, later.2 left))
          | inr found ↦
              let chosen =
              by_choice_from around.ports env.headers env.relations (BranchRuns branches env) (BodyRuns rest env)
              found.0
              (branches_keep below with_rising without_rising around branches env picks is fits.0 found.0)
              (body_total rest env picks is fits.1) contents are
              (branch_total branches env picks is fits.0 found.0 contents are found.1) in
              (found.0 ∷ chosen.0, chosen.1, λ left. inr (chosen.2 left))
        ]
    body_total (Each values body rest) env picks is fits contents are =
        let less : 0 < values = size_some picks env fits.0.0 values is fits.0.1 in
        let inner =
        body_total body (with_pick env 0) (picks ++ values ∷ []) (pick_opened around picks env values 0 is less)
        fits.1 contents are in
        let chosen =
        by_choice_from around.ports env.headers env.relations (Block body env values) (BodyRuns rest env) 0
        (block_keeps body env picks values 0 is fits.1) (body_total rest env picks is fits.2) contents are
        (inner.0, inner.1, λ left. (less, inner.2 left)) in
        (0 ∷ chosen.0, chosen.1, chosen.2)

    pub branch_total : (branches : Branches) (env : Environment) (picks : List ℕ) → IsEnvironment around picks env →
        BranchesFit around branches picks → (number : ℕ) (contents : List Entry) →
        AreContents env.relations contents → IsTrueAt branches env contents number →
        From (BranchRuns branches env number) contents
    branch_total NoBranch env picks is fits number contents are true' = absurd true'
    branch_total (OneBranch guard body more) env picks is fits zero contents are true' =
        let inner = body_total body env picks is fits.1 contents are in
        (inner.0, inner.1, λ left. (true', inner.2 left))
    branch_total (OneBranch guard body more) env picks is fits (suc number) contents are true' =
        branch_total more env picks is fits.2 number contents are true'

  pub executes : (picks : List ℕ) (env : Environment) (body : Body) (contents : List Entry) →
      IsEnvironment around picks env → Fits around body picks → AreContents env.relations contents →
      (choices : List ℕ) × (outcome : Outcome) × BodyRuns body env contents choices outcome []
  executes picks env body contents is fits are =
      let total = body_total body env picks is fits contents are in (total.0 ++ [], total.1, total.2 [])

  branch_begins : (picks : List ℕ) (env : Environment) (branches : Branches) (rest : Body) (contents : List Entry)
      (number : ℕ) → IsEnvironment around picks env → Fits around (Fork branches rest) picks →
      AreContents env.relations contents → IsTrueAt branches env contents number →
      (choices : List ℕ) × (outcome : Outcome)
      × BodyRuns (Fork branches rest) env contents (number ∷ choices) outcome []
  branch_begins picks env branches rest contents number is fits are true' =
      let chosen =
      by_choice_from around.ports env.headers env.relations (BranchRuns branches env) (BodyRuns rest env) number
      (branches_keep below with_rising without_rising around branches env picks is fits.0 number)
      (body_total rest env picks is fits.1) contents are
      (branch_total branches env picks is fits.0 number contents are true') in
      (chosen.0 ++ [], chosen.1, inr (chosen.2 []))

  value_begins : (picks : List ℕ) (env : Environment) (values : ℕ) (body rest : Body) (contents : List Entry)
      (value : ℕ) → IsEnvironment around picks env → Fits around (Each values body rest) picks →
      AreContents env.relations contents → value < values →
      (choices : List ℕ) × (outcome : Outcome)
      × BodyRuns (Each values body rest) env contents (value ∷ choices) outcome []
  value_begins picks env values body rest contents value is fits are less =
      let inner =
      body_total body (with_pick env value) (picks ++ values ∷ [])
      (pick_opened around picks env values value is less) fits.1 contents are in
      let chosen =
      by_choice_from around.ports env.headers env.relations (Block body env values) (BodyRuns rest env) value
      (block_keeps body env picks values value is fits.1) (body_total rest env picks is fits.2) contents are
      (inner.0, inner.1, λ left. (less, inner.2 left)) in
      (chosen.0 ++ [], chosen.1, chosen.2 [])

pub handler_executes : FieldsAreBelowSizes → FieldsAreFree → HeldIsMember → WithKeepsRising → WithoutKeepsRising →
    HandlerExecutes
handler_executes below free held with_rising without_rising around picks env acts contents ready =
    executes below free held with_rising without_rising around picks env (body_of acts) contents ready.environment
    ready.fits ready.contents_fit

-- the branch of a number
true_at : BodiesAreRead →
    (env : Environment) (contents : List Entry) (branches : List Branch) (number : ℕ) (branch : Branch) →
    slice_get branches number ≡ Some branch → GuardIsTrue env contents branch →
    IsTrueAt (branches_of branches) env contents number
true_at read env contents [] number branch e holds = absurd (cc)
true_at read env contents (first ∷ more) zero branch e holds =
    subst (λ b. IsTrueAt b env contents zero) (sym (read.branch first more))
    (subst (λ b. GuardIsTrue env contents b) (sym (some_inside e)) holds)
true_at read env contents (first ∷ more) (suc number) branch e holds =
    subst (λ b. IsTrueAt b env contents (suc number)) (sym (read.branch first more))
    (true_at read env contents more number branch e holds)

pub branch_executes : BodiesAreRead → FieldsAreBelowSizes → FieldsAreFree → HeldIsMember → WithKeepsRising →
    WithoutKeepsRising → BranchBegins
branch_executes read below free held with_rising without_rising around picks env branches rest contents number branch
    ready e holds =
    let fits : Fits around (Fork (branches_of branches) (body_of rest)) picks =
    subst (λ b. Fits around b picks) (read.choose branches rest) ready.fits in
    let begins =
    branch_begins below free held with_rising without_rising around picks env (branches_of branches) (body_of rest)
    contents number ready.environment fits ready.contents_fit
    (true_at read env contents branches number branch e holds) in (
      begins.0,
      begins.1,
      subst (λ b. BodyRuns b env contents (number ∷ begins.0) begins.1 [])
          (sym (read.choose branches rest)) begins.2,
    )

pub value_executes : BodiesAreRead → FieldsAreBelowSizes → FieldsAreFree → HeldIsMember → WithKeepsRising →
    WithoutKeepsRising → ValueBegins
value_executes read below free held with_rising without_rising around picks env values body rest contents value ready
    less =
    let fits : Fits around (Each values (body_of body) (body_of rest)) picks =
    subst (λ b. Fits around b picks) (read.pick values body rest) ready.fits in
    let begins =
    value_begins below free held with_rising without_rising around picks env values (body_of body) (body_of rest)
    contents value ready.environment fits ready.contents_fit less in (
      begins.0,
      begins.1,
      subst (λ b. BodyRuns b env contents (value ∷ begins.0) begins.1 [])
          (sym (read.pick values body rest)) begins.2,
    )
