-- A run that ends is an execution, and each execution is a run.
use Rattle.std.proofs.Common.{◌≡◌, ℕ, zero, suc, ◌<◌, ◌≤◌, Bool, true, false, not, ◌&&◌, ◌||◌, List, [], ◌∷◌, ◌++◌}
use Rattle.std.proofs.Common.{◌⊎◌, inl, inr, refl, sym, ap, subst, ◌∙◌, append_assoc, append-nil, nat_eq, nat_lt}
use Rattle.std.specs.Prelude.{Contains, All}
use Rattle.std.proofs.lemmas.Bool.{eqb-true, eq-eqb, ltb-true, lt-ltb}
use Rattle.header_set.specs.Laws.{FieldsAreBelowSizes, FieldsDeterminePacket}
use Rattle.box_contents.specs.declared.entry.Entry.{Entry}
use Rattle.box_contents.specs.Contents.{holds_entry, with_entry, without_entry}
use Rattle.box_contents.specs.Laws.{HeldIsMember}
use Rattle.box_handlers.specs.declared.act.Change.{Change}
use Rattle.box_handlers.specs.Body.{Formula, Truth, Holds, Alike, Unlike, Denied, Grouped, Both, Every, Either, Neither}
use Rattle.box_handlers.specs.Body.{Body, Stop, Writes, Emit, Halt, Fork, Each, Branches, NoBranch, OneBranch}
use Rattle.box_handlers.specs.Fits.{Surroundings, FormulaFits, Fits, BranchesFit}
use Rattle.box_handlers.specs.Tuple.{tuples_over}
use Rattle.box_executions.specs.Environment.{Environment, value_in, entry_in, with_pick, IsChanged}
use Rattle.box_executions.specs.Guard.{IsSatisfied}
use Rattle.box_executions.specs.Execution.{Outcome, Done, Aborted, Emission, Behaviour, after_outputs, InSequence}
use Rattle.box_executions.specs.Execution.{UsesChoice, NoGuardIsTrue, BodyRuns, BranchRuns}
use Rattle.box_executions.specs.Shape.{IsEnvironment}
use Rattle.box_executions.proofs.OnceLemmas.{changed_once, not_chosen}
use Rattle.box_executions.proofs.RangeLemmas.{pick_opened}
use Rattle.handler_runs.specs.Reading.{scene_of, entry_by, packet_by, holds_by, any_holds}
use Rattle.handler_runs.specs.Run.{Standing, Answer, Goes, Aborts, Stuck, then_by, with_contents, with_left, put_out}
use Rattle.handler_runs.specs.Run.{by_choice, where_true, at_fork, value_block, run, run_branch}
use Rattle.handler_runs.proofs.NumberLemmas.{entry_is, packet_is}

-- a test says whether something holds
abbrev pub Tells : Bool → Type 0 → Type 0
Tells true P = P
Tells false P = P → ⊥

tells_not : (P : Type 0) (b : Bool) → Tells b P → Tells (not b) (P → ⊥)
tells_not P true p = λ h. h p
tells_not P false p = p

tells_both : (P Q : Type 0) (a b : Bool) → Tells a P → Tells b Q → Tells (a && b) (P × Q)
tells_both P Q true true p q = (p, q)
tells_both P Q true false p q = λ h. q h.1
tells_both P Q false b p q = λ h. p h.0

tells_either : (P Q : Type 0) (a b : Bool) → Tells a P → Tells b Q → Tells (a || b) (P ⊎ Q)
tells_either P Q true b p q = inl p
tells_either P Q false true p q = inr q
tells_either P Q false false p q = λ h. elim h [ inl one ↦ p one | inr two ↦ q two ]

tells_by : (P : Type 0) (b : Bool) → (b ≡ true → P) → (P → b ≡ true) → Tells b P
tells_by P true forth back = forth refl
tells_by P false forth back = λ p. absurd (let wrong : ◌≡◌ {A = Bool} false true = back p in cc)

tells_same : (m n : ℕ) → Tells (nat_eq m n) (m ≡ n)
tells_same m n = tells_by (m ≡ n) (nat_eq m n) (eqb-true m n) (eq-eqb m n)

-- the outputs of what goes on from an outcome
abbrev pub answer_of : List Emission → Outcome → List ℕ → Answer
answer_of outputs (Done contents more) left =
    Goes (record { contents = contents; outputs = outputs ++ more; left = left })
answer_of outputs Aborted left = Aborts left

answer_after : (outputs more : List Emission) (last : Outcome) (left : List ℕ) →
    answer_of outputs (after_outputs more last) left ≡ answer_of (outputs ++ more) last left
answer_after outputs more (Done contents later) left =
    ap (λ (o : List Emission). Goes (record { contents = contents; outputs = o; left = left }))
    (sym (append_assoc outputs more later))
answer_after outputs more Aborted left = refl

-- an answer that is an execution
abbrev pub Matches : Behaviour → Standing → Answer → Type 0
Matches runs now (Goes end) =
    (more : List Emission) × (end.outputs ≡ now.outputs ++ more)
    × runs now.contents now.left (Done end.contents more) end.left
Matches runs now (Aborts left) = runs now.contents now.left Aborted left
Matches runs now (Stuck left) = Unit {0}

-- each execution is answered
abbrev pub Answers : Behaviour → (Standing → Answer) → Type 0
Answers runs answer =
    (now : Standing) (outcome : Outcome) (left : List ℕ) → runs now.contents now.left outcome left →
    answer now ≡ answer_of now.outputs outcome left

pub matches_by : (one two : Behaviour) (before now : Standing) (answer : Answer) → before.outputs ≡ now.outputs →
    ((outcome : Outcome) (left : List ℕ) → one before.contents before.left outcome left →
    two now.contents now.left outcome left) → Matches one before answer → Matches two now answer
matches_by one two before now (Goes end) same moved (more, is, runs) =
    (more, is ∙ ap (λ (o : List Emission). o ++ more) same, moved (Done end.contents more) end.left runs)
matches_by one two before now (Aborts left) same moved runs = moved Aborted left runs
matches_by one two before now (Stuck left) same moved runs = tt

-- one after the other
module _ (block rest : Behaviour) (now mid : Standing) (outputs : List Emission)
    (is : mid.outputs ≡ now.outputs ++ outputs)
    (first : block now.contents now.left (Done mid.contents outputs) mid.left) where
  after_block : (answer : Answer) → Matches rest mid answer → Matches (InSequence block rest) now answer
  after_block (Goes end) (more, and, runs) = (
    outputs ++ more,
    and ∙ ap (λ (o : List Emission). o ++ more) is ∙ append_assoc now.outputs outputs more,
    inr record {
      mid = mid.contents;
      outputs = outputs;
      unused = mid.left;
      last = Done end.contents more;
      first = first;
      second = runs;
      ends = refl;
    },
  )
  after_block (Aborts left) runs = inr record {
    mid = mid.contents;
    outputs = outputs;
    unused = mid.left;
    last = Aborted;
    first = first;
    second = runs;
    ends = refl;
  }
  after_block (Stuck left) runs = tt

then_matches : (block rest : Behaviour) (now : Standing) (answer : Answer) (others : Standing → Answer) →
    Matches block now answer → ((mid : Standing) → Matches rest mid (others mid)) →
    Matches (InSequence block rest) now (then_by answer others)
then_matches block rest now (Goes mid) others (more, is, runs) later =
    after_block block rest now mid more is runs (others mid) (later mid)
then_matches block rest now (Aborts left) others runs later = inl (runs, refl)
then_matches block rest now (Stuck left) others runs later = tt

then_answers : (block rest : Behaviour) (now : Standing) (answer : Answer) (others : Standing → Answer)
    (outcome : Outcome) (left : List ℕ) →
    ((o : Outcome) (l : List ℕ) → block now.contents now.left o l → answer ≡ answer_of now.outputs o l) →
    Answers rest others → InSequence block rest now.contents now.left outcome left →
    then_by answer others ≡ answer_of now.outputs outcome left
then_answers block rest now answer others outcome left first later (inl (aborts, ends)) =
    ap (λ a. then_by a others) (first Aborted left aborts) ∙ ap (λ o. answer_of now.outputs o left) (sym ends)
then_answers block rest now answer others outcome left first later (inr goes) =
    ap (λ a. then_by a others) (first (Done goes.mid goes.outputs) goes.unused goes.first)
    ∙ later (record { contents = goes.mid; outputs = now.outputs ++ goes.outputs; left = goes.unused }) goes.last left
    goes.second
    ∙ sym (answer_after now.outputs goes.outputs goes.last left)
    ∙ ap (λ o. answer_of now.outputs o left) (sym goes.ends)

-- by a choice
module _ (block : ℕ → Behaviour) (runs : ℕ → List ℕ → Standing → Answer) (rest : Behaviour)
    (others : Standing → Answer) (now : Standing) where
  choice_matches : (left : List ℕ) → now.left ≡ left →
      ((choice : ℕ) (whole : List ℕ) (at : Standing) → Matches (block choice) at (runs choice whole at)) →
      ((mid : Standing) → Matches rest mid (others mid)) →
      Matches (UsesChoice block rest) now (then_by (by_choice runs now left) others)
  choice_matches [] is first later = tt
  choice_matches (choice ∷ more) is first later =
      matches_by (InSequence (block choice) rest) (UsesChoice block rest) (with_left now more) now
      (then_by (runs choice (choice ∷ more) (with_left now more)) others) refl
      (λ outcome left goes. record { choice = choice; others = more; next = is; runs = goes })
      (then_matches (block choice) rest (with_left now more) (runs choice (choice ∷ more) (with_left now more)) others
      (first choice (choice ∷ more) (with_left now more)) later)

  choice_answers : (outcome : Outcome) (left : List ℕ) →
      ((choice : ℕ) (whole : List ℕ) → Answers (block choice) (runs choice whole)) → Answers rest others →
      UsesChoice block rest now.contents now.left outcome left →
      then_by (by_choice runs now now.left) others ≡ answer_of now.outputs outcome left
  choice_answers outcome left first later uses =
      ap (λ (l : List ℕ). then_by (by_choice runs now l) others) uses.next
      ∙ then_answers (block uses.choice) rest (with_left now uses.others)
      (runs uses.choice (uses.choice ∷ uses.others) (with_left now uses.others)) others outcome left
      (λ o l. first uses.choice (uses.choice ∷ uses.others) (with_left now uses.others) o l) later uses.runs

pub where_matches : (b : Bool) (whole : List ℕ) (block : Behaviour) (now : Standing) (answer : Answer) →
    (b ≡ true → Matches block now answer) → Matches block now (where_true b whole answer)
where_matches true whole block now answer known = known refl
where_matches false whole block now answer known = tt

module _ (below : FieldsAreBelowSizes) (once : FieldsDeterminePacket) (held : HeldIsMember)
    (around : Surroundings) where
  -- the environment of a block, and its tuples are few enough to be counted
  pub record IsSeen (picks : List ℕ) (env : Environment) : Type 0 where
    pub environment : IsEnvironment around picks env
    pub few : All (λ sizes. tuples_over sizes ≤ 65536) env.relations

  pub pick_seen : (picks : List ℕ) (env : Environment) (size value : ℕ) → IsSeen picks env → value < size →
      IsSeen (picks ++ size ∷ []) (with_pick env value)
  pick_seen picks env size value seen less =
      record { environment = pick_opened around picks env size value seen.environment less; few = seen.few }

  -- guards
  pub guard_tells : (picks : List ℕ) (env : Environment) → IsSeen picks env → (contents : List Entry)
      (formula : Formula) → FormulaFits around picks formula →
      Tells (holds_by (scene_of env) contents formula) (IsSatisfied env contents formula)
  guard_tells picks env seen contents Truth fits = tt
  guard_tells picks env seen contents (Holds query) fits =
      subst (λ e. Tells (holds_entry contents e) (Contains contents (entry_in env query)))
      (sym (entry_is below around picks env seen.environment seen.few query fits))
      (tells_by (Contains contents (entry_in env query)) (holds_entry contents (entry_in env query)) (held contents
      (entry_in env query)).0
      (held contents (entry_in env query)).1)
  guard_tells picks env seen contents (Alike one two) fits = tells_same (value_in env one) (value_in env two)
  guard_tells picks env seen contents (Unlike one two) fits =
      tells_not (value_in env one ≡ value_in env two) (nat_eq (value_in env one) (value_in env two)) (tells_same
      (value_in env one) (value_in env two))
  guard_tells picks env seen contents (Denied formula) fits =
      tells_not (IsSatisfied env contents formula) (holds_by (scene_of env) contents formula)
      (guard_tells picks env seen contents formula fits)
  guard_tells picks env seen contents (Grouped formula) fits = guard_tells picks env seen contents formula fits
  guard_tells picks env seen contents (Both one two) fits =
      tells_both (IsSatisfied env contents one) (IsSatisfied env contents two) (holds_by (scene_of env) contents one)
      (holds_by (scene_of env) contents two)
      (guard_tells picks env seen contents one fits.0) (guard_tells picks env seen contents two fits.1)
  guard_tells picks env seen contents Every fits = tt
  guard_tells picks env seen contents (Either one two) fits =
      tells_either (IsSatisfied env contents one) (IsSatisfied env contents two) (holds_by
      (scene_of env) contents one) (holds_by (scene_of env) contents two)
      (guard_tells picks env seen contents one fits.0) (guard_tells picks env seen contents two fits.1)
  guard_tells picks env seen contents Neither fits = λ h. h

  none_of : (P Q : Type 0) (a b : Bool) → Tells a P → (b ≡ false → Q) → (a || b) ≡ false → (P → ⊥) × Q
  none_of P Q true b p q e = absurd (let no : ◌≡◌ {A = Bool} true false = e in cc)
  none_of P Q false b p q e = (p, q e)

  pub none_true : (picks : List ℕ) (env : Environment) → IsSeen picks env → (contents : List Entry)
      (branches : Branches) →
      BranchesFit around branches picks → any_holds (scene_of env) contents branches ≡ false →
      NoGuardIsTrue env contents branches
  none_true picks env seen contents NoBranch fits e = tt
  none_true picks env seen contents (OneBranch guard body more) fits e =
      none_of (IsSatisfied env contents guard) (NoGuardIsTrue env contents more) (holds_by
      (scene_of env) contents guard) (any_holds (scene_of env) contents more)
      (guard_tells picks env seen contents guard fits.0) (none_true picks env seen contents more fits.2) e

  pub none_held : (picks : List ℕ) (env : Environment) → IsSeen picks env → (contents : List Entry)
      (branches : Branches) →
      BranchesFit around branches picks → NoGuardIsTrue env contents branches →
      any_holds (scene_of env) contents branches ≡ false
  none_held picks env seen contents NoBranch fits none = refl
  none_held picks env seen contents (OneBranch guard body more) fits none =
      by (holds_by (scene_of env) contents guard) (guard_tells picks env seen contents guard fits.0)
      (none_held picks env seen contents more fits.2 none.1)
    where
      by : (b : Bool) → Tells b (IsSatisfied env contents guard) →
          any_holds (scene_of env) contents more ≡ false → (b || any_holds (scene_of env) contents more) ≡ false
      by true tells later = absurd (none.0 tells)
      by false tells later = later

  true_of : (P : Type 0) (b : Bool) → Tells b P → b ≡ true → P
  true_of P true tells e = tells
  true_of P false tells e = absurd (let no : ◌≡◌ {A = Bool} false true = e in cc)

  is_true : (P : Type 0) (b : Bool) → Tells b P → P → b ≡ true
  is_true P true tells p = refl
  is_true P false tells p = absurd (tells p)

  -- the packet that is put out stands before what the rest puts out
  put_matches : (env : Environment) (port : ℕ) (changes : List Change) (rest : Body) (now : Standing) (packet : ℕ) →
      IsChanged env changes packet → (answer : Answer) →
      Matches (BodyRuns rest env) (put_out now port packet) answer →
      Matches (BodyRuns (Emit port changes rest) env) now answer
  put_matches env port changes rest now packet changed (Goes end) (more, is, runs) = (
    record { port = port; packet = packet } ∷ more,
    is ∙ append_assoc now.outputs (record { port = port; packet = packet } ∷ []) more,
    record { packet = packet; changed = changed; last = Done end.contents more; second = runs; ends = refl },
  )
  put_matches env port changes rest now packet changed (Aborts left) runs =
      record { packet = packet; changed = changed; last = Aborted; second = runs; ends = refl }
  put_matches env port changes rest now packet changed (Stuck left) runs = tt

  fork_matches : (branches : Branches) (rest : Body) (env : Environment) (now : Standing) (b : Bool) →
      (b ≡ false → NoGuardIsTrue env now.contents branches) →
      ((choice : ℕ) (whole : List ℕ) (at : Standing) →
      Matches (BranchRuns branches env choice) at (run_branch branches (scene_of env) choice whole at)) →
      ((mid : Standing) → Matches (BodyRuns rest env) mid (run rest (scene_of env) mid)) →
      Matches (BodyRuns (Fork branches rest) env) now
      (then_by (at_fork b (run_branch branches (scene_of env)) now) (run rest (scene_of env)))
  fork_matches branches rest env now true none first later =
      matches_by (UsesChoice (BranchRuns branches env) (BodyRuns rest env)) (BodyRuns (Fork branches rest) env) now now
      (then_by (by_choice (run_branch branches (scene_of env)) now now.left) (run rest (scene_of env))) refl
      (λ outcome left uses. inr uses)
      (choice_matches (BranchRuns branches env) (run_branch branches (scene_of env)) (BodyRuns rest env)
      (run rest (scene_of env)) now now.left refl first later)
  fork_matches branches rest env now false none first later =
      matches_by (BodyRuns rest env) (BodyRuns (Fork branches rest) env) now now (run rest (scene_of env) now) refl
      (λ outcome left runs. inl (none refl, runs)) (later now)

  abbrev Block : Body → Environment → ℕ → ℕ → Behaviour
  Block body env values value contents choices outcome left =
      (value < values) × BodyRuns body (with_pick env value) contents choices outcome left

  mutual
    pub body_matches : (body : Body) (picks : List ℕ) (env : Environment) → IsSeen picks env → Fits around body picks →
        (now : Standing) → Matches (BodyRuns body env) now (run body (scene_of env) now)
    body_matches Stop picks env seen fits now = ([], sym (append-nil now.outputs), (refl, refl))
    body_matches (Writes query true rest) picks env seen fits now =
        let entry : entry_by (scene_of env) query ≡ entry_in env query =
        entry_is below around picks env seen.environment seen.few query fits.0 in
        matches_by (BodyRuns rest env) (BodyRuns (Writes query true rest) env)
        (with_contents now (with_entry now.contents (entry_by (scene_of env) query))) now
        (run rest (scene_of env) (with_contents now (with_entry now.contents (entry_by (scene_of env) query)))) refl
        (λ outcome left runs. subst (λ e. BodyRuns rest env (with_entry now.contents e) now.left outcome left) entry
        runs)
        (body_matches rest picks env seen fits.1
        (with_contents now (with_entry now.contents (entry_by (scene_of env) query))))
    body_matches (Writes query false rest) picks env seen fits now =
        let entry : entry_by (scene_of env) query ≡ entry_in env query =
        entry_is below around picks env seen.environment seen.few query fits.0 in
        matches_by (BodyRuns rest env) (BodyRuns (Writes query false rest) env)
        (with_contents now (without_entry now.contents (entry_by (scene_of env) query))) now
        (run rest (scene_of env) (with_contents now (without_entry now.contents (entry_by (scene_of env) query)))) refl
        (λ outcome left runs. subst (λ e. BodyRuns rest env (without_entry now.contents e) now.left outcome left) entry
        runs)
        (body_matches rest picks env seen fits.1
        (with_contents now (without_entry now.contents (entry_by (scene_of env) query))))
    body_matches (Emit port changes rest) picks env seen fits now =
        let packet : ℕ = packet_by (scene_of env) changes in
        put_matches env port changes rest now packet
        (packet_is below around picks env seen.environment changes fits.1)
        (run rest (scene_of env) (put_out now port packet))
        (body_matches rest picks env seen fits.3 (put_out now port packet))
    body_matches (Halt rest) picks env seen fits now = (refl, refl)
    body_matches (Fork branches rest) picks env seen fits now =
        fork_matches branches rest env now (any_holds (scene_of env) now.contents branches)
        (none_true picks env seen now.contents branches fits.0)
        (λ choice whole at. branch_matches branches picks env seen fits.0 choice whole at)
        (λ mid. body_matches rest picks env seen fits.1 mid)
    body_matches (Each values body rest) picks env seen fits now =
        choice_matches (Block body env values)
        (value_block values (λ value. run body (scene_of (with_pick env value)))) (BodyRuns rest env)
        (run rest (scene_of env)) now now.left refl
        (λ value whole at. where_matches (nat_lt value values) whole (Block body env values value) at
        (run body (scene_of (with_pick env value)) at)
        (λ e.
        let less : value < values = ltb-true value values e in
        matches_by (BodyRuns body (with_pick env value)) (Block body env values value) at at
        (run body (scene_of (with_pick env value)) at) refl (λ outcome left runs. (less, runs))
        (body_matches body (picks ++ values ∷ []) (with_pick env value) (pick_seen picks env values value seen less)
        fits.1 at)))
        (λ mid. body_matches rest picks env seen fits.2 mid)

    pub branch_matches : (branches : Branches) (picks : List ℕ) (env : Environment) → IsSeen picks env →
        BranchesFit around branches picks → (choice : ℕ) (whole : List ℕ) (now : Standing) →
        Matches (BranchRuns branches env choice) now (run_branch branches (scene_of env) choice whole now)
    branch_matches NoBranch picks env seen fits choice whole now = tt
    branch_matches (OneBranch guard body more) picks env seen fits zero whole now =
        where_matches (holds_by (scene_of env) now.contents guard) whole
        (BranchRuns (OneBranch guard body more) env zero) now (run body (scene_of env) now)
        (λ e. matches_by (BodyRuns body env) (BranchRuns (OneBranch guard body more) env zero) now now
        (run body (scene_of env) now) refl
        (λ outcome left runs. (
          true_of (IsSatisfied env now.contents guard) (holds_by (scene_of env) now.contents guard)
              (guard_tells picks env seen now.contents guard fits.0) e,
          runs,
        ))
        (body_matches body picks env seen fits.1 now))
    branch_matches (OneBranch guard body more) picks env seen fits (suc choice) whole now =
        matches_by (BranchRuns more env choice) (BranchRuns (OneBranch guard body more) env (suc choice)) now now
        (run_branch more (scene_of env) choice whole now) refl (λ outcome left runs. runs)
        (branch_matches more picks env seen fits.2 choice whole now)

  -- each execution is a run
  where_held : (b : Bool) (whole : List ℕ) (answer : Answer) → b ≡ true → where_true b whole answer ≡ answer
  where_held b whole answer e = ap (λ c. where_true c whole answer) e

  not_false : (b : Bool) → (b ≡ false → ⊥) → b ≡ true
  not_false true refused = refl
  not_false false refused = absurd (refused refl)

  mutual
    pub body_answers : (body : Body) (picks : List ℕ) (env : Environment) → IsSeen picks env → Fits around body picks →
        Answers (BodyRuns body env) (run body (scene_of env))
    body_answers Stop picks env seen fits now outcome left runs =
        (λ i. Goes (record {
          contents = now.contents;
          outputs = sym (append-nil now.outputs) i;
          left = sym runs.1 i;
        })) ∙ ap (λ o. answer_of now.outputs o left) (sym runs.0)
    body_answers (Writes query true rest) picks env seen fits now outcome left runs =
        let entry : entry_by (scene_of env) query ≡ entry_in env query =
        entry_is below around picks env seen.environment seen.few query fits.0 in
        body_answers rest picks env seen fits.1
        (with_contents now (with_entry now.contents (entry_by (scene_of env) query))) outcome left
        (subst (λ e. BodyRuns rest env (with_entry now.contents e) now.left outcome left) (sym entry) runs)
    body_answers (Writes query false rest) picks env seen fits now outcome left runs =
        let entry : entry_by (scene_of env) query ≡ entry_in env query =
        entry_is below around picks env seen.environment seen.few query fits.0 in
        body_answers rest picks env seen fits.1
        (with_contents now (without_entry now.contents (entry_by (scene_of env) query))) outcome left
        (subst (λ e. BodyRuns rest env (without_entry now.contents e) now.left outcome left) (sym entry) runs)
    body_answers (Emit port changes rest) picks env seen fits now outcome left puts =
        let packet : ℕ = packet_by (scene_of env) changes in
        let same : puts.packet ≡ packet =
        changed_once once env changes puts.packet packet seen.environment.headers puts.changed
        (packet_is below around picks env seen.environment changes fits.1) in
        body_answers rest picks env seen fits.3 (put_out now port packet) puts.last left puts.second
        ∙ sym (answer_after now.outputs (record { port = port; packet = packet } ∷ []) puts.last left)
        ∙ ap (λ (p : ℕ). answer_of now.outputs
        (after_outputs (record { port = port; packet = p } ∷ []) puts.last) left) (sym same)
        ∙ ap (λ o. answer_of now.outputs o left) (sym puts.ends)
    body_answers (Halt rest) picks env seen fits now outcome left runs =
        ap Aborts (sym runs.1) ∙ ap (λ o. answer_of now.outputs o left) (sym runs.0)
    body_answers (Fork branches rest) picks env seen fits now outcome left (inl (none, runs)) =
        ap (λ b. then_by (at_fork b (run_branch branches (scene_of env)) now) (run rest (scene_of env)))
        (none_held picks env seen now.contents branches fits.0 none)
        ∙ body_answers rest picks env seen fits.1 now outcome left runs
    body_answers (Fork branches rest) picks env seen fits now outcome left (inr uses) =
        ap (λ b. then_by (at_fork b (run_branch branches (scene_of env)) now) (run rest (scene_of env)))
        (not_false (any_holds (scene_of env) now.contents branches) (λ e.
        not_chosen branches env (BodyRuns rest env) now.contents now.left outcome left
        (none_true picks env seen now.contents branches fits.0 e) uses))
        ∙ choice_answers (BranchRuns branches env) (run_branch branches (scene_of env)) (BodyRuns rest env)
        (run rest (scene_of env)) now outcome left
        (λ choice whole. branch_answers branches picks env seen fits.0 choice whole)
        (body_answers rest picks env seen fits.1) uses
    body_answers (Each values body rest) picks env seen fits now outcome left uses =
        choice_answers (Block body env values)
        (value_block values (λ value. run body (scene_of (with_pick env value)))) (BodyRuns rest env)
        (run rest (scene_of env)) now outcome left
        (λ value whole at o l runs.
        where_held (nat_lt value values) whole (run body (scene_of (with_pick env value)) at)
        (lt-ltb value values runs.0)
        ∙ body_answers body (picks ++ values ∷ []) (with_pick env value)
        (pick_seen picks env values value seen runs.0) fits.1 at o l runs.1)
        (body_answers rest picks env seen fits.2) uses

    pub branch_answers : (branches : Branches) (picks : List ℕ) (env : Environment) → IsSeen picks env →
        BranchesFit around branches picks → (choice : ℕ) (whole : List ℕ) →
        Answers (BranchRuns branches env choice) (run_branch branches (scene_of env) choice whole)
    branch_answers NoBranch picks env seen fits choice whole now outcome left runs = absurd runs
    branch_answers (OneBranch guard body more) picks env seen fits zero whole now outcome left runs =
        where_held (holds_by (scene_of env) now.contents guard) whole (run body (scene_of env) now)
        (is_true (IsSatisfied env now.contents guard) (holds_by (scene_of env) now.contents guard)
        (guard_tells picks env seen now.contents guard fits.0)
        runs.0)
        ∙ body_answers body picks env seen fits.1 now outcome left runs.1
    branch_answers (OneBranch guard body more) picks env seen fits (suc choice) whole now outcome left runs =
        branch_answers more picks env seen fits.2 choice whole now outcome left runs
