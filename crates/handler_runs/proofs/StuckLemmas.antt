-- Where a run is stuck: what was used begins an execution, and with the next choice it begins none.
use Rattle.std.proofs.Common.{◌≡◌, ℕ, zero, suc, ◌<◌, Bool, true, false, List, [], ◌∷◌, ◌++◌, ◌⊎◌, inl, inr, refl, sym}
use Rattle.std.proofs.Common.{ap}
use Rattle.std.proofs.Common.{subst, ◌∙◌, append_assoc, nat_lt}
use Rattle.std.proofs.lemmas.Bool.{ltb-true, lt-ltb}
use Rattle.header_set.specs.Laws.{FieldsAreBelowSizes, FieldsDeterminePacket, FieldsAreFree}
use Rattle.box_contents.specs.declared.entry.Entry.{Entry}
use Rattle.box_contents.specs.Contents.{with_entry, without_entry}
use Rattle.box_contents.specs.Laws.{HeldIsMember, WithKeepsRising, WithoutKeepsRising}
use Rattle.box_handlers.specs.declared.act.Change.{Change}
use Rattle.box_handlers.specs.Body.{Body, Stop, Writes, Emit, Halt, Fork, Each, Branches, NoBranch, OneBranch}
use Rattle.box_handlers.specs.Fits.{Surroundings, Fits, BranchesFit}
use Rattle.box_executions.specs.Environment.{Environment, entry_in, with_pick, IsChanged}
use Rattle.box_executions.specs.Guard.{IsSatisfied}
use Rattle.box_executions.specs.Execution.{Outcome, Done, Aborted, Emission, Behaviour, after_outputs, InSequence}
use Rattle.box_executions.specs.Execution.{UsesChoice, NoGuardIsTrue, BodyRuns, BranchRuns}
use Rattle.box_executions.specs.Shape.{AreContents}
use Rattle.box_executions.proofs.OnceLemmas.{Once, body_once, branch_once, not_chosen}
use Rattle.box_executions.proofs.RangeLemmas.{entry_is_tuple}
use Rattle.box_executions.proofs.KeepLemmas.{Keeps, branches_keep, with_fits, without_fits}
use Rattle.box_executions.proofs.FrontLemmas.{Fronts, body_front, branch_front}
use Rattle.box_executions.proofs.ExistLemmas.{From, Total, body_total, block_keeps}
use Rattle.handler_runs.specs.Reading.{scene_of, entry_by, packet_by, holds_by, any_holds}
use Rattle.handler_runs.specs.Run.{Standing, Answer, Goes, Aborts, Stuck, then_by, with_contents, with_left, put_out}
use Rattle.handler_runs.specs.Run.{by_choice, where_true, at_fork, value_block, run, run_branch}
use Rattle.handler_runs.proofs.NumberLemmas.{entry_is, packet_is}
use Rattle.handler_runs.proofs.RunLemmas.{Tells, Matches, IsSeen, guard_tells, none_true, none_held, pick_seen}
use Rattle.handler_runs.proofs.RunLemmas.{body_matches, branch_matches, where_matches, matches_by}

-- the first of the choices is the same, or both have none
abbrev pub SameHead : List ℕ → List ℕ → Type 0
SameHead [] other = other ≡ []
SameHead (choice ∷ left) other = (more : List ℕ) × (other ≡ choice ∷ more)

pub record StuckAt (runs : Behaviour) (now : Standing) (left : List ℕ) : Type 0 where
  -- what was used, and what could follow
  pub used : List ℕ
  pub stood : now.left ≡ used ++ left
  pub more : List ℕ
  pub outcome : Outcome
  pub begins : (rest : List ℕ) → runs now.contents (used ++ (more ++ rest)) outcome rest
  -- the next choice can't
  pub none : (other : List ℕ) → SameHead left other → (last : Outcome) (rest : List ℕ) →
      runs now.contents (used ++ other) last rest → ⊥

goes_on : (now : Standing) (left : List ℕ) → Goes now ≡ Stuck left → ⊥
goes_on now left e = cc

aborts : (one two : List ℕ) → Aborts one ≡ Stuck two → ⊥
aborts one two e = cc

same_left : (one two : List ℕ) → Stuck one ≡ Stuck two → one ≡ two
same_left one two e = cc

not_done : (contents : List Entry) (outputs : List Emission) → Aborted ≡ Done contents outputs → ⊥
not_done contents outputs e = cc

same_contents : (one two : List Entry) (first second : List Emission) → Done one first ≡ Done two second → one ≡ two
same_contents one two first second e = cc

no_choices : (choice : ℕ) (others : List ℕ) → [] ≡ choice ∷ others → ⊥
no_choices choice others e = cc

same_choice : (one two : ℕ) (others more : List ℕ) → one ∷ others ≡ two ∷ more → one ≡ two
same_choice one two others more e = cc

same_others : (one two : ℕ) (others more : List ℕ) → one ∷ others ≡ two ∷ more → others ≡ more
same_others one two others more e = cc

stuck_by : (one two : Behaviour) (before now : Standing) (left : List ℕ) → before.left ≡ now.left →
    ((c : List ℕ) (o : Outcome) (l : List ℕ) → one before.contents c o l → two now.contents c o l) →
    ((c : List ℕ) (o : Outcome) (l : List ℕ) → two now.contents c o l → one before.contents c o l) →
    StuckAt one before left → StuckAt two now left
stuck_by one two before now left same forth back stuck = record {
  used = stuck.used;
  stood = sym same ∙ stuck.stood;
  more = stuck.more;
  outcome = stuck.outcome;
  begins = λ rest. forth (stuck.used ++ (stuck.more ++ rest)) stuck.outcome rest (stuck.begins rest);
  none = λ other head last rest runs. stuck.none other head last rest (back (stuck.used ++ other) last rest runs);
}

-- the choice is refused before the block, or the block is stuck itself
abbrev pub Refused : Behaviour → List ℕ → Standing → Answer → Type 0
Refused block whole now answer =
    (answer ≡ Stuck whole)
    × ((c : List ℕ) (o : Outcome) (l : List ℕ) → block now.contents c o l → ⊥)

abbrev pub StuckWhere : Behaviour → Standing → Answer → Type 0
StuckWhere block now answer = (left : List ℕ) → answer ≡ Stuck left → StuckAt block now left

pub record IsPiece (ports : ℕ) (headers : List ℕ) (relations : List (List ℕ)) (block : Behaviour) (whole : List ℕ)
    (answer : Standing → Answer) : Type 0 where
  pub keeps : Keeps ports headers relations block
  pub fronts : Fronts block
  pub once : Once block
  pub matches : (now : Standing) → Matches block now (answer now)
  pub stuck : (now : Standing) → AreContents relations now.contents →
      Refused block whole now (answer now) ⊎ StuckWhere block now (answer now)

-- one after the other
module _ (ports : ℕ) (headers : List ℕ) (relations : List (List ℕ)) (block rest : Behaviour) (now : Standing)
    (are : AreContents relations now.contents) (keeps : Keeps ports headers relations block)
    (total : Total relations rest)
  where
    first_stuck : (left : List ℕ) (stuck : StuckAt block now left) (outcome : Outcome) → stuck.outcome ≡ outcome →
        StuckAt (InSequence block rest) now left
    first_stuck left stuck Aborted is = record {
      used = stuck.used;
      stood = stuck.stood;
      more = stuck.more;
      outcome = Aborted;
      begins = λ end. inl
          (subst (λ o. block now.contents (stuck.used ++ (stuck.more ++ end)) o end) is (stuck.begins end), refl);
      none = λ other head last end runs. elim runs [
        | inl aborted ↦ stuck.none other head Aborted end aborted.0
        | inr goes ↦ stuck.none other head (Done goes.mid goes.outputs) goes.unused goes.first
      ];
    }
    first_stuck left stuck (Done mid outputs) is =
        let begun : (end : List ℕ) → block now.contents (stuck.used ++ (stuck.more ++ end)) (Done mid outputs) end =
        λ (end : List ℕ). subst (λ o. block now.contents (stuck.used ++ (stuck.more ++ end)) o end) is
        (stuck.begins end) in
        let kept = keeps now.contents (stuck.used ++ (stuck.more ++ [])) [] (Done mid outputs) are (begun []) in
        let second = total mid kept.0 in
        record {
          used = stuck.used;
          stood = stuck.stood;
          more = stuck.more ++ second.0;
          outcome = after_outputs outputs second.1;
          begins = λ end. inr record {
            mid = mid;
            outputs = outputs;
            unused = second.0 ++ end;
            last = second.1;
            first = subst (λ c. block now.contents c (Done mid outputs) (second.0 ++ end))
                (ap (λ (l : List ℕ). stuck.used ++ l) (sym (append_assoc stuck.more second.0 end)))
                (begun (second.0 ++ end));
            second = second.2 end;
            ends = refl;
          };
          none = λ other head last end runs. elim runs [
            | inl aborted ↦ stuck.none other head Aborted end aborted.0
            | inr goes ↦ stuck.none other head (Done goes.mid goes.outputs) goes.unused goes.first
          ];
        }

    module _ (fronts : Fronts block) (once : Once block) where
      second_stuck : (left : List ℕ) (mid : Standing) (outputs : List Emission) →
          block now.contents now.left (Done mid.contents outputs) mid.left → StuckAt rest mid left →
          StuckAt (InSequence block rest) now left
      second_stuck left mid outputs runs stuck =
          let front = fronts now.contents now.left mid.left (Done mid.contents outputs) runs in
          let moved : (other : List ℕ) →
          block now.contents ((front.used ++ stuck.used) ++ other) (Done mid.contents outputs) (stuck.used ++ other) =
          λ (other : List ℕ). subst (λ c. block now.contents c (Done mid.contents outputs) (stuck.used ++ other))
          (sym (append_assoc front.used stuck.used other)) (front.others (stuck.used ++ other)) in
          record {
            used = front.used ++ stuck.used;
            stood = front.stood ∙ ap (λ (l : List ℕ). front.used ++ l) stuck.stood
                ∙ sym (append_assoc front.used stuck.used left);
            more = stuck.more;
            outcome = after_outputs outputs stuck.outcome;
            begins = λ end. inr record {
              mid = mid.contents;
              outputs = outputs;
              unused = stuck.used ++ (stuck.more ++ end);
              last = stuck.outcome;
              first = moved (stuck.more ++ end);
              second = stuck.begins end;
              ends = refl;
            };
            none = λ other head last end seq. elim seq [
              | inl aborted ↦ not_done mid.contents outputs
                  (once now.contents ((front.used ++ stuck.used) ++ other) end (stuck.used ++ other) Aborted
                  (Done mid.contents outputs) aborted.0 (moved other)).0
              | inr goes ↦
                  let same =
                  once now.contents ((front.used ++ stuck.used) ++ other) goes.unused (stuck.used ++ other)
                  (Done goes.mid goes.outputs) (Done mid.contents outputs) goes.first (moved other) in
                  stuck.none other head goes.last end
                  (subst (λ (s : List Entry). rest s (stuck.used ++ other) goes.last end)
                  (same_contents goes.mid mid.contents goes.outputs outputs same.0)
                  (subst (λ (l : List ℕ). rest goes.mid l goes.last end) same.1 goes.second))
            ];
          }

      sequence_stuck : (answer : Answer) (others : Standing → Answer) (left : List ℕ) → Matches block now answer →
          StuckWhere block now answer →
          ((mid : Standing) → AreContents relations mid.contents → StuckWhere rest mid (others mid)) →
          then_by answer others ≡ Stuck left → StuckAt (InSequence block rest) now left
      sequence_stuck (Goes mid) others left (outputs, is, runs) first later e =
          let kept = keeps now.contents now.left mid.left (Done mid.contents outputs) are runs in
          second_stuck left mid outputs runs (later mid kept.0 left e)
      sequence_stuck (Aborts end) others left runs first later e = absurd (aborts end left e)
      sequence_stuck (Stuck end) others left runs first later e =
          let stuck = first left e in first_stuck left stuck stuck.outcome refl

-- by a choice
module _ (ports : ℕ) (headers : List ℕ) (relations : List (List ℕ)) (block : ℕ → Behaviour)
    (runs : ℕ → List ℕ → Standing → Answer) (rest : Behaviour) (others : Standing → Answer)
    (pieces : (choice : ℕ) (whole : List ℕ) → IsPiece ports headers relations (block choice) whole (runs choice whole))
    (total : Total relations rest)
    (later : (mid : Standing) → AreContents relations mid.contents → StuckWhere rest mid (others mid))
    (now : Standing) (are : AreContents relations now.contents) (from : From (UsesChoice block rest) now.contents) where
  none_left : now.left ≡ [] → StuckAt (UsesChoice block rest) now []
  none_left is = record {
    used = [];
    stood = is;
    more = from.0;
    outcome = from.1;
    begins = from.2;
    none = λ other head last end uses. no_choices uses.choice uses.others (sym head ∙ uses.next);
  }

  refused : (choice : ℕ) (more : List ℕ) → now.left ≡ choice ∷ more →
      ((c : List ℕ) (o : Outcome) (l : List ℕ) → block choice now.contents c o l → ⊥) →
      StuckAt (UsesChoice block rest) now (choice ∷ more)
  refused choice more is none = record {
    used = [];
    stood = is;
    more = from.0;
    outcome = from.1;
    begins = from.2;
    none = λ other head last end uses.
        let same : choice ≡ uses.choice =
        same_choice choice uses.choice head.0 uses.others (sym head.1 ∙ uses.next) in
        elim uses.runs [
          | inl aborted ↦ none uses.others Aborted end
              (subst (λ (k : ℕ). block k now.contents uses.others Aborted end) (sym same) aborted.0)
          | inr goes ↦ none uses.others (Done goes.mid goes.outputs) goes.unused
              (subst (λ (k : ℕ). block k now.contents uses.others (Done goes.mid goes.outputs) goes.unused) (sym same)
              goes.first)
        ];
  }

  inside : (choice : ℕ) (more left : List ℕ) → now.left ≡ choice ∷ more →
      StuckAt (InSequence (block choice) rest) (with_left now more) left → StuckAt (UsesChoice block rest) now left
  inside choice more left is stuck = record {
    used = choice ∷ stuck.used;
    stood = is ∙ ap (λ (l : List ℕ). choice ∷ l) stuck.stood;
    more = stuck.more;
    outcome = stuck.outcome;
    begins = λ end. record
        { choice = choice; others = stuck.used ++ (stuck.more ++ end); next = refl; runs = stuck.begins end };
    none = λ other head last end uses.
        let same : choice ≡ uses.choice =
        same_choice choice uses.choice (stuck.used ++ other) uses.others uses.next in
        let behind : stuck.used ++ other ≡ uses.others =
        same_others choice uses.choice (stuck.used ++ other) uses.others uses.next in
        stuck.none other head last end
        (subst (λ (l : List ℕ). InSequence (block choice) rest now.contents l last end) (sym behind)
        (subst (λ (k : ℕ). InSequence (block k) rest now.contents uses.others last end) (sym same) uses.runs));
  }

  choice_stuck : (choices : List ℕ) → now.left ≡ choices → (left : List ℕ) →
      then_by (by_choice runs now choices) others ≡ Stuck left → StuckAt (UsesChoice block rest) now left
  choice_stuck [] is left e = subst (λ l. StuckAt (UsesChoice block rest) now l) (same_left [] left e) (none_left is)
  choice_stuck (choice ∷ more) is left e =
      let piece = pieces choice (choice ∷ more) in
      let at : Standing = with_left now more in
      elim (piece.stuck at are) [
        | inl known ↦ subst (λ l. StuckAt (UsesChoice block rest) now l)
            (same_left (choice ∷ more) left (sym (ap (λ a. then_by a others) known.0) ∙ e))
            (refused choice more is known.1)
        | inr known ↦ inside choice more left is
            (sequence_stuck ports headers relations (block choice) rest at are piece.keeps total piece.fronts
            piece.once (runs choice (choice ∷ more) at) others left (piece.matches at) known later e)
      ]

where_stuck : (P : Type 0) (b : Bool) (block inner : Behaviour) (whole : List ℕ) (now : Standing) (answer : Answer) →
    Tells b P → ((c : List ℕ) (o : Outcome) (l : List ℕ) → block now.contents c o l → P × inner now.contents c o l) →
    (P → (c : List ℕ) (o : Outcome) (l : List ℕ) → inner now.contents c o l → block now.contents c o l) →
    (P → StuckWhere inner now answer) →
    Refused block whole now (where_true b whole answer) ⊎ StuckWhere block now (where_true b whole answer)
where_stuck P true block inner whole now answer tells back forth known =
    inr (λ left e. stuck_by inner block now now left refl (forth tells) (λ c o l runs. (back c o l runs).1)
    (known tells left e))
where_stuck P false block inner whole now answer tells back forth known =
    inl (refl, λ c o l runs. tells (back c o l runs).0)

module _ (below : FieldsAreBelowSizes) (once : FieldsDeterminePacket) (free : FieldsAreFree) (held : HeldIsMember)
    (with_rising : WithKeepsRising) (without_rising : WithoutKeepsRising) (around : Surroundings) where
  abbrev Seen : List ℕ → Environment → Type 0
  Seen picks env = IsSeen below once held around picks env

  abbrev Block : Body → Environment → ℕ → ℕ → Behaviour
  Block body env values value contents choices outcome left =
      (value < values) × BodyRuns body (with_pick env value) contents choices outcome left

  tells_less : (m n : ℕ) → Tells (nat_lt m n) (m < n)
  tells_less m n = by (nat_lt m n) (ltb-true m n) (lt-ltb m n)
    where
      by : (b : Bool) → (b ≡ true → m < n) → (m < n → b ≡ true) → Tells b (m < n)
      by true forth back = forth refl
      by false forth back = λ p. absurd (let wrong : ◌≡◌ {A = Bool} false true = back p in cc)

  put_stuck : (env : Environment) (port : ℕ) (changes : List Change) (rest : Body) (now : Standing) (packet : ℕ)
      (left : List ℕ) → IsChanged env changes packet → StuckAt (BodyRuns rest env) (put_out now port packet) left →
      StuckAt (BodyRuns (Emit port changes rest) env) now left
  put_stuck env port changes rest now packet left changed stuck = record {
    used = stuck.used;
    stood = stuck.stood;
    more = stuck.more;
    outcome = after_outputs (record { port = port; packet = packet } ∷ []) stuck.outcome;
    begins = λ end. record
        { packet = packet; changed = changed; last = stuck.outcome; second = stuck.begins end; ends = refl };
    none = λ other head last end puts. stuck.none other head puts.last end puts.second;
  }

  -- some guard is true, so that an execution begins with a choice
  with_choice : (picks : List ℕ) (env : Environment) → Seen picks env → (branches : Branches) (rest : Body)
      (contents : List Entry) → BranchesFit around branches picks → any_holds (scene_of env) contents branches ≡ true →
      From (BodyRuns (Fork branches rest) env) contents →
      From (UsesChoice (BranchRuns branches env) (BodyRuns rest env)) contents
  with_choice picks env seen branches rest contents fits opened (used, outcome, runs) = (
    used,
    outcome,
    λ left. elim (runs left) [
      | inl none ↦ absurd (let shut : any_holds (scene_of env) contents branches ≡ false =
          none_held below once held around picks env seen contents branches fits none.0 in cc)
      | inr uses ↦ uses
    ],
  )

  fork_stuck : (picks : List ℕ) (env : Environment) → Seen picks env → (branches : Branches) (rest : Body) →
      BranchesFit around branches picks → Fits around rest picks → (now : Standing) →
      AreContents env.relations now.contents →
      ((choice : ℕ) (whole : List ℕ) → IsPiece around.ports env.headers env.relations (BranchRuns branches env choice)
      whole (run_branch branches (scene_of env) choice whole)) →
      ((mid : Standing) → AreContents env.relations mid.contents →
      StuckWhere (BodyRuns rest env) mid (run rest (scene_of env) mid)) →
      (b : Bool) → any_holds (scene_of env) now.contents branches ≡ b → (left : List ℕ) →
      then_by (at_fork b (run_branch branches (scene_of env)) now) (run rest (scene_of env)) ≡ Stuck left →
      StuckAt (BodyRuns (Fork branches rest) env) now left
  fork_stuck picks env seen branches rest fits rest_fits now are pieces later true is left e =
      stuck_by (UsesChoice (BranchRuns branches env) (BodyRuns rest env)) (BodyRuns (Fork branches rest) env) now now
      left refl (λ c o l uses. inr uses)
      (λ c o l runs. elim runs [
        | inl none ↦ absurd (let shut : any_holds (scene_of env) now.contents branches ≡ false =
            none_held below once held around picks env seen now.contents branches fits none.0 in cc)
        | inr uses ↦ uses
      ])
      (choice_stuck around.ports env.headers env.relations (BranchRuns branches env)
      (run_branch branches (scene_of env)) (BodyRuns rest env) (run rest (scene_of env)) pieces
      (body_total below free held with_rising without_rising around rest env picks seen.environment rest_fits) later
      now are
      (with_choice picks env seen branches rest now.contents fits is
      (body_total below free held with_rising without_rising around (Fork branches rest) env picks seen.environment
      (fits, rest_fits) now.contents are)) now.left refl left e)
  fork_stuck picks env seen branches rest fits rest_fits now are pieces later false is left e =
      let none : NoGuardIsTrue env now.contents branches =
      none_true below once held around picks env seen now.contents branches fits is in
      stuck_by (BodyRuns rest env) (BodyRuns (Fork branches rest) env) now now left refl
      (λ c o l runs. inl (none, runs))
      (λ c o l runs. elim runs [
        | inl shut ↦ shut.1
        | inr uses ↦ absurd (not_chosen branches env (BodyRuns rest env) now.contents c o l none uses)
      ])
      (later now are left e)

  mutual
    pub body_stuck : (body : Body) (picks : List ℕ) (env : Environment) → Seen picks env → Fits around body picks →
        (now : Standing) → AreContents env.relations now.contents →
        StuckWhere (BodyRuns body env) now (run body (scene_of env) now)
    body_stuck Stop picks env seen fits now are left e = absurd (goes_on now left e)
    body_stuck (Writes query true rest) picks env seen fits now are left e =
        let entry : entry_by (scene_of env) query ≡ entry_in env query =
        entry_is below around picks env seen.environment seen.few query fits.0 in
        let contents : List Entry = with_entry now.contents (entry_by (scene_of env) query) in
        let kept : AreContents env.relations contents =
        subst (λ t. AreContents env.relations (with_entry now.contents t)) (sym entry)
        (with_fits below with_rising without_rising around env.relations now.contents (entry_in env query) are
        (entry_is_tuple below around picks env seen.environment query fits.0)) in
        stuck_by (BodyRuns rest env) (BodyRuns (Writes query true rest) env) (with_contents now contents) now left refl
        (λ c o l runs. subst (λ t. BodyRuns rest env (with_entry now.contents t) c o l) entry runs)
        (λ c o l runs. subst (λ t. BodyRuns rest env (with_entry now.contents t) c o l) (sym entry) runs)
        (body_stuck rest picks env seen fits.1 (with_contents now contents) kept left e)
    body_stuck (Writes query false rest) picks env seen fits now are left e =
        let entry : entry_by (scene_of env) query ≡ entry_in env query =
        entry_is below around picks env seen.environment seen.few query fits.0 in
        let contents : List Entry = without_entry now.contents (entry_by (scene_of env) query) in
        let kept : AreContents env.relations contents =
        without_fits below with_rising without_rising around env.relations now.contents
        (entry_by (scene_of env) query) are in
        stuck_by (BodyRuns rest env) (BodyRuns (Writes query false rest) env) (with_contents now contents) now left refl
        (λ c o l runs. subst (λ t. BodyRuns rest env (without_entry now.contents t) c o l) entry runs)
        (λ c o l runs. subst (λ t. BodyRuns rest env (without_entry now.contents t) c o l) (sym entry) runs)
        (body_stuck rest picks env seen fits.1 (with_contents now contents) kept left e)
    body_stuck (Emit port changes rest) picks env seen fits now are left e =
        let packet : ℕ = packet_by (scene_of env) changes in
        put_stuck env port changes rest now packet left
        (packet_is below around picks env seen.environment changes fits.1)
        (body_stuck rest picks env seen fits.3 (put_out now port packet) are left e)
    body_stuck (Halt rest) picks env seen fits now are left e = absurd (aborts now.left left e)
    body_stuck (Fork branches rest) picks env seen fits now are left e =
        fork_stuck picks env seen branches rest fits.0 fits.1 now are
        (λ choice whole. record {
          keeps = branches_keep below with_rising without_rising around branches env picks seen.environment fits.0
              choice;
          fronts = branch_front branches env choice;
          once = branch_once once branches env seen.environment.headers choice;
          matches = λ at. branch_matches below once held around branches picks env seen fits.0 choice whole at;
          stuck = λ at kept. branch_stuck branches picks env seen fits.0 choice whole at kept;
        })
        (λ mid kept. body_stuck rest picks env seen fits.1 mid kept)
        (any_holds (scene_of env) now.contents branches) refl left e
    body_stuck (Each values body rest) picks env seen fits now are left e =
        choice_stuck around.ports env.headers env.relations (Block body env values)
        (value_block values (λ value. run body (scene_of (with_pick env value)))) (BodyRuns rest env)
        (run rest (scene_of env))
        (λ value whole. record {
          keeps = block_keeps below free held with_rising without_rising around body env picks values value
              seen.environment fits.1;
          fronts = λ s c l o x.
              let front = body_front body (with_pick env value) s c l o x.1 in
              record { used = front.used; stood = front.stood; others = λ other. (x.0, front.others other) };
          once = λ s c l m o p x y.
              body_once once body (with_pick env value) seen.environment.headers s c l m o p x.1 y.1;
          matches = λ at. where_matches (nat_lt value values) whole (Block body env values value) at
              (run body (scene_of (with_pick env value)) at)
              (λ e.
              let less : value < values = ltb-true value values e in
              matches_by (BodyRuns body (with_pick env value)) (Block body env values value) at at
              (run body (scene_of (with_pick env value)) at) refl (λ outcome left runs. (less, runs))
              (body_matches below once held around body (picks ++ values ∷ []) (with_pick env value)
              (pick_seen below once held around picks env values value seen less) fits.1 at));
          stuck = λ at kept. where_stuck (value < values) (nat_lt value values) (Block body env values value)
              (BodyRuns body (with_pick env value)) whole at (run body (scene_of (with_pick env value)) at)
              (tells_less value values) (λ c o l runs. runs) (λ less c o l runs. (less, runs))
              (λ less. body_stuck body (picks ++ values ∷ []) (with_pick env value)
              (pick_seen below once held around picks env values value seen less) fits.1 at kept);
        })
        (body_total below free held with_rising without_rising around rest env picks seen.environment fits.2)
        (λ mid kept. body_stuck rest picks env seen fits.2 mid kept) now are
        (body_total below free held with_rising without_rising around (Each values body rest) env picks
        seen.environment fits now.contents are) now.left refl left e

    branch_stuck : (branches : Branches) (picks : List ℕ) (env : Environment) → Seen picks env →
        BranchesFit around branches picks → (choice : ℕ) (whole : List ℕ) (now : Standing) →
        AreContents env.relations now.contents →
        Refused (BranchRuns branches env choice) whole now (run_branch branches (scene_of env) choice whole now)
        ⊎ StuckWhere (BranchRuns branches env choice) now (run_branch branches (scene_of env) choice whole now)
    branch_stuck NoBranch picks env seen fits choice whole now are = inl (refl, λ c o l runs. runs)
    branch_stuck (OneBranch guard body more) picks env seen fits zero whole now are =
        where_stuck (IsSatisfied env now.contents guard) (holds_by (scene_of env) now.contents guard)
        (BranchRuns (OneBranch guard body more) env zero) (BodyRuns body env) whole now (run body (scene_of env) now)
        (guard_tells below once held around picks env seen now.contents guard fits.0) (λ c o l runs. runs)
        (λ true' c o l runs. (true', runs))
        (λ true'. body_stuck body picks env seen fits.1 now are)
    branch_stuck (OneBranch guard body more) picks env seen fits (suc choice) whole now are =
        elim (branch_stuck more picks env seen fits.2 choice whole now are) [
          | inl known ↦ inl (known.0, λ c o l runs. known.1 c o l runs)
          | inr known ↦ inr (λ left e. stuck_by (BranchRuns more env choice)
              (BranchRuns (OneBranch guard body more) env (suc choice)) now now left refl (λ c o l runs. runs)
              (λ c o l runs. runs) (known left e))
        ]
