-- What the end of a run says of the choices.
use Rattle.std.proofs.Common.{◌≡◌, ◌≢◌, ℕ, zero, suc, ◌+◌, ◌-◌, ◌<◌, ◌≤◌, List, [], ◌∷◌, ◌++◌, ◌⊎◌, inl, inr, refl, sym}
use Rattle.std.proofs.Common.{ap}
use Rattle.std.proofs.Common.{subst, ◌∙◌, append_assoc, append-nil, length, length-append, take, drop, take-append-drop}
use Rattle.std.proofs.Common.{arith}
use Rattle.std.specs.Prelude.{MatchResult, Result}
use Rattle.std.proofs.Math.Seq.{take-append_seam, take-append-add, take-length}
use Rattle.std.proofs.lemmas.Result.{MatchResult-weaker}
use Rattle.header_set.specs.Headers.{IsHeaders}
use Rattle.header_set.specs.Laws.{FieldsAreBelowSizes, FieldsDeterminePacket, FieldsAreFree}
use Rattle.box_contents.specs.declared.entry.Entry.{Entry}
use Rattle.box_contents.specs.Laws.{HeldIsMember, WithKeepsRising, WithoutKeepsRising}
use Rattle.box_handlers.specs.declared.act.Act.{Act}
use Rattle.box_handlers.specs.Body.{body_of}
use Rattle.box_executions.specs.Environment.{Environment}
use Rattle.box_executions.specs.Execution.{Outcome, Done, Aborted, BodyRuns, Executes}
use Rattle.box_executions.proofs.OnceLemmas.{body_once}
use Rattle.box_executions.proofs.FrontLemmas.{body_front}
use Rattle.handler_runs.specs.declared.progress.Course.{Course}
use Rattle.handler_runs.specs.declared.progress.Course.TheVariants as course
use Rattle.handler_runs.specs.declared.handling.Ending.{Ending}
use Rattle.handler_runs.specs.declared.handling.ExecuteRefusal.{ExecuteRefusal}
use Rattle.handler_runs.specs.declared.handling.ExecuteRefusal.TheVariants.{BadChoice, NoMemory}
use Rattle.handler_runs.specs.Code.{course_is}
use Rattle.handler_runs.specs.Reading.{scene_of}
use Rattle.handler_runs.specs.Run.{Standing, Answer, Goes, Aborts, Stuck, run}
use Rattle.handler_runs.specs.Executing.{IsExecutable, outcome_of, Begins, IsFirstBad, IsRefused, start, answer_at_end}
use Rattle.handler_runs.specs.Executing.{IsBadEnd}
use Rattle.handler_runs.proofs.RunLemmas.{Matches, IsSeen, body_matches}
use Rattle.handler_runs.proofs.StuckLemmas.{SameHead, body_stuck}

no_more : (choice : ℕ) (more : List ℕ) → [] ≡ choice ∷ more → ⊥
no_more choice more e = cc

-- what was used begins an execution, and with the next of the choices that are left it begins none
record EndsAt (env : Environment) (handler : List Act) (contents : List Entry) (choices left : List ℕ) : Type 0 where
  used : List ℕ
  stood : choices ≡ used ++ left
  begun : Begins env handler contents used
  none : (other : List ℕ) → SameHead left other → (outcome : Outcome) →
      Executes env handler contents (used ++ other) outcome → ⊥

module _ (env : Environment) (handler : List Act) (contents : List Entry) (choices : List ℕ) where
  first_bad : (left : List ℕ) → EndsAt env handler contents choices left →
      IsFirstBad env handler contents choices (length choices - length left)
  first_bad left at = subst (IsFirstBad env handler contents choices) number (record {
    begun = subst (Begins env handler contents) (sym front) at.begun;
    ends = by left at.stood at.none;
  })
    where
      whole : length choices ≡ length at.used + length left
      whole = ap length at.stood ∙ length-append at.used left

      number : length at.used ≡ length choices - length left
      number = omega (arith, whole)

      front : take (length at.used) choices ≡ at.used
      front = ap (take (length at.used)) at.stood ∙ take-append_seam at.used left

      by : (left : List ℕ) → choices ≡ at.used ++ left →
          ((other : List ℕ) → SameHead left other → (outcome : Outcome) →
          Executes env handler contents (at.used ++ other) outcome → ⊥) →
          ((length at.used < length choices) × (Begins env handler contents (take (length at.used + 1) choices) → ⊥))
          ⊎ ((length at.used ≡ length choices)
          × ((outcome : Outcome) → Executes env handler contents choices outcome → ⊥))
      by [] stood none =
          let long : length choices ≡ length at.used + 0 = ap length stood ∙ length-append at.used [] in
          inr (
            omega (arith, long),
            λ outcome runs. none [] refl outcome
                (subst (λ c. Executes env handler contents c outcome) stood runs),
          )
      by (choice ∷ left) stood none =
          let long : length choices ≡ length at.used + length (choice ∷ left) =
          ap length stood ∙ length-append at.used (choice ∷ left) in
          let taken : take (length at.used + 1) choices ≡ at.used ++ choice ∷ [] =
          ap (take (length at.used + 1)) stood ∙ take-append-add at.used (choice ∷ left) 1 in
          inl (
            omega (arith, long),
            λ begins.
                none (choice ∷ begins.0) (begins.0, refl) begins.1
                (subst (λ c. Executes env handler contents c begins.1)
                (ap (λ (l : List ℕ). l ++ begins.0) taken ∙ append_assoc at.used (choice ∷ []) begins.0) begins.2),
          )

  -- the first ones of choices that begin an execution begin one
  shorter : (i j : ℕ) → i ≤ j → Begins env handler contents (take j choices) →
      Begins env handler contents (take i choices)
  shorter i j less begins =
      let front : take i (take j choices) ≡ take i choices = taken i j choices less in
      let whole : take i choices ++ drop i (take j choices) ≡ take j choices =
      ap (λ (l : List ℕ). l ++ drop i (take j choices)) (sym front) ∙ take-append-drop i (take j choices) in (
        drop i (take j choices) ++ begins.0,
        begins.1,
        subst (λ c. Executes env handler contents c begins.1)
            (sym (ap (λ (l : List ℕ). l ++ begins.0) whole)
            ∙ append_assoc (take i choices) (drop i (take j choices)) begins.0)
            begins.2,
      )
    where
      taken : (i j : ℕ) (xs : List ℕ) → i ≤ j → take i (take j xs) ≡ take i xs
      taken zero j xs less = refl
      taken (suc i) zero xs less = absurd (omega (arith, less))
      taken (suc i) (suc j) [] less = refl
      taken (suc i) (suc j) (x ∷ xs) less = ap (λ (l : List ℕ). x ∷ l) (taken i j xs (omega (arith, less)))

  within : (k : ℕ) → IsFirstBad env handler contents choices k → k ≤ length choices
  within k bad = elim bad.ends [ inl before ↦ omega (arith, before.0) | inr last ↦ omega (arith, last.0) ]

  not_later : (k l : ℕ) → IsFirstBad env handler contents choices k → IsFirstBad env handler contents choices l → k <
      l → ⊥
  not_later k l one two less = elim one.ends [
    | inl before ↦ before.1 (shorter (k + 1) l (omega (arith, less)) two.begun)
    | inr last ↦ absurd (omega (arith, last.0, less, within l two))
  ]

  pub one_bad : (k l : ℕ) → IsFirstBad env handler contents choices k → IsFirstBad env handler contents choices l → k
      ≡ l
  one_bad k l one two = by (lt_or k l)
    where
      lt_or : (k l : ℕ) → (k < l) ⊎ ((l < k) ⊎ (k ≡ l))
      lt_or k l = grind arith

      by : (k < l) ⊎ ((l < k) ⊎ (k ≡ l)) → k ≡ l
      by (inl less) = absurd (not_later k l one two less)
      by (inr (inl more)) = absurd (not_later l k two one more)
      by (inr (inr same)) = same

  pub not_bad : (k : ℕ) (outcome : Outcome) → IsFirstBad env handler contents choices k →
      Executes env handler contents choices outcome → ⊥
  not_bad k outcome bad runs = elim bad.ends [
    | inl before ↦ before.1
        (shorter (k + 1) (length choices) (omega (arith, before.0)) (
          [],
          outcome,
          subst (λ c. Executes env handler contents c outcome)
              (sym (append-nil (take (length choices) choices) ∙ take-length choices)) runs,
        ))
    | inr last ↦ last.1 outcome runs
  ]

  module _ (below : FieldsAreBelowSizes) (once : FieldsDeterminePacket) (free : FieldsAreFree) (held : HeldIsMember)
      (with_rising : WithKeepsRising) (without_rising : WithoutKeepsRising)
      (known : IsExecutable env handler contents) where
    seen : IsSeen below once held known.around [] env
    seen = record { environment = known.ready.environment; few = known.few }

    matches : (answer : Answer) → run (body_of handler) (scene_of env) (start contents choices) ≡ answer →
        Matches (BodyRuns (body_of handler) env) (start contents choices) answer
    matches answer e =
        subst (Matches (BodyRuns (body_of handler) env) (start contents choices)) e
        (body_matches below once held known.around (body_of handler) [] env seen known.ready.fits
        (start contents choices))

    -- choices are left behind the end
    left_over : (outcome : Outcome) (left : List ℕ) → left ≢ [] →
        BodyRuns (body_of handler) env contents choices outcome left → EndsAt env handler contents choices left
    left_over outcome left some runs =
        let front = body_front (body_of handler) env contents choices left outcome runs in
        record {
          used = front.used;
          stood = front.stood;
          begun = ([], outcome, front.others []);
          none = λ other head last ends.
              let same : [] ≡ other =
              (body_once once (body_of handler) env known.ready.environment.headers contents (front.used ++ other) []
              other last outcome ends (front.others other)).1 in
              nothing left other some head same;
        }
      where
        nothing : (left other : List ℕ) → left ≢ [] → SameHead left other → [] ≡ other → ⊥
        nothing [] other some head same = some refl
        nothing (choice ∷ left) other some head same = no_more choice head.0 (same ∙ head.1)

    -- the run is stuck
    stuck_end : (left : List ℕ) →
        run (body_of handler) (scene_of env) (start contents choices) ≡ Stuck left →
        EndsAt env handler contents choices left
    stuck_end left e =
        let stuck =
        body_stuck below once free held with_rising without_rising known.around (body_of handler) [] env seen
        known.ready.fits (start contents choices) known.ready.contents_fit left e in
        record {
          used = stuck.used;
          stood = stuck.stood;
          begun = (stuck.more ++ [], stuck.outcome, stuck.begins []);
          none = λ other head last ends. stuck.none other head last [] ends;
        }

    pub left_within : (course : Course) (now : Standing) →
        run (body_of handler) (scene_of env) (start contents choices) ≡ course_is course now →
        length now.left ≤ length choices
    left_within course.Goes now e =
        let found = matches (Goes now) e in
        let front = body_front (body_of handler) env contents choices now.left (Done now.contents found.0) found.2 in
        behind front.used now.left front.stood
      where
        behind : (used left : List ℕ) → choices ≡ used ++ left → length left ≤ length choices
        behind used left stood = omega (arith, ap length stood, length-append used left)
    left_within course.Aborts now e =
        let front =
        body_front (body_of handler) env contents choices now.left Aborted (matches (Aborts now.left) e) in
        omega (arith, ap length front.stood, length-append front.used now.left)
    left_within course.Stuck now e =
        let at = stuck_end now.left e in omega (arith, ap length at.stood, length-append at.used now.left)

    bad_end : (course : Course) (now : Standing) →
        run (body_of handler) (scene_of env) (start contents choices) ≡ course_is course now →
        IsBadEnd (course_is course now) → EndsAt env handler contents choices now.left
    bad_end course.Goes now e some =
        let found = matches (Goes now) e in left_over (Done now.contents found.0) now.left some found.2
    bad_end course.Aborts now e some = left_over Aborted now.left some (matches (Aborts now.left) e)
    bad_end course.Stuck now e some = stuck_end now.left e

    at_end : (outcome : Outcome) →
        run (body_of handler) (scene_of env) (start contents choices) ≡ answer_at_end outcome →
        Executes env handler contents choices outcome
    at_end (Done end outputs) e =
        let found = matches (answer_at_end (Done end outputs)) e in
        subst (λ o. Executes env handler contents choices (Done end o)) (sym found.1) found.2
    at_end Aborted e = matches (answer_at_end Aborted) e

    pub executed : (course : Course) (now : Standing) (result : Result Ending ExecuteRefusal) →
        run (body_of handler) (scene_of env) (start contents choices) ≡ course_is course now →
        MatchResult result (λ ending. course_is course now ≡ answer_at_end (outcome_of ending))
        (λ refusal. (refusal ≡ BadChoice (length choices - length now.left)) × IsBadEnd (course_is course now)) →
        MatchResult result (λ ending. Executes env handler contents choices (outcome_of ending))
        (IsRefused env handler contents choices)
    executed course now result runs ended =
        MatchResult-weaker result ended (λ ending is. at_end (outcome_of ending) (runs ∙ is))
        (λ refusal is. subst (IsRefused env handler contents choices) (sym is.0)
        (first_bad now.left (bad_end course now runs is.1)))

  -- an execution is answered
  refused_memory : (outcome : Outcome) → Executes env handler contents choices outcome → (refusal : ExecuteRefusal) →
      IsRefused env handler contents choices refusal → refusal ≡ NoMemory
  refused_memory outcome runs (BadChoice k) bad = absurd (not_bad k outcome bad runs)
  refused_memory outcome runs NoMemory bad = refl

  pub only_answer : FieldsDeterminePacket → IsHeaders env.headers → (result : Result Ending ExecuteRefusal) →
      MatchResult result (λ ending. Executes env handler contents choices (outcome_of ending))
      (IsRefused env handler contents choices) → (outcome : Outcome) → Executes env handler contents choices outcome →
      MatchResult result (λ ending. outcome_of ending ≡ outcome) (λ refusal. refusal ≡ NoMemory)
  only_answer once headers result found outcome runs =
      MatchResult-weaker result found
      (λ ending ends. (body_once once (body_of handler) env headers contents choices [] [] (outcome_of ending) outcome
      ends runs).0)
      (refused_memory outcome runs)

  refused_choice : (k : ℕ) → IsFirstBad env handler contents choices k → (refusal : ExecuteRefusal) →
      IsRefused env handler contents choices refusal → (refusal ≡ BadChoice k) ⊎ (refusal ≡ NoMemory)
  refused_choice k bad (BadChoice l) other = inl (ap BadChoice (one_bad l k other bad))
  refused_choice k bad NoMemory other = inr refl

  pub only_refusal : (result : Result Ending ExecuteRefusal) →
      MatchResult result (λ ending. Executes env handler contents choices (outcome_of ending))
      (IsRefused env handler contents choices) → (k : ℕ) → IsFirstBad env handler contents choices k →
      MatchResult result (λ _. ⊥) (λ refusal. (refusal ≡ BadChoice k) ⊎ (refusal ≡ NoMemory))
  only_refusal result found k bad =
      MatchResult-weaker result found (λ ending ends. not_bad k (outcome_of ending) bad ends) (refused_choice k bad)
