-- How the facts of a set are listed in one walk over its cells.
use Rattle.std.proofs.Common.{◌≡◌, ℕ, ◌<◌, ◌≤◌, ◌+◌, Bool, List, [], ◌∷◌, ◌++◌, length, take, refl, sym, ap, subst, ◌∙◌}
use Rattle.std.proofs.Common.{◌⊎◌, inl, inr, ◌↔◌, arith, slice_index_or, cond, true, false}
use Rattle.std.specs.List.{All, Contains}
use Rattle.std.proofs.lemmas.List.Elements.{Contains-append_left, Contains-push, Contains-push_cases, Contains-get_or}
use Rattle.std.proofs.lemmas.List.Elements.{All-nil}
use Rattle.std.proofs.lemmas.List.Quantifiers.{all_pairs_push}
use Rattle.std.specs.List.{count_by}
use Rattle.std.proofs.lemmas.Bool.{cases_lt}
use Rattle.std.proofs.lemmas.List.Recursion.{is_count_by}
use Rattle.std.proofs.lemmas.List.{take_all, length-append, take-append-le}
use Rattle.cell_sets.specs.Marks.{HasCell, HasNoneFrom}
use Rattle.net_plan.specs.declared.plan.Plan.{Plan}
use Rattle.net_plan.specs.declared.fact.Fact.{Fact}
use Rattle.net_plan.specs.declared.fact.Fact.TheVariants.{Out, State, Abort}
use Rattle.net_plan.specs.Fact.{Precedes, ListsExactly}
use Rattle.net_plan.specs.Cells.{IsInRange, cell_of, cells_of}
use Rattle.net_plan.specs.Follows.{IsBad}
use Rattle.net_plan.specs.Laws.{AreNumbered}
use Rattle.plan_text.specs.declared.findings.Findings.{Findings}
use Rattle.plan_text.specs.Found.{Summarises}
use Rattle.plan_text.specs.Text.{HasLine, is_out, is_state, is_abort}
use Rattle.fact_sets.specs.Summary.{IsFactOf, IsBadAmong, AreFindings, AreFindingsBelow, AreAtMost}
use Rattle.fact_sets.specs.Summary.{IsStateCell, AreStateCells}

none_there : {X : Type 0} (x : X) → Contains [] x → ⊥
none_there x there = let less : there.0 < 0 = there.1 in absurd (omega arith)

-- one more fact, which all listed ones precede
listing_push : (P Q : Fact → Type 0) (facts : List Fact) (new : Fact) → ListsExactly P facts →
    ((fact : Fact) → P fact → Precedes fact new) → ((fact : Fact) → Q fact ↔ (P fact ⊎ (new ≡ fact))) →
    ListsExactly Q (facts ++ new ∷ [])
listing_push P Q facts new listed before cases = record {
  rising = all_pairs_push Precedes facts new listed.rising
      (λ k d in'. before (slice_index_or facts k d)
      ((listed.member (slice_index_or facts k d)).0 (Contains-get_or facts k d in')));
  member = λ fact. (
    λ there. (cases fact).1 (elim (Contains-push_cases facts new fact there) [
      | inl old ↦ inl ((listed.member fact).0 old)
      | inr same ↦ inr same
    ]),
    λ holds. elim ((cases fact).0 holds) [
      | inl old ↦ Contains-append_left facts (new ∷ []) fact ((listed.member fact).1 old)
      | inr same ↦ subst (Contains (facts ++ new ∷ [])) same (Contains-push facts new)
    ],
  );
}

listing_same : (P Q : Fact → Type 0) (facts : List Fact) → ListsExactly P facts →
    ((fact : Fact) → P fact ↔ Q fact) → ListsExactly Q facts
listing_same P Q facts listed same = record {
  rising = listed.rising;
  member = λ fact.
      (λ there. (same fact).0 ((listed.member fact).0 there), λ holds. (listed.member fact).1 ((same fact).1 holds));
}

listing_none : (P : Fact → Type 0) → ((fact : Fact) → P fact → ⊥) → ListsExactly P []
listing_none P none = record {
  rising = λ i j d less in'. absurd (let none' : j < 0 = in' in omega arith);
  member = λ fact. (λ there. absurd (none_there fact there), λ holds. absurd (none fact holds));
}

-- a bad fact in range has a line
pub bad_has_line : (plan : Plan) (fact : Fact) → IsInRange plan fact → IsBad plan fact → HasLine plan fact
bad_has_line plan (Out end packet) within bad = (within.0, within.1, (bad.0, bad.1, bad.2, bad.3))
bad_has_line plan (State box packet mask) within bad = absurd bad
bad_has_line plan (Abort box packet) within bad = within

module _ (plan : Plan) (marks : List Bool) where
  -- before the first cell
  pub nothing_below : (findings : Findings) → findings.outs ≡ 0 → findings.states ≡ 0 → findings.aborts ≡ 0 →
      findings.bad ≡ 0 → findings.listed ≡ [] → AreFindingsBelow plan marks 0 findings
  nothing_below findings outs states aborts bad listed = record {
    facts = [];
    bad = [];
    all = listing_none (λ fact. IsFactOf plan marks fact × (cell_of plan fact < 0))
        (λ fact held. let none : cell_of plan fact < 0 = held.1 in omega arith);
    bad_ones = listing_none (IsBadAmong plan []) (λ fact held. none_there fact held.0);
    summarises = record { outs = outs; states = states; aborts = aborts; count = bad; listed = listed };
    lines = subst (All (HasLine plan)) (sym listed) (All-nil (HasLine plan));
  }

  module _ (numbered : AreNumbered plan) (from cell : ℕ) (fact : Fact) (least : from ≤ cell)
      (has : HasCell marks cell) (none : HasNoneFrom marks from cell) (within : IsInRange plan fact)
      (is : cell_of plan fact ≡ cell) where
    one_more : (other : Fact) →
        (IsFactOf plan marks other × (cell_of plan other < cell + 1)) ↔
        ((IsFactOf plan marks other × (cell_of plan other < from)) ⊎ (fact ≡ other))
    one_more other = (
      λ held. elim (cases_lt (cell_of plan other) from) [
        | inl below ↦ inl (held.0, below)
        | inr above ↦ elim (cases_lt (cell_of plan other) cell) [
          | inl between ↦ absurd (none (cell_of plan other) above between held.0.has)
          | inr last ↦ inr (numbered.once fact other within held.0.in_range
              (let small : cell_of plan other < cell + 1 = held.1 in
              let same : cell_of plan fact ≡ cell_of plan other = omega (arith, is, last, small) in same))
        ]
      ],
      λ either. elim either [
        | inl old ↦ (
          old.0,
          (let small : cell_of plan other < from = old.1 in
              let less : cell_of plan other < cell + 1 = omega (arith, least, small) in less),
        )
        | inr same ↦ subst (λ (f : Fact). IsFactOf plan marks f × (cell_of plan f < cell + 1)) same (
          record { in_range = within; has = subst (HasCell marks) (sym is) has },
          (let less : cell_of plan fact < cell + 1 = omega (arith, is) in less),
        )
      ],
    )

    precede : (other : Fact) → (IsFactOf plan marks other × (cell_of plan other < from)) → Precedes other fact
    precede other held =
        (numbered.order other fact held.0.in_range within).1
        (let small : cell_of plan other < from = held.1 in
        let less : cell_of plan other < cell_of plan fact = omega (arith, is, least, small) in less)

    facts_more : (facts : List Fact) →
        ListsExactly (λ other. IsFactOf plan marks other × (cell_of plan other < from)) facts →
        ListsExactly (λ other. IsFactOf plan marks other × (cell_of plan other < cell + 1)) (facts ++ fact ∷ [])
    facts_more facts listed =
        listing_push (λ other. IsFactOf plan marks other × (cell_of plan other < from))
        (λ other. IsFactOf plan marks other × (cell_of plan other < cell + 1)) facts fact listed precede one_more

    module _ (old : Findings) (found : AreFindingsBelow plan marks from old) where
      -- a fact that isn't bad
      pub good_more : (new : Findings) → (IsBad plan fact → ⊥) → Summarises new (found.facts ++ fact ∷ []) found.bad →
          new.listed ≡ old.listed → AreFindingsBelow plan marks (cell + 1) new
      good_more new good summarises same = record {
        facts = found.facts ++ fact ∷ [];
        bad = found.bad;
        all = facts_more found.facts found.all;
        bad_ones = listing_same (IsBadAmong plan found.facts) (IsBadAmong plan (found.facts ++ fact ∷ [])) found.bad
            found.bad_ones (λ other. (
              λ among. (Contains-append_left found.facts (fact ∷ []) other among.0, among.1),
              λ among. elim (Contains-push_cases found.facts fact other among.0) [
                | inl there ↦ (there, among.1)
                | inr same' ↦ absurd (good (subst (IsBad plan) (sym same') among.1))
              ],
            ));
        summarises = summarises;
        lines = subst (All (HasLine plan)) (sym same) found.lines;
      }

      -- a bad one
      pub bad_more : (new : Findings) → IsBad plan fact →
          Summarises new (found.facts ++ fact ∷ []) (found.bad ++ fact ∷ []) → All (HasLine plan) new.listed →
          AreFindingsBelow plan marks (cell + 1) new
      bad_more new bad summarises lines = record {
        facts = found.facts ++ fact ∷ [];
        bad = found.bad ++ fact ∷ [];
        all = facts_more found.facts found.all;
        bad_ones = listing_push (IsBadAmong plan found.facts) (IsBadAmong plan (found.facts ++ fact ∷ [])) found.bad
            fact found.bad_ones
            (λ other among. precede other ((found.all.member other).0 among.0))
            (λ other. (
              λ among. elim (Contains-push_cases found.facts fact other among.0) [
                | inl there ↦ inl (there, among.1)
                | inr same ↦ inr same
              ],
              λ either. elim either [
                | inl among ↦ (Contains-append_left found.facts (fact ∷ []) other among.0, among.1)
                | inr same ↦ subst (IsBadAmong plan (found.facts ++ fact ∷ [])) same
                    (Contains-push found.facts fact, bad)
              ],
            ));
        summarises = summarises;
        lines = lines;
      }

  -- after the last cell
  pub all_found : AreNumbered plan → (from : ℕ) (findings : Findings) → length marks ≡ cells_of plan →
      HasNoneFrom marks from (length marks) → AreFindingsBelow plan marks from findings →
      AreFindings plan marks findings
  all_found numbered from findings sized none found = record {
    facts = found.facts;
    bad = found.bad;
    all = listing_same (λ fact. IsFactOf plan marks fact × (cell_of plan fact < from)) (IsFactOf plan marks) found.facts
        found.all (λ fact. (
          λ held. held.0,
          λ held. (
            held,
            elim (cases_lt (cell_of plan fact) from) [
              | inl below ↦ below
              | inr above ↦ absurd (none (cell_of plan fact) above
                  (subst (λ n. cell_of plan fact < n) (sym sized) (numbered.below fact held.in_range)) held.has)
            ],
          ),
        ));
    bad_ones = found.bad_ones;
    summarises = found.summarises;
    lines = found.lines;
  }

-- how many members a test holds of, by cases on the list
tally : (Fact → Bool) → List Fact → ℕ
tally test [] = 0
tally test (fact ∷ facts) = cond (test fact) (1 + tally test facts) (tally test facts)

tally_is : (test : Fact → Bool) (facts : List Fact) → tally test facts ≡ count_by test facts
unfolding tally
tally_is test = is_count_by (tally test) test refl (λ fact facts. refl)

tally_by : (b : Bool) (n m : ℕ) → (cond {A = ℕ} b (1 + (n + m)) (n + m)) ≡ cond {A = ℕ} b (1 + n) n + m
tally_by true n m = omega arith
tally_by false n m = refl

last_one : (b : Bool) → cond {A = ℕ} b (1 + 0) 0 ≡ 0 + cond {A = ℕ} b 1 0
last_one true = refl
last_one false = refl

tally_more : (test : Fact → Bool) (facts : List Fact) (fact : Fact) →
    tally test (facts ++ fact ∷ []) ≡ tally test facts + cond {A = ℕ} (test fact) 1 0
unfolding tally
tally_more test [] fact = last_one (test fact)
tally_more test (one ∷ facts) fact =
    ap (λ n. cond {A = ℕ} (test one) (1 + n) n) (tally_more test facts fact)
    ∙ tally_by (test one) (tally test facts) (cond {A = ℕ} (test fact) 1 0)

pub count_more : (test : Fact → Bool) (facts : List Fact) (fact : Fact) →
    count_by test (facts ++ fact ∷ []) ≡ count_by test facts + cond {A = ℕ} (test fact) 1 0
count_more test facts fact =
    sym (tally_is test (facts ++ fact ∷ [])) ∙ tally_more test facts fact
    ∙ ap (λ n. n + cond {A = ℕ} (test fact) 1 0) (tally_is test facts)

more_none : (n : ℕ) → n + 0 ≡ n
more_none n = omega arith

-- one fact more of each kind
pub out_more : (old : Findings) (end packet : ℕ) (facts bad : List Fact) → Summarises old facts bad →
    Summarises (record old { outs = old.outs + 1 }) (facts ++ Out end packet ∷ []) bad
out_more old end packet facts bad told = record {
  outs = ap (λ n. n + 1) told.outs ∙ sym (count_more is_out facts (Out end packet));
  states = told.states ∙ sym (count_more is_state facts (Out end packet) ∙ more_none (count_by is_state facts));
  aborts = told.aborts ∙ sym (count_more is_abort facts (Out end packet) ∙ more_none (count_by is_abort facts));
  count = told.count;
  listed = told.listed;
}

pub state_more : (old : Findings) (box packet mask : ℕ) (facts bad : List Fact) → Summarises old facts bad →
    Summarises (record old { states = old.states + 1 }) (facts ++ State box packet mask ∷ []) bad
state_more old box packet mask facts bad told = record {
  outs = told.outs ∙ sym (count_more is_out facts (State box packet mask) ∙ more_none (count_by is_out facts));
  states = ap (λ n. n + 1) told.states ∙ sym (count_more is_state facts (State box packet mask));
  aborts = told.aborts ∙ sym (count_more is_abort facts (State box packet mask) ∙ more_none (count_by is_abort facts));
  count = told.count;
  listed = told.listed;
}

pub abort_more : (old : Findings) (box packet : ℕ) (facts bad : List Fact) → Summarises old facts bad →
    Summarises (record old { aborts = old.aborts + 1 }) (facts ++ Abort box packet ∷ []) bad
abort_more old box packet facts bad told = record {
  outs = told.outs ∙ sym (count_more is_out facts (Abort box packet) ∙ more_none (count_by is_out facts));
  states = told.states ∙ sym (count_more is_state facts (Abort box packet) ∙ more_none (count_by is_state facts));
  aborts = ap (λ n. n + 1) told.aborts ∙ sym (count_more is_abort facts (Abort box packet));
  count = told.count;
  listed = told.listed;
}

-- the first 1,000 of one more
pub first_more : (bad : List Fact) (fact : Fact) → length bad < 1000 →
    take 1000 (bad ++ fact ∷ []) ≡ take 1000 bad ++ fact ∷ []
first_more bad fact few =
    take_all 1000 (bad ++ fact ∷ []) (let more : length (bad ++ fact ∷ []) ≤ 1000 =
    omega (arith, length-append bad (fact ∷ [])) in more)
    ∙ ap (λ l. l ++ fact ∷ []) (sym (take_all 1000 bad (omega arith)))

pub first_same : (bad : List Fact) (fact : Fact) → 1000 ≤ length bad →
    take 1000 (bad ++ fact ∷ []) ≡ take 1000 bad
first_same bad fact many = take-append-le 1000 bad (fact ∷ []) many

pub list_more : (old : Findings) (facts bad : List Fact) (fact : Fact) (listed : List Fact) →
    Summarises old facts bad → listed ≡ take 1000 (bad ++ fact ∷ []) →
    Summarises (record old { bad = old.bad + 1; listed = listed }) facts (bad ++ fact ∷ [])
list_more old facts bad fact listed told is = record {
  outs = told.outs;
  states = told.states;
  aborts = told.aborts;
  count = let more : length (bad ++ fact ∷ []) ≡ length bad + 1 = length-append bad (fact ∷ []) in
      ap (λ n. n + 1) told.count ∙ sym more;
  listed = is;
}

-- what is listed after one bad fact more: it too, unless enough are
pub list_more_full : (old new : Findings) (facts bad : List Fact) (fact : Fact) → Summarises old facts bad →
    1000 ≤ old.bad → new ≡ record old { bad = old.bad + 1 } → Summarises new facts (bad ++ fact ∷ [])
list_more_full old new facts bad fact told many is =
    subst (λ f. Summarises f facts (bad ++ fact ∷ [])) (sym is)
    (list_more old facts bad fact old.listed told
    (told.listed ∙ sym (first_same bad fact (let enough : 1000 ≤ length bad = omega (arith, told.count, many) in enough))))

pub list_more_listed : (old new : Findings) (facts bad : List Fact) (fact : Fact) → Summarises old facts bad →
    old.bad < 1000 → new ≡ record old { bad = old.bad + 1; listed = old.listed ++ fact ∷ [] } →
    Summarises new facts (bad ++ fact ∷ [])
list_more_listed old new facts bad fact told few is =
    subst (λ f. Summarises f facts (bad ++ fact ∷ [])) (sym is)
    (list_more old facts bad fact (old.listed ++ fact ∷ []) told
    (ap (λ l. l ++ fact ∷ []) told.listed
    ∙ sym (first_more bad fact (let less : length bad < 1000 = omega (arith, told.count, few) in less))))

pub at_most_more : (few many : ℕ) (findings : Findings) → few ≤ many → AreAtMost few findings → AreAtMost many findings
at_most_more few many findings less most = record {
  outs = omega (arith, less, most.outs);
  states = omega (arith, less, most.states);
  aborts = omega (arith, less, most.aborts);
  bad = omega (arith, less, most.bad);
}

-- the cells from the first answers of boxes up to the first abort
pub states_between : (plan : Plan) → AreNumbered plan → IsInRange plan (State 0 0 0) → IsInRange plan (Abort 0 0) →
    AreStateCells plan (cell_of plan (State 0 0 0)) (cell_of plan (Abort 0 0))
states_between plan numbered first last cell least less = by each.0 each.1 each.2
  where
    each : (fact : Fact) × IsInRange plan fact × (cell_of plan fact ≡ cell)
    each = numbered.each cell
        (let below : cell_of plan (Abort 0 0) < cells_of plan = numbered.below (Abort 0 0) last in
        omega (arith, less, below))

    by : (fact : Fact) → IsInRange plan fact → cell_of plan fact ≡ cell → IsStateCell plan cell
    by (Out end packet) within is =
        let before : cell_of plan (Out end packet) < cell_of plan (State 0 0 0) =
        (numbered.order (Out end packet) (State 0 0 0) within first).0 (inl (omega arith)) in
        absurd (omega (arith, before, is, least))
    by (State box packet mask) within is =
        record { box = box; packet = packet; mask = mask; in_range = within; cell_is = is }
    by (Abort box packet) within is =
        none ((numbered.order (Abort box packet) (Abort 0 0) within last).1
        (let before : cell_of plan (Abort box packet) < cell_of plan (Abort 0 0) = omega (arith, is, less) in before))
      where
        none : Precedes (Abort box packet) (Abort 0 0) → IsStateCell plan cell
        none (inl kind) = absurd (omega (arith, kind))
        none (inr (_, inl one)) = absurd (omega (arith, one))
        none (inr (_, inr (_, inl one))) = absurd (omega (arith, one))
        none (inr (_, inr (_, inr (_, nothing)))) = absurd nothing
