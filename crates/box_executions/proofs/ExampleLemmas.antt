-- Executions by hand.
use Rattle.std.proofs.Common.{◌≡◌, ℕ, ◌<◌, zero, suc, true, false, List, [], ◌∷◌, ◌++◌, append-nil, slice_index, inl}
use Rattle.std.proofs.Common.{inr, ◌↔◌, refl, sym, ap, subst, ◌∙◌, lit<, lit≤, arith}
use Rattle.std.specs.Prelude.{Contains}
use Rattle.header_set.specs.Headers.{field_of, IsSize, IsHeaders}
use Rattle.header_set.specs.Laws.{FieldsDeterminePacket}
use Rattle.box_contents.specs.declared.entry.Entry.{Entry}
use Rattle.box_handlers.specs.declared.act.Term.TheVariants.{Field, Picked}
use Rattle.box_handlers.specs.declared.act.Query.{Query}
use Rattle.box_handlers.specs.declared.act.Change.{Change}
use Rattle.box_handlers.specs.declared.act.Probe.TheVariants.{Has}
use Rattle.box_handlers.specs.declared.act.Act.{Act}
use Rattle.box_handlers.specs.declared.act.Act.TheVariants.{Insert, Remove, Output, Abort, Pick}
use Rattle.box_handlers.specs.Body.{Formula, Holds, Both, Every, Either, Neither, Body, Stop, Writes, Emit, Halt, Fork}
use Rattle.box_handlers.specs.Body.{Each, NoBranch, OneBranch, body_of, BodiesAreRead, FormulasAreRead}
use Rattle.box_handlers.specs.Example.{of_one, asks}
use Rattle.box_executions.specs.Environment.{entry_in, IsChanged}
use Rattle.box_executions.specs.Guard.{IsSatisfied}
use Rattle.box_executions.specs.Execution.{Outcome, Done, Aborted, after_outputs, InSequence, BodyRuns, BranchRuns}
use Rattle.box_executions.specs.Example.{setting, tuple, out, HasOnly, gate, noted, either, failing, swapping}
use Rattle.box_executions.specs.Example.{GateOpensOnce, InsertionIsSeen, EachValueIsPicked, AbortEndsAll, ChangesSwap}
use Rattle.box_executions.proofs.OnceLemmas.{body_once}

-- the handlers as plain data

abbrev asked : Query
asked = of_one 0 (Field 0)

abbrev guard : Formula
guard = Either (Both (Holds asked) Every) Neither

abbrev gate_body : Body
gate_body = Fork (OneBranch guard (Writes asked false (Emit 1 [] Stop)) NoBranch) Stop

abbrev noted_body : Body
noted_body = Writes asked true (Fork (OneBranch guard (Emit 0 [] Stop) NoBranch) (Emit 1 [] Stop))

abbrev either_body : Body
either_body = Each 2 (Writes (of_one 0 (Picked 0)) true Stop) Stop

abbrev failing_body : Body
failing_body = Writes asked true (Emit 0 [] (Halt (Each 2 Stop Stop)))

abbrev swap : List Change
swap = record { field = 0; to = Field 1 } ∷ record { field = 1; to = Field 0 } ∷ []

abbrev swapping_body : Body
swapping_body = Emit 1 swap Stop

module _ (read : BodiesAreRead) (formulas : FormulasAreRead) where
  asks_read : (body rest : List Act) →
      body_of (asks (Has asked) body ∷ rest) ≡ Fork (OneBranch guard (body_of body) NoBranch) (body_of rest)
  asks_read body rest =
      read.choose (record { guard = record { any = (Has asked ∷ []) ∷ [] }; body = body } ∷ []) rest
      ∙ ap (λ branches. Fork branches (body_of rest))
      (read.branch (record { guard = record { any = (Has asked ∷ []) ∷ [] }; body = body }) []
      ∙ ap (λ formula. OneBranch formula (body_of body) NoBranch)
      (formulas.test (record { any = (Has asked ∷ []) ∷ [] })
      ∙ ap (λ formula. Either (Both formula Every) Neither) (formulas.has asked)))

  gate_read : body_of gate ≡ gate_body
  gate_read =
      asks_read (Remove asked ∷ Output 1 [] ∷ []) []
      ∙ ap (λ body. Fork (OneBranch guard body NoBranch) Stop)
      (read.remove asked (Output 1 [] ∷ []) ∙ ap (Writes asked false) (read.output 1 [] []))

  noted_read : body_of noted ≡ noted_body
  noted_read =
      read.insert asked (asks (Has asked) (Output 0 [] ∷ []) ∷ Output 1 [] ∷ [])
      ∙ ap (Writes asked true) (asks_read (Output 0 [] ∷ []) (Output 1 [] ∷ [])
      ∙ (λ i. Fork (OneBranch guard (read.output 0 [] [] i) NoBranch) (read.output 1 [] [] i)))

  either_read : body_of either ≡ either_body
  either_read = read.pick 2 (Insert (of_one 0 (Picked 0)) ∷ []) []
      ∙ ap (λ body. Each 2 body Stop) (read.insert (of_one 0 (Picked 0)) [])

  failing_read : body_of failing ≡ failing_body
  failing_read =
      read.insert asked (Output 0 [] ∷ Abort ∷ Pick 2 [] ∷ [])
      ∙ ap (Writes asked true) (read.output 0 [] (Abort ∷ Pick 2 [] ∷ [])
      ∙ ap (Emit 0 []) (read.abort (Pick 2 [] ∷ []) ∙ ap Halt (read.pick 2 [] [])))

  swapping_read : body_of swapping ≡ swapping_body
  swapping_read = read.output 1 swap []

-- the setting

two_sizes : (k : ℕ) → k < 2 → IsSize (slice_index (2 ∷ 2 ∷ []) k)
two_sizes zero less = (lit≤ tt, lit≤ tt)
two_sizes (suc zero) less = (lit≤ tt, lit≤ tt)
two_sizes (suc (suc k)) less = absurd (omega arith)

headers_are : IsHeaders (2 ∷ 2 ∷ [])
headers_are = record { counted = (lit≤ tt, lit≤ tt); fit = two_sizes; few_packets = lit≤ tt }

entry_is : entry_in setting asked ≡ tuple 0
unfolding field_of
entry_is = refl

unchanged : IsChanged setting [] 1
unchanged = record { in_range = lit< tt; fields = refl }

swapped : IsChanged setting swap 2
unfolding field_of
swapped = record { in_range = lit< tt; fields = refl }

holds : (contents : List Entry) → Contains contents (tuple 0) → IsSatisfied setting contents guard
holds contents there = inl (subst (λ entry. Contains contents entry) (sym entry_is) there, tt)

holds_not : (contents : List Entry) → (Contains contents (tuple 0) → ⊥) → IsSatisfied setting contents guard → ⊥
holds_not contents missing (inl both) = missing (subst (λ entry. Contains contents entry) entry_is both.0)
holds_not contents missing (inr none) = none

nothing : Contains {X = Entry} [] (tuple 0) → ⊥
nothing there = let less : there.0 < 0 = there.1 in absurd (omega arith)

other_tuple : Contains (tuple 1 ∷ []) (tuple 0) → ⊥
other_tuple (zero, less, same) = let no : ◌≡◌ {A = ℕ} 1 0 = ap (λ (entry : Entry). entry.tuple) same in
    absurd (omega arith)
other_tuple (suc k, less, same) = absurd (omega arith)

-- where one branch has a true guard, the first choice is its number
first_choice : (formula : Formula) (body rest : Body) (contents : List Entry) (choices left : List ℕ)
    (outcome : Outcome) → IsSatisfied setting contents formula →
    BodyRuns (Fork (OneBranch formula body NoBranch) rest) setting contents choices outcome left →
    (others : List ℕ) × (choices ≡ 0 ∷ others)
first_choice formula body rest contents choices left outcome true' (inl (none, runs)) = absurd (none.0 true')
first_choice formula body rest contents choices left outcome true' (inr uses) = by uses.choice uses.next uses.runs
  where
    by : (choice : ℕ) → choices ≡ choice ∷ uses.others →
        InSequence (BranchRuns (OneBranch formula body NoBranch) setting choice) (BodyRuns rest setting) contents
        uses.others outcome left → (others : List ℕ) × (choices ≡ 0 ∷ others)
    by zero next runs = (uses.others, next)
    by (suc choice) next (inl aborts) = absurd aborts.0
    by (suc choice) next (inr goes) = absurd goes.first

-- an execution that is known at all choices is the only one
module _ (law : FieldsDeterminePacket) where
  abbrev Only : Body → List Entry → List ℕ → Outcome → Type 0
  Only body contents used end = (choices : List ℕ) (outcome : Outcome) →
      BodyRuns body setting contents choices outcome [] ↔ ((choices ≡ used) × (outcome ≡ end))

  only : (body : Body) (contents : List Entry) (used : List ℕ) (end : Outcome) →
      ((left : List ℕ) → BodyRuns body setting contents (used ++ left) end left) →
      ((choices : List ℕ) (outcome : Outcome) → BodyRuns body setting contents choices outcome [] →
      (left : List ℕ) × (choices ≡ used ++ left)) → Only body contents used end
  only body contents used end known begins choices outcome = (forth, back)
    where
      forth : BodyRuns body setting contents choices outcome [] → (choices ≡ used) × (outcome ≡ end)
      forth runs =
          let begun = begins choices outcome runs in
          let moved = subst (λ c. BodyRuns body setting contents c outcome []) begun.1 runs in
          let same =
          body_once law body setting headers_are contents (used ++ begun.0) [] begun.0 outcome end moved
          (known begun.0) in
          (begun.1 ∙ ap (λ (l : List ℕ). used ++ l) (sym same.1) ∙ append-nil used, same.0)

      back : (choices ≡ used) × (outcome ≡ end) → BodyRuns body setting contents choices outcome []
      back (one, two) =
          subst (λ c. BodyRuns body setting contents c outcome []) (sym (one ∙ sym (append-nil used)))
          (subst (λ o. BodyRuns body setting contents (used ++ []) o []) (sym two) (known []))

  handled : (handler : List Act) (body : Body) (contents : List Entry) (used : List ℕ) (end : Outcome) →
      body_of handler ≡ body → Only body contents used end → HasOnly handler contents used end
  handled handler body contents used end e are choices outcome =
      subst (λ b. BodyRuns b setting contents choices outcome [] ↔ ((choices ≡ used) × (outcome ≡ end))) (sym e)
      (are choices outcome)

  put_out : (port : ℕ) (rest : Body) (contents : List Entry) (choices left : List ℕ) (last : Outcome) →
      BodyRuns rest setting contents choices last left →
      BodyRuns (Emit port [] rest) setting contents choices (after_outputs (out port 1 ∷ []) last) left
  put_out port rest contents choices left last runs =
      record { packet = 1; changed = unchanged; last = last; second = runs; ends = refl }

  gate_open : Only gate_body (tuple 0 ∷ []) (0 ∷ []) (Done [] (out 1 1 ∷ []))
  unfolding field_of
  gate_open = only gate_body (tuple 0 ∷ []) (0 ∷ []) (Done [] (out 1 1 ∷ [])) known
      (λ choices outcome runs. first_choice guard (Writes asked false (Emit 1 [] Stop)) Stop (tuple 0 ∷ []) choices []
      outcome there runs)
    where
      there : IsSatisfied setting (tuple 0 ∷ []) guard
      there = holds (tuple 0 ∷ []) (0, lit< tt, refl)

      known : (left : List ℕ) → BodyRuns gate_body setting (tuple 0 ∷ []) (0 ∷ left) (Done [] (out 1 1 ∷ [])) left
      known left = inr record {
        choice = 0;
        others = left;
        next = refl;
        runs = inr record {
          mid = [];
          outputs = out 1 1 ∷ [];
          unused = left;
          last = Done [] [];
          first = (there, put_out 1 Stop [] left left (Done [] []) (refl, refl));
          second = (refl, refl);
          ends = refl;
        };
      }

  gate_shut : (contents : List Entry) → (Contains contents (tuple 0) → ⊥) →
      Only gate_body contents [] (Done contents [])
  gate_shut contents missing =
      only gate_body contents [] (Done contents []) (λ left. inl ((holds_not contents missing, tt), (refl, refl)))
      (λ choices outcome runs. (choices, refl))

  noted_only : Only noted_body [] (0 ∷ []) (Done (tuple 0 ∷ []) (out 0 1 ∷ out 1 1 ∷ []))
  unfolding field_of
  noted_only = only noted_body [] (0 ∷ []) (Done (tuple 0 ∷ []) (out 0 1 ∷ out 1 1 ∷ [])) known
      (λ choices outcome runs. first_choice guard (Emit 0 [] Stop) (Emit 1 [] Stop) (tuple 0 ∷ []) choices [] outcome
      there runs)
    where
      there : IsSatisfied setting (tuple 0 ∷ []) guard
      there = holds (tuple 0 ∷ []) (0, lit< tt, refl)

      known : (left : List ℕ) →
          BodyRuns noted_body setting [] (0 ∷ left) (Done (tuple 0 ∷ []) (out 0 1 ∷ out 1 1 ∷ [])) left
      known left = inr record {
        choice = 0;
        others = left;
        next = refl;
        runs = inr record {
          mid = tuple 0 ∷ [];
          outputs = out 0 1 ∷ [];
          unused = left;
          last = Done (tuple 0 ∷ []) (out 1 1 ∷ []);
          first = (there, put_out 0 Stop (tuple 0 ∷ []) left left (Done (tuple 0 ∷ []) []) (refl, refl));
          second = put_out 1 Stop (tuple 0 ∷ []) left left (Done (tuple 0 ∷ []) []) (refl, refl);
          ends = refl;
        };
      }

  failing_only : Only failing_body [] [] Aborted
  failing_only = only failing_body [] [] Aborted
      (λ left. record { packet = 1; changed = unchanged; last = Aborted; second = (refl, refl); ends = refl })
      (λ choices outcome runs. (choices, refl))

  swapping_only : Only swapping_body [] [] (Done [] (out 1 2 ∷ []))
  swapping_only = only swapping_body [] [] (Done [] (out 1 2 ∷ []))
      (λ left. record { packet = 2; changed = swapped; last = Done [] []; second = (refl, refl); ends = refl })
      (λ choices outcome runs. (choices, refl))

  picks_known : (value : ℕ) → value < 2 → (left : List ℕ) →
      BodyRuns either_body setting [] (value ∷ left) (Done (tuple value ∷ []) []) left
  picks_known zero less left = record {
    choice = 0;
    others = left;
    next = refl;
    runs = inr record {
      mid = tuple 0 ∷ [];
      outputs = [];
      unused = left;
      last = Done (tuple 0 ∷ []) [];
      first = (less, (refl, refl));
      second = (refl, refl);
      ends = refl;
    };
  }
  picks_known (suc zero) less left = record {
    choice = 1;
    others = left;
    next = refl;
    runs = inr record {
      mid = tuple 1 ∷ [];
      outputs = [];
      unused = left;
      last = Done (tuple 1 ∷ []) [];
      first = (less, (refl, refl));
      second = (refl, refl);
      ends = refl;
    };
  }
  picks_known (suc (suc value)) less left = absurd (omega arith)

  abbrev Picks : List ℕ → Outcome → Type 0
  Picks choices outcome = (value : ℕ) × (value < 2) × (choices ≡ value ∷ []) × (outcome ≡ Done (tuple value ∷ []) [])

  picks_only : (choices : List ℕ) (outcome : Outcome) →
      BodyRuns either_body setting [] choices outcome [] ↔ Picks choices outcome
  picks_only choices outcome = (forth, back)
    where
      forth : BodyRuns either_body setting [] choices outcome [] → Picks choices outcome
      forth uses =
          let less : uses.choice < 2 = elim uses.runs [ inl aborts ↦ aborts.0.0 | inr goes ↦ goes.first.0 ] in
          let moved = subst (λ c. BodyRuns either_body setting [] c outcome []) uses.next uses in
          let same =
          body_once law either_body setting headers_are [] (uses.choice ∷ uses.others) [] uses.others outcome
          (Done (tuple uses.choice ∷ []) []) moved
          (picks_known uses.choice less uses.others) in
          (uses.choice, less, uses.next ∙ ap (λ (l : List ℕ). uses.choice ∷ l) (sym same.1), same.0)

      back : Picks choices outcome → BodyRuns either_body setting [] choices outcome []
      back (value, less, one, two) =
          subst (λ c. BodyRuns either_body setting [] c outcome []) (sym one)
          (subst (λ o. BodyRuns either_body setting [] (value ∷ []) o []) (sym two) (picks_known value less []))

  module _ (read : BodiesAreRead) where
    pub each_picked : FormulasAreRead → EachValueIsPicked
    each_picked formulas choices outcome =
        subst (λ b. BodyRuns b setting [] choices outcome [] ↔ Picks choices outcome) (sym (either_read read formulas))
        (picks_only choices outcome)

    pub gate_once : FormulasAreRead → GateOpensOnce
    gate_once formulas = record {
      passes = handled gate gate_body (tuple 0 ∷ []) (0 ∷ []) (Done [] (out 1 1 ∷ [])) (gate_read read formulas)
          gate_open;
      stays = handled gate gate_body [] [] (Done [] []) (gate_read read formulas) (gate_shut [] nothing);
      other = handled gate gate_body (tuple 1 ∷ []) [] (Done (tuple 1 ∷ []) []) (gate_read read formulas)
          (gate_shut (tuple 1 ∷ []) other_tuple);
    }

    pub insertion_seen : FormulasAreRead → InsertionIsSeen
    insertion_seen formulas =
        handled noted noted_body [] (0 ∷ []) (Done (tuple 0 ∷ []) (out 0 1 ∷ out 1 1 ∷ [])) (noted_read read formulas)
        noted_only

    pub abort_ends : FormulasAreRead → AbortEndsAll
    abort_ends formulas = handled failing failing_body [] [] Aborted (failing_read read formulas) failing_only

    pub changes_swap : FormulasAreRead → ChangesSwap
    changes_swap formulas =
        handled swapping swapping_body [] [] (Done [] (out 1 2 ∷ [])) (swapping_read read formulas) swapping_only
