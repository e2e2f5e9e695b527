-- The paths through a block are its executions, from whatever contents answer as the path says.
use Rattle.std.proofs.Common.{◌≡◌, ℕ, zero, suc, ◌<◌, ◌≤◌, Bool, true, false, not, ◌&&◌, ◌||◌, List, [], ◌∷◌, ◌++◌}
use Rattle.std.proofs.Common.{◌⊎◌, inl, inr, map, refl, sym, ap, subst, ◌∙◌, append_assoc, append-nil, nat_eq, arith}
use Rattle.std.specs.Prelude.{All}
use Rattle.std.specs.List.{Contains, flat_map, range_with_len}
use Rattle.std.proofs.lemmas.Bool.{eqb-true, eq-eqb}
use Rattle.std.proofs.lemmas.List.{map-append}
use Rattle.std.proofs.lemmas.List.Elements.{Contains-append_left, Contains-append_right, Contains-append_cases}
use Rattle.header_set.specs.Laws.{FieldsAreBelowSizes, FieldsDeterminePacket}
use Rattle.box_contents.specs.declared.entry.Entry.{Entry}
use Rattle.box_contents.specs.Contents.{holds_entry, with_entry, without_entry}
use Rattle.box_contents.specs.Laws.{HeldIsMember, HeldWith, HeldWithout}
use Rattle.box_handlers.specs.declared.act.Query.{Query}
use Rattle.box_handlers.specs.Body.{Formula, Truth, Holds, Alike, Unlike, Denied, Grouped, Both, Every, Either, Neither}
use Rattle.box_handlers.specs.Body.{Body, Stop, Writes, Emit, Halt, Fork, Each, Branches, NoBranch, OneBranch}
use Rattle.box_handlers.specs.Fits.{Surroundings, FormulaFits, Fits, BranchesFit}
use Rattle.box_handlers.specs.Queries.{FormulaAsks, Asks, BranchesAsk}
use Rattle.box_handlers.specs.Tuple.{tuples_over}
use Rattle.box_executions.specs.Environment.{Environment, value_in, entry_in, with_pick, IsChanged}
use Rattle.box_executions.specs.Guard.{IsSatisfied}
use Rattle.box_executions.specs.Execution.{Outcome, Done, Aborted, Emission, Behaviour, after_outputs, InSequence}
use Rattle.box_executions.specs.Execution.{UsesChoice, NoGuardIsTrue, BodyRuns, BranchRuns, WithValue}
use Rattle.box_executions.specs.Shape.{IsEnvironment}
use Rattle.box_executions.proofs.OnceLemmas.{changed_once}
use Rattle.box_executions.proofs.RangeLemmas.{pick_opened}
use Rattle.net_plan.proofs.Rising.{head_contained, none_contained}
use Rattle.packet_state.specs.Answers.{mask_of}
use Rattle.handler_runs.specs.Reading.{scene_of, entry_by, packet_by, holds_by, any_holds}
use Rattle.handler_runs.proofs.NumberLemmas.{entry_is, packet_is}
use Rattle.box_masks.specs.declared.write.Write.{Write}
use Rattle.box_masks.specs.Writes.{after_write, after_writes}
use Rattle.abstract_step.specs.declared.put.Put.{Put}
use Rattle.abstract_step.specs.Masks.{marked, mask_after}
use Rattle.abstract_step.specs.Paths.{Partial, wrote, put_out, aborted, Behind, where_true, where_false, paths, chosen}
use Rattle.abstract_step.specs.Step.{Result, emission_of}
use Rattle.abstract_step.proofs.MaskLemmas.{marked_holds, mask_written}
use Rattle.abstract_step.proofs.MemberLemmas.{only_one, into_range, out_of_range}

-- a test says whether something holds
abbrev pub Tells : Bool → Type 0 → Type 0
Tells true P = P
Tells false P = P → ⊥

tells_not : (P : Type 0) (b : Bool) → Tells b P → Tells (not b) (P → ⊥)
tells_not P true p = λ h. h p
tells_not P false p = p

tells_both : (P Q : Type 0) (a b : Bool) → Tells a P → Tells b Q → Tells (a && b) (P × Q)
tells_both P Q true true p q = (p, q)
tells_both P Q true false p q = λ h. q h.1
tells_both P Q false b p q = λ h. p h.0

tells_either : (P Q : Type 0) (a b : Bool) → Tells a P → Tells b Q → Tells (a || b) (P ⊎ Q)
tells_either P Q true b p q = inl p
tells_either P Q false true p q = inr q
tells_either P Q false false p q = λ h. elim h [ inl one ↦ p one | inr two ↦ q two ]

tells_by : (P : Type 0) (b : Bool) → (b ≡ true → P) → (P → b ≡ true) → Tells b P
tells_by P true forth back = forth refl
tells_by P false forth back = λ p. absurd (let wrong : ◌≡◌ {A = Bool} false true = back p in cc)

tells_same : (m n : ℕ) → Tells (nat_eq m n) (m ≡ n)
tells_same m n = tells_by (m ≡ n) (nat_eq m n) (eqb-true m n) (eq-eqb m n)

true_of : (P : Type 0) (b : Bool) → Tells b P → b ≡ true → P
true_of P true tells e = tells
true_of P false tells e = absurd (let no : ◌≡◌ {A = Bool} false true = e in cc)

is_true : (P : Type 0) (b : Bool) → Tells b P → P → b ≡ true
is_true P true tells p = refl
is_true P false tells p = absurd (tells p)

-- the results stand where the test holds, or doesn't
where_some : (b : Bool) (results : List Result) (r : Result) → Contains (where_true b results) r →
    (b ≡ true) × Contains results r
where_some true results r there = (refl, there)
where_some false results r there = absurd (none_contained r there)

where_none : (b : Bool) (results : List Result) (r : Result) → Contains (where_false b results) r →
    (b ≡ false) × Contains results r
where_none true results r there = absurd (none_contained r there)
where_none false results r there = (refl, there)

-- writes in their order, and one more
writes_more : (first : List Entry) (writes : List Write) (write : Write) →
    after_writes first (writes ++ write ∷ []) ≡ after_write (after_writes first writes) write.entry write.add
writes_more first [] write = refl
writes_more first (one ∷ writes) write = writes_more (after_write first one.entry one.add) writes write

module _ (below : FieldsAreBelowSizes) (once : FieldsDeterminePacket) (held : HeldIsMember) (with_law : HeldWith)
    (without_law : HeldWithout) (around : Surroundings) (tuples : List Entry) where
  -- the environment of a block, and its tuples are few enough to be counted
  pub record IsSeen (picks : List ℕ) (env : Environment) : Type 0 where
    pub environment : IsEnvironment around picks env
    pub few : All (λ sizes. tuples_over sizes ≤ 65536) env.relations

  pick_seen : (picks : List ℕ) (env : Environment) (size value : ℕ) → IsSeen picks env → value < size →
      IsSeen (picks ++ size ∷ []) (with_pick env value)
  pick_seen picks env size value seen less =
      record { environment = pick_opened around picks env size value seen.environment less; few = seen.few }

  -- what the block asks has its tuple among those of the mask
  abbrev pub IsAsked : Environment → Body → Type 0
  IsAsked env body = (opened : List ℕ) (query : Query) → Asks body env.picked opened query →
      Contains tuples (entry_in (record env { picked = opened }) query)

  abbrev pub AreAsked : Environment → Branches → Type 0
  AreAsked env branches = (opened : List ℕ) (query : Query) → BranchesAsk branches env.picked opened query →
      Contains tuples (entry_in (record env { picked = opened }) query)

  abbrev IsAskedBy : Environment → Formula → Type 0
  IsAskedBy env formula = (query : Query) → FormulaAsks formula query → Contains tuples (entry_in env query)

  -- the contents now are those that the path leads to, and answer as it says
  pub record IsAt (first now : List Entry) (s : Partial) : Type 0 where
    pub answered : mask_of (map (holds_entry now) tuples) ≡ s.mask
    pub written : now ≡ after_writes first s.writes

  wrote_at : (first now : List Entry) (s : Partial) (entry : Entry) (add : Bool) → IsAt first now s →
      IsAt first (after_write now entry add) (wrote tuples s entry add)
  wrote_at first now s entry add at = record {
    answered = sym (mask_written held with_law without_law now entry add tuples)
        ∙ ap (λ (m : ℕ). mask_after tuples m entry add) at.answered;
    written = ap (λ (c : List Entry). after_write c entry add) at.written
        ∙ sym (writes_more first s.writes (record { entry = entry; add = add }));
  }

  guard_tells : (picks : List ℕ) (env : Environment) → IsSeen picks env → (first now : List Entry) (s : Partial) →
      IsAt first now s → (formula : Formula) → FormulaFits around picks formula → IsAskedBy env formula →
      Tells (holds_by (scene_of env) (marked tuples s.mask) formula) (IsSatisfied env now formula)
  guard_tells picks env seen first now s at Truth fits asked = tt
  guard_tells picks env seen first now s at (Holds query) fits asked =
      subst (λ e. Tells (holds_entry (marked tuples s.mask) e) (Contains now (entry_in env query)))
      (sym (entry_is below around picks env seen.environment seen.few query fits))
      (subst (λ b. Tells b (Contains now (entry_in env query)))
      (sym (ap (λ (m : ℕ). holds_entry (marked tuples m) (entry_in env query)) (sym at.answered)
      ∙ marked_holds held (holds_entry now) tuples (entry_in env query) (asked query refl)))
      (tells_by (Contains now (entry_in env query)) (holds_entry now (entry_in env query))
      (held now (entry_in env query)).0 (held now (entry_in env query)).1))
  guard_tells picks env seen first now s at (Alike one two) fits asked = tells_same (value_in env one) (value_in env two)
  guard_tells picks env seen first now s at (Unlike one two) fits asked =
      tells_not (value_in env one ≡ value_in env two) (nat_eq (value_in env one) (value_in env two))
      (tells_same (value_in env one) (value_in env two))
  guard_tells picks env seen first now s at (Denied formula) fits asked =
      tells_not (IsSatisfied env now formula) (holds_by (scene_of env) (marked tuples s.mask) formula)
      (guard_tells picks env seen first now s at formula fits asked)
  guard_tells picks env seen first now s at (Grouped formula) fits asked =
      guard_tells picks env seen first now s at formula fits asked
  guard_tells picks env seen first now s at (Both one two) fits asked =
      tells_both (IsSatisfied env now one) (IsSatisfied env now two)
      (holds_by (scene_of env) (marked tuples s.mask) one) (holds_by (scene_of env) (marked tuples s.mask) two)
      (guard_tells picks env seen first now s at one fits.0 (λ query a. asked query (inl a)))
      (guard_tells picks env seen first now s at two fits.1 (λ query a. asked query (inr a)))
  guard_tells picks env seen first now s at Every fits asked = tt
  guard_tells picks env seen first now s at (Either one two) fits asked =
      tells_either (IsSatisfied env now one) (IsSatisfied env now two)
      (holds_by (scene_of env) (marked tuples s.mask) one) (holds_by (scene_of env) (marked tuples s.mask) two)
      (guard_tells picks env seen first now s at one fits.0 (λ query a. asked query (inl a)))
      (guard_tells picks env seen first now s at two fits.1 (λ query a. asked query (inr a)))
  guard_tells picks env seen first now s at Neither fits asked = λ h. h

  none_of : (P Q : Type 0) (a b : Bool) → Tells a P → (b ≡ false → Q) → (a || b) ≡ false → (P → ⊥) × Q
  none_of P Q true b p q e = absurd (let wrong : ◌≡◌ {A = Bool} true false = e in cc)
  none_of P Q false b p q e = (p, q e)

  none_true : (picks : List ℕ) (env : Environment) → IsSeen picks env → (first now : List Entry) (s : Partial) →
      IsAt first now s → (branches : Branches) → BranchesFit around branches picks → AreAsked env branches →
      any_holds (scene_of env) (marked tuples s.mask) branches ≡ false → NoGuardIsTrue env now branches
  none_true picks env seen first now s at NoBranch fits asked e = tt
  none_true picks env seen first now s at (OneBranch guard body more) fits asked e =
      none_of (IsSatisfied env now guard) (NoGuardIsTrue env now more)
      (holds_by (scene_of env) (marked tuples s.mask) guard) (any_holds (scene_of env) (marked tuples s.mask) more)
      (guard_tells picks env seen first now s at guard fits.0 (λ query a. asked env.picked query (inl (refl, a))))
      (none_true picks env seen first now s at more fits.2 (λ opened query a. asked opened query (inr (inr a)))) e

  none_held : (picks : List ℕ) (env : Environment) → IsSeen picks env → (first now : List Entry) (s : Partial) →
      IsAt first now s → (branches : Branches) → BranchesFit around branches picks → AreAsked env branches →
      NoGuardIsTrue env now branches → any_holds (scene_of env) (marked tuples s.mask) branches ≡ false
  none_held picks env seen first now s at NoBranch fits asked none = refl
  none_held picks env seen first now s at (OneBranch guard body more) fits asked none =
      by (holds_by (scene_of env) (marked tuples s.mask) guard)
      (guard_tells picks env seen first now s at guard fits.0 (λ query a. asked env.picked query (inl (refl, a))))
      (none_held picks env seen first now s at more fits.2 (λ opened query a. asked opened query (inr (inr a))) none.1)
    where
      by : (b : Bool) → Tells b (IsSatisfied env now guard) →
          any_holds (scene_of env) (marked tuples s.mask) more ≡ false →
          (b || any_holds (scene_of env) (marked tuples s.mask) more) ≡ false
      by true tells later = absurd (none.0 tells)
      by false tells later = later

  -- each execution has its result: an outcome leads to a result, or to a path that what stands behind goes on from
  abbrev pub Leads : List Result → Behind → List Entry → List Put → Outcome → Type 0
  Leads results behind first puts Aborted = Contains results aborted
  Leads results behind first puts (Done left outputs) =
      (p : Partial) × IsAt first left p × (map emission_of p.puts ≡ map emission_of puts ++ outputs)
      × ((r : Result) → Contains (behind p) r → Contains results r)

  leads_more : (some all : List Result) (behind : Behind) (first : List Entry) (puts : List Put) (outcome : Outcome) →
      ((r : Result) → Contains some r → Contains all r) → Leads some behind first puts outcome →
      Leads all behind first puts outcome
  leads_more some all behind first puts Aborted within leads = within aborted leads
  leads_more some all behind first puts (Done left outputs) within leads =
      (leads.0, leads.1, leads.2, λ r there. within r (leads.3 r there))

  put_first : (puts : List Put) (put : Put) (outputs : List Emission) →
      map emission_of (puts ++ put ∷ []) ++ outputs ≡ map emission_of puts ++ (emission_of put ∷ outputs)
  put_first puts put outputs =
      ap (λ (l : List Emission). l ++ outputs) (map-append emission_of puts (put ∷ []))
      ∙ append_assoc (map emission_of puts) (emission_of put ∷ []) outputs

  leads_put : (results : List Result) (behind : Behind) (first : List Entry) (puts : List Put) (put : Put)
      (outcome : Outcome) → Leads results behind first (puts ++ put ∷ []) outcome →
      Leads results behind first puts (after_outputs (emission_of put ∷ []) outcome)
  leads_put results behind first puts put Aborted leads = leads
  leads_put results behind first puts put (Done left outputs) leads =
      (leads.0, leads.1, leads.2 ∙ put_first puts put outputs, leads.3)

  -- a block, and what stands behind it
  module _ (block rest : Behaviour) (results : List Result) (mid_behind behind : Behind) (first now : List Entry)
      (puts : List Put) where
    sequence_leads : (choices left : List ℕ) (outcome : Outcome) →
        ((o : Outcome) (l : List ℕ) → block now choices o l → Leads results mid_behind first puts o) →
        ((p : Partial) (mid : List Entry) → IsAt first mid p → (c : List ℕ) (o : Outcome) (l : List ℕ) →
        rest mid c o l → Leads (mid_behind p) behind first p.puts o) →
        InSequence block rest now choices outcome left → Leads results behind first puts outcome
    sequence_leads choices left outcome block_leads rest_leads (inl (aborts, ends)) =
        subst (λ o. Leads results behind first puts o) (sym ends) (block_leads Aborted left aborts)
    sequence_leads choices left outcome block_leads rest_leads (inr goes) =
        let one = block_leads (Done goes.mid goes.outputs) goes.unused goes.first in
        let two = rest_leads one.0 goes.mid one.1 goes.unused goes.last left goes.second in
        subst (λ o. Leads results behind first puts o) (sym goes.ends)
        (joined goes.mid goes.outputs goes.last one two)
      where
        joined : (mid : List Entry) (outputs : List Emission) (last : Outcome) →
            (one : Leads results mid_behind first puts (Done mid outputs)) →
            Leads (mid_behind one.0) behind first one.0.puts last →
            Leads results behind first puts (after_outputs outputs last)
        joined mid outputs Aborted one two = one.3 aborted two
        joined mid outputs (Done left more) one two = (
          two.0,
          two.1,
          two.2 ∙ ap (λ (l : List Emission). l ++ more) one.2
              ∙ append_assoc (map emission_of puts) outputs more,
          λ r there. one.3 r (two.3 r there),
        )

  mutual
    pub body_leads : (body : Body) (picks : List ℕ) (env : Environment) → IsSeen picks env → Fits around body picks →
        IsAsked env body → (behind : Behind) (first now : List Entry) (s : Partial) → IsAt first now s →
        (choices : List ℕ) (outcome : Outcome) (left : List ℕ) → BodyRuns body env now choices outcome left →
        Leads (paths body tuples (scene_of env) behind s) behind first s.puts outcome
    body_leads Stop picks env seen fits asked behind first now s at choices outcome left runs =
        subst (λ o. Leads (behind s) behind first s.puts o) (sym runs.0)
        (s, at, sym (append-nil (map emission_of s.puts)), λ r there. there)
    body_leads (Writes query true rest) picks env seen fits asked behind first now s at choices outcome left runs =
        subst (λ e. Leads (paths rest tuples (scene_of env) behind (wrote tuples s e true)) behind first s.puts outcome)
        (sym (entry_is below around picks env seen.environment seen.few query fits.0))
        (body_leads rest picks env seen fits.1 asked behind first (with_entry now (entry_in env query))
        (wrote tuples s (entry_in env query) true) (wrote_at first now s (entry_in env query) true at) choices outcome
        left runs)
    body_leads (Writes query false rest) picks env seen fits asked behind first now s at choices outcome left runs =
        subst (λ e. Leads (paths rest tuples (scene_of env) behind (wrote tuples s e false)) behind first s.puts outcome)
        (sym (entry_is below around picks env seen.environment seen.few query fits.0))
        (body_leads rest picks env seen fits.1 asked behind first (without_entry now (entry_in env query))
        (wrote tuples s (entry_in env query) false) (wrote_at first now s (entry_in env query) false at) choices outcome
        left runs)
    body_leads (Emit port changes rest) picks env seen fits asked behind first now s at choices outcome left runs =
        let packet : ℕ = packet_by (scene_of env) changes in
        let is : IsChanged env changes packet = packet_is below around picks env seen.environment changes fits.1 in
        let same : runs.packet ≡ packet =
        changed_once once env changes runs.packet packet seen.environment.headers runs.changed is in
        subst (λ o. Leads (paths rest tuples (scene_of env) behind (put_out s port packet)) behind first s.puts o)
        (sym (runs.ends ∙ ap (λ (n : ℕ). after_outputs (record { port = port; packet = n } ∷ []) runs.last) same))
        (leads_put (paths rest tuples (scene_of env) behind (put_out s port packet)) behind first s.puts
        (record { port = port; packet = packet }) runs.last
        (body_leads rest picks env seen fits.3 asked behind first now (put_out s port packet)
        (record { answered = at.answered; written = at.written }) choices runs.last left runs.second))
    body_leads (Halt rest) picks env seen fits asked behind first now s at choices outcome left runs =
        subst (λ o. Leads (aborted ∷ []) behind first s.puts o) (sym runs.0) (head_contained aborted [])
    body_leads (Fork branches rest) picks env seen fits asked behind first now s at choices outcome left
        (inl (none, runs)) =
        let xs : List Result = chosen branches tuples (scene_of env) (paths rest tuples (scene_of env) behind) s in
        let ys : List Result = paths rest tuples (scene_of env) behind s in
        let not_any : any_holds (scene_of env) (marked tuples s.mask) branches ≡ false =
        none_held picks env seen first now s at branches fits.0 (λ opened query a. asked opened query (inl a)) none in
        subst (λ b. Leads (xs ++ where_false b ys) behind first s.puts outcome) (sym not_any)
        (leads_more ys (xs ++ ys) behind first s.puts outcome (λ r there. Contains-append_right xs ys r there)
        (body_leads rest picks env seen fits.1 (λ opened query a. asked opened query (inr a)) behind first now s at
        choices outcome left runs))
    body_leads (Fork branches rest) picks env seen fits asked behind first now s at choices outcome left (inr uses) =
        let xs : List Result = chosen branches tuples (scene_of env) (paths rest tuples (scene_of env) behind) s in
        let ys : List Result =
        where_false (any_holds (scene_of env) (marked tuples s.mask) branches)
        (paths rest tuples (scene_of env) behind s) in
        leads_more xs (xs ++ ys) behind first s.puts outcome (λ r there. Contains-append_left xs ys r there)
        (sequence_leads (BranchRuns branches env uses.choice) (BodyRuns rest env) xs
        (paths rest tuples (scene_of env) behind) behind first now s.puts uses.others left outcome
        (branch_leads branches picks env seen fits.0 (λ opened query a. asked opened query (inl a))
        (paths rest tuples (scene_of env) behind) first now s at uses.choice uses.others)
        (λ p mid is. body_leads rest picks env seen fits.1 (λ opened query a. asked opened query (inr a)) behind first
        mid p is) uses.runs)
    body_leads (Each values body rest) picks env seen fits asked behind first now s at choices outcome left uses =
        let f : ℕ → List Result =
        λ value. paths body tuples (scene_of (with_pick env value)) (paths rest tuples (scene_of env) behind) s in
        sequence_leads (WithValue values (λ value. BodyRuns body (with_pick env value)) uses.choice)
        (BodyRuns rest env)
        (flat_map f (range_with_len 0 values)) (paths rest tuples (scene_of env) behind) behind first now s.puts
        uses.others left outcome
        (λ o l block. leads_more (f uses.choice) (flat_map f (range_with_len 0 values))
        (paths rest tuples (scene_of env) behind) first s.puts o
        (λ r there. into_range f r 0 values uses.choice (omega arith) (omega (arith, block.0)) there)
        (body_leads body (picks ++ values ∷ []) (with_pick env uses.choice)
        (pick_seen picks env values uses.choice seen block.0) fits.1
        (λ opened query a. asked opened query (inl (uses.choice, block.0, a)))
        (paths rest tuples (scene_of env) behind) first now s at uses.others o l block.1))
        (λ p mid is. body_leads rest picks env seen fits.2 (λ opened query a. asked opened query (inr a)) behind first
        mid p is) uses.runs

    pub branch_leads : (branches : Branches) (picks : List ℕ) (env : Environment) → IsSeen picks env →
        BranchesFit around branches picks → AreAsked env branches → (behind : Behind) (first now : List Entry)
        (s : Partial) → IsAt first now s → (number : ℕ) (choices : List ℕ) (outcome : Outcome) (left : List ℕ) →
        BranchRuns branches env number now choices outcome left →
        Leads (chosen branches tuples (scene_of env) behind s) behind first s.puts outcome
    branch_leads NoBranch picks env seen fits asked behind first now s at number choices outcome left runs =
        absurd runs
    branch_leads (OneBranch guard body more) picks env seen fits asked behind first now s at zero choices outcome left
        runs =
        let xs : List Result = paths body tuples (scene_of env) behind s in
        let ys : List Result = chosen more tuples (scene_of env) behind s in
        let holds : holds_by (scene_of env) (marked tuples s.mask) guard ≡ true =
        is_true (IsSatisfied env now guard) (holds_by (scene_of env) (marked tuples s.mask) guard)
        (guard_tells picks env seen first now s at guard fits.0 (λ query a. asked env.picked query (inl (refl, a))))
        runs.0 in
        subst (λ b. Leads (where_true b xs ++ ys) behind first s.puts outcome) (sym holds)
        (leads_more xs (xs ++ ys) behind first s.puts outcome (λ r there. Contains-append_left xs ys r there)
        (body_leads body picks env seen fits.1 (λ opened query a. asked opened query (inr (inl a))) behind first now s
        at choices outcome left runs.1))
    branch_leads (OneBranch guard body more) picks env seen fits asked behind first now s at (suc number) choices
        outcome left runs =
        let xs : List Result =
        where_true (holds_by (scene_of env) (marked tuples s.mask) guard) (paths body tuples (scene_of env) behind s) in
        let ys : List Result = chosen more tuples (scene_of env) behind s in
        leads_more ys (xs ++ ys) behind first s.puts outcome (λ r there. Contains-append_right xs ys r there)
        (branch_leads more picks env seen fits.2 (λ opened query a. asked opened query (inr (inr a))) behind first now s
        at number choices outcome left runs)

  -- each result comes from an execution: where a path goes on to a result
  abbrev pub GoesTo : Behind → List Entry → List Put → Result → Outcome → Type 0
  GoesTo behind first puts r Aborted = r ≡ aborted
  GoesTo behind first puts r (Done left outputs) =
      (p : Partial) × IsAt first left p × (map emission_of p.puts ≡ map emission_of puts ++ outputs)
      × Contains (behind p) r

  pub record Comes (runs : Behaviour) (behind : Behind) (first now : List Entry) (puts : List Put) (r : Result) :
      Type 0 where
    pub used : List ℕ
    pub outcome : Outcome
    pub runs_so : (left : List ℕ) → runs now (used ++ left) outcome left
    pub goes : GoesTo behind first puts r outcome

  goes_put : (behind : Behind) (first : List Entry) (puts : List Put) (put : Put) (r : Result) (outcome : Outcome) →
      GoesTo behind first (puts ++ put ∷ []) r outcome →
      GoesTo behind first puts r (after_outputs (emission_of put ∷ []) outcome)
  goes_put behind first puts put r Aborted goes = goes
  goes_put behind first puts put r (Done left outputs) goes =
      (goes.0, goes.1, goes.2 ∙ put_first puts put outputs, goes.3)

  module _ (block rest : Behaviour) (mid_behind behind : Behind) (first now : List Entry) (puts : List Put)
      (r : Result) where
    sequence_comes : Comes block mid_behind first now puts r →
        ((p : Partial) (mid : List Entry) → IsAt first mid p → Contains (mid_behind p) r →
        Comes rest behind first mid p.puts r) → Comes (InSequence block rest) behind first now puts r
    sequence_comes one later = by one.outcome one.runs_so one.goes
      where
        by : (o : Outcome) → ((left : List ℕ) → block now (one.used ++ left) o left) →
            GoesTo mid_behind first puts r o → Comes (InSequence block rest) behind first now puts r
        by Aborted runs goes = record {
          used = one.used;
          outcome = Aborted;
          runs_so = λ left. inl (runs left, refl);
          goes = goes;
        }
        by (Done mid outputs) runs goes =
            let two = later goes.0 mid goes.1 goes.3 in
            record {
              used = one.used ++ two.used;
              outcome = after_outputs outputs two.outcome;
              runs_so = λ left. inr record {
                mid = mid;
                outputs = outputs;
                unused = two.used ++ left;
                last = two.outcome;
                first = subst (λ c. block now c (Done mid outputs) (two.used ++ left))
                    (sym (append_assoc one.used two.used left)) (runs (two.used ++ left));
                second = two.runs_so left;
                ends = refl;
              };
              goes = joined two.outcome two.goes;
            }
          where
            joined : (last : Outcome) → GoesTo behind first goes.0.puts r last →
                GoesTo behind first puts r (after_outputs outputs last)
            joined Aborted two = two
            joined (Done left more) two = (
              two.0,
              two.1,
              two.2 ∙ ap (λ (l : List Emission). l ++ more) goes.2
                  ∙ append_assoc (map emission_of puts) outputs more,
              two.3,
            )

  by_choice : (block : ℕ → Behaviour) (rest : Behaviour) (choice : ℕ) (behind : Behind) (first now : List Entry)
      (puts : List Put) (r : Result) → Comes (InSequence (block choice) rest) behind first now puts r →
      Comes (UsesChoice block rest) behind first now puts r
  by_choice block rest choice behind first now puts r one = record {
    used = choice ∷ one.used;
    outcome = one.outcome;
    runs_so = λ left. record { choice = choice; others = one.used ++ left; next = refl; runs = one.runs_so left };
    goes = one.goes;
  }

  mutual
    pub body_comes : (body : Body) (picks : List ℕ) (env : Environment) → IsSeen picks env → Fits around body picks →
        IsAsked env body → (behind : Behind) (first now : List Entry) (s : Partial) → IsAt first now s →
        (r : Result) → Contains (paths body tuples (scene_of env) behind s) r →
        Comes (BodyRuns body env) behind first now s.puts r
    body_comes Stop picks env seen fits asked behind first now s at r there = record {
      used = [];
      outcome = Done now [];
      runs_so = λ left. (refl, refl);
      goes = (s, at, sym (append-nil (map emission_of s.puts)), there);
    }
    body_comes (Writes query true rest) picks env seen fits asked behind first now s at r there =
        let entry : entry_by (scene_of env) query ≡ entry_in env query =
        entry_is below around picks env seen.environment seen.few query fits.0 in
        let one =
        body_comes rest picks env seen fits.1 asked behind first (with_entry now (entry_in env query))
        (wrote tuples s (entry_in env query) true) (wrote_at first now s (entry_in env query) true at) r
        (subst (λ e. Contains (paths rest tuples (scene_of env) behind (wrote tuples s e true)) r) entry there) in
        record { used = one.used; outcome = one.outcome; runs_so = one.runs_so; goes = one.goes }
    body_comes (Writes query false rest) picks env seen fits asked behind first now s at r there =
        let entry : entry_by (scene_of env) query ≡ entry_in env query =
        entry_is below around picks env seen.environment seen.few query fits.0 in
        let one =
        body_comes rest picks env seen fits.1 asked behind first (without_entry now (entry_in env query))
        (wrote tuples s (entry_in env query) false) (wrote_at first now s (entry_in env query) false at) r
        (subst (λ e. Contains (paths rest tuples (scene_of env) behind (wrote tuples s e false)) r) entry there) in
        record { used = one.used; outcome = one.outcome; runs_so = one.runs_so; goes = one.goes }
    body_comes (Emit port changes rest) picks env seen fits asked behind first now s at r there =
        let packet : ℕ = packet_by (scene_of env) changes in
        let is : IsChanged env changes packet = packet_is below around picks env seen.environment changes fits.1 in
        let one =
        body_comes rest picks env seen fits.3 asked behind first now (put_out s port packet)
        (record { answered = at.answered; written = at.written }) r there in
        record {
          used = one.used;
          outcome = after_outputs (record { port = port; packet = packet } ∷ []) one.outcome;
          runs_so = λ left. record {
            packet = packet;
            changed = is;
            last = one.outcome;
            second = one.runs_so left;
            ends = refl;
          };
          goes = goes_put behind first s.puts (record { port = port; packet = packet }) r one.outcome one.goes;
        }
    body_comes (Halt rest) picks env seen fits asked behind first now s at r there = record {
      used = [];
      outcome = Aborted;
      runs_so = λ left. (refl, refl);
      goes = only_one aborted r there;
    }
    body_comes (Fork branches rest) picks env seen fits asked behind first now s at r there =
        let any : Bool = any_holds (scene_of env) (marked tuples s.mask) branches in
        let xs : List Result = chosen branches tuples (scene_of env) (paths rest tuples (scene_of env) behind) s in
        let ys : List Result = paths rest tuples (scene_of env) behind s in
        let right : AreAsked env branches = λ opened query a. asked opened query (inl a) in
        let after : IsAsked env rest = λ opened query a. asked opened query (inr a) in
        elim (Contains-append_cases xs (where_false any ys) r there) [
          | inl taken ↦
              let one =
              branch_comes branches picks env seen fits.0 right (paths rest tuples (scene_of env) behind) first now s
              at r taken in
              let both =
              by_choice (BranchRuns branches env) (BodyRuns rest env) one.0 behind first now s.puts r
              (sequence_comes (BranchRuns branches env one.0) (BodyRuns rest env)
              (paths rest tuples (scene_of env) behind) behind first now s.puts r one.1
              (λ p mid is on. body_comes rest picks env seen fits.1 after behind first mid p is r on)) in
              record {
                used = both.used;
                outcome = both.outcome;
                runs_so = λ left. inr (both.runs_so left);
                goes = both.goes;
              }
          | inr on ↦
              let none = where_none any ys r on in
              let one = body_comes rest picks env seen fits.1 after behind first now s at r none.1 in
              record {
                used = one.used;
                outcome = one.outcome;
                runs_so = λ left.
                    inl (none_true picks env seen first now s at branches fits.0 right none.0, one.runs_so left);
                goes = one.goes;
              }
        ]
    body_comes (Each values body rest) picks env seen fits asked behind first now s at r there =
        let f : ℕ → List Result =
        λ value. paths body tuples (scene_of (with_pick env value)) (paths rest tuples (scene_of env) behind) s in
        let found = out_of_range f r 0 values there in
        let less : found.0 < values = omega (arith, found.1) in
        let one =
        body_comes body (picks ++ values ∷ []) (with_pick env found.0) (pick_seen picks env values found.0 seen less)
        fits.1 (λ opened query a. asked opened query (inl (found.0, less, a)))
        (paths rest tuples (scene_of env) behind) first now s at r found.2 in
        by_choice (WithValue values (λ value. BodyRuns body (with_pick env value))) (BodyRuns rest env) found.0 behind
        first now s.puts r
        (sequence_comes (WithValue values (λ value. BodyRuns body (with_pick env value)) found.0) (BodyRuns rest env)
        (paths rest tuples (scene_of env) behind) behind first now s.puts r
        (record {
          used = one.used;
          outcome = one.outcome;
          runs_so = λ left. (less, one.runs_so left);
          goes = one.goes;
        })
        (λ p mid is on. body_comes rest picks env seen fits.2 (λ opened query a. asked opened query (inr a)) behind
        first mid p is r on))

    pub branch_comes : (branches : Branches) (picks : List ℕ) (env : Environment) → IsSeen picks env →
        BranchesFit around branches picks → AreAsked env branches → (behind : Behind) (first now : List Entry)
        (s : Partial) → IsAt first now s → (r : Result) →
        Contains (chosen branches tuples (scene_of env) behind s) r →
        (number : ℕ) × Comes (BranchRuns branches env number) behind first now s.puts r
    branch_comes NoBranch picks env seen fits asked behind first now s at r there = absurd (none_contained r there)
    branch_comes (OneBranch guard body more) picks env seen fits asked behind first now s at r there =
        let holds : Bool = holds_by (scene_of env) (marked tuples s.mask) guard in
        let xs : List Result = paths body tuples (scene_of env) behind s in
        let ys : List Result = chosen more tuples (scene_of env) behind s in
        elim (Contains-append_cases (where_true holds xs) ys r there) [
          | inl here ↦
              let some = where_some holds xs r here in
              let satisfied : IsSatisfied env now guard =
              true_of (IsSatisfied env now guard) holds
              (guard_tells picks env seen first now s at guard fits.0
              (λ query a. asked env.picked query (inl (refl, a)))) some.0 in
              let one =
              body_comes body picks env seen fits.1 (λ opened query a. asked opened query (inr (inl a))) behind first
              now s at r some.1 in (
                zero,
                record {
                  used = one.used;
                  outcome = one.outcome;
                  runs_so = λ left. (satisfied, one.runs_so left);
                  goes = one.goes;
                },
              )
          | inr later ↦
              let one =
              branch_comes more picks env seen fits.2 (λ opened query a. asked opened query (inr (inr a))) behind
              first now s at r later in (
                suc one.0,
                record {
                  used = one.1.used;
                  outcome = one.1.outcome;
                  runs_so = one.1.runs_so;
                  goes = one.1.goes;
                },
              )
        ]
