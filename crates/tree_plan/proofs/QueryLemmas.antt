-- The queries of handlers, gathered one after another.
use Rattle.std.proofs.Common.{◌≡◌, ℕ, suc, ◌+◌, ◌-◌, ◌<◌, ◌≤◌, ◌&&◌, ◌||◌, Bool, true, false, not, cond, List, [], ◌∷◌}
use Rattle.std.proofs.Common.{◌++◌, length, take, drop, get_or, map, Option, Some, None, refl, sym, ap, subst, ◌∙◌}
use Rattle.std.proofs.Common.{append_assoc}
use Rattle.std.proofs.Common.{append-nil, arith, nat_lt, length-append, inl, inr}
use Rattle.std.specs.Cmp.Lexicographic.{pointwise}
use Rattle.std.specs.List.{filter, flat_map, list_any, range_with_len}
use Rattle.std.proofs.lemmas.List.{drop_all}
use Rattle.std.proofs.lemmas.List.Folds.{list_any-append}
use Rattle.std.proofs.lemmas.List.Sums.{fold-append}
use Rattle.std.proofs.lemmas.Option.{slice_get_past, slice_get-get_or}
use Rattle.box_handlers.specs.declared.act.Term.{Term}
use Rattle.box_handlers.specs.declared.act.Term.TheVariants as term
use Rattle.box_handlers.specs.declared.act.Change.{Change}
use Rattle.box_handlers.specs.declared.act.Query.{Query}
use Rattle.box_handlers.specs.declared.act.Probe.{Probe}
use Rattle.box_handlers.specs.declared.act.Probe.TheVariants as probe
use Rattle.box_handlers.specs.declared.act.Test.{Test}
use Rattle.box_handlers.specs.declared.act.Act.{Act}
use Rattle.box_handlers.specs.declared.act.Act.TheVariants as act
use Rattle.box_handlers.specs.declared.act.Act.TheOpen.{Act-F}
use Rattle.box_handlers.specs.declared.act.Act.TheViews.{out-Act}
use Rattle.box_handlers.specs.declared.act.Act.TheFolds.{map-Act, fold_out-Act}
use Rattle.box_handlers.specs.declared.act.Branch.{Branch}
use Rattle.box_handlers.specs.Body.{Body, Stop, Branches, all_of, any_of, act_layer, branch_layer, before_of_act}
use Rattle.box_handlers.specs.Body.{before_of_branch, body_of, branches_of, formula_of, formula_of_probe}
use Rattle.box_handlers.specs.Queries.{filled, filled_by, filled_term, asked_by, asked_by_branches, asked_by_formula}
use Rattle.box_handlers.specs.Queries.{same_term, same_query, first_occurrences, queries_of}
use Rattle.box_handlers.specs.Laws.{SameQueryIsEqual}
use Rattle.box_handlers.proofs.BodyLemmas.{bodies_read, formulas_read}
use Rattle.std.proofs.lemmas.Bool.{cases_Bool, cases_lt, lt-ltb, le-ltb}
use Rattle.std.proofs.lemmas.List.{take_all, length-take-le}
use Rattle.std.proofs.Math.Seq.{take-append_seam}
use Rattle.tree_plan.specs.Gathered.{put_once, with_query, with_queries, asked_by_handlers}
use Rattle.tree_plan.proofs.StepLemmas.{next_part}

-- a part is gathered, and then those behind it
gather_step : (most : Option ℕ) (now new front behind whole : List Query) → with_queries most now (front ++ behind) ≡ whole →
    new ≡ with_queries most now front → with_queries most new behind ≡ whole
gather_step most now new front behind whole before added =
    ap (λ t. with_queries most t behind) added ∙ sym (fold-append (with_query most) now front behind) ∙ before

pub gathered_twice : (most : Option ℕ) (start mid end front behind : List Query) → mid ≡ with_queries most start front →
    end ≡ with_queries most mid behind → end ≡ with_queries most start (front ++ behind)
gathered_twice most start mid end front behind one two =
    two ∙ ap (λ t. with_queries most t behind) one ∙ sym (fold-append (with_query most) start front behind)

-- what a statement asks stands in front of what those behind it ask
layer_apart : (layer : Act-F (Body → Body) (Branches → Branches)) (rest : Body) (picked : List ℕ) →
    asked_by (act_layer layer rest) picked ≡ asked_by (act_layer layer Stop) picked ++ asked_by rest picked
layer_apart (Act-F.Insert query) rest picked = refl
layer_apart (Act-F.Remove query) rest picked = refl
layer_apart (Act-F.Output port changes) rest picked = refl
layer_apart Act-F.Abort rest picked = refl
layer_apart (Act-F.Choose branches) rest picked = ap (λ t. t ++ asked_by rest picked) (sym (append-nil _))
layer_apart (Act-F.Pick values body) rest picked = ap (λ t. t ++ asked_by rest picked) (sym (append-nil _))

asked_apart : (one : Act) (rest : Body) (picked : List ℕ) →
    asked_by (before_of_act one rest) picked ≡ asked_by (before_of_act one Stop) picked ++ asked_by rest picked
unfolding before_of_act before_of_branch
asked_apart one rest picked =
    subst (λ f. asked_by (f rest) picked ≡ asked_by (f Stop) picked ++ asked_by rest picked)
    (sym (fold_out-Act (Body → Body) (Branches → Branches) act_layer branch_layer one))
    (layer_apart
    (map-Act Act Branch (Body → Body) (Branches → Branches) before_of_act before_of_branch
    (out-Act one)) rest picked)

pub acts_more : (most : Option ℕ) (picked : List ℕ) (acts : List Act) (i : ℕ) (one : Act) (now new whole : List Query) → i < length acts →
    one ≡ get_or acts i one →
    with_queries most now (asked_by (body_of (drop i acts)) picked) ≡ whole →
    new ≡ with_queries most now (asked_by (body_of (one ∷ [])) picked) →
    with_queries most new (asked_by (body_of (drop (i + 1) acts)) picked) ≡ whole
acts_more most picked acts i one now new whole inside here before added =
    let rest = body_of (drop (i + 1) acts) in
    gather_step most now new (asked_by (body_of (one ∷ [])) picked) (asked_by rest picked) whole
    (ap (with_queries most now)
    (sym (ap (λ t. asked_by (body_of t) picked) (next_part acts i one inside here) ∙ asked_apart one rest picked))
    ∙ before) added

pub acts_done : (most : Option ℕ) (picked : List ℕ) (acts : List Act) (i : ℕ) (now whole : List Query) → length acts ≤ i →
    with_queries most now (asked_by (body_of (drop i acts)) picked) ≡ whole → now ≡ whole
acts_done most picked acts i now whole all before =
    ap (λ t. with_queries most now (asked_by (body_of t) picked)) (sym (drop_all i acts all)) ∙ before

-- what each form of a statement asks
module _ (picked : List ℕ) where
  pub insert_asks : (query : Query) → asked_by (body_of (act.Insert query ∷ [])) picked ≡ []
  insert_asks query = ap (λ b. asked_by b picked) (bodies_read.insert query [])

  pub remove_asks : (query : Query) → asked_by (body_of (act.Remove query ∷ [])) picked ≡ []
  remove_asks query = ap (λ b. asked_by b picked) (bodies_read.remove query [])

  pub output_asks : (port : ℕ) (changes : List Change) → asked_by (body_of (act.Output port changes ∷ [])) picked ≡ []
  output_asks port changes = ap (λ b. asked_by b picked) (bodies_read.output port changes [])

  pub abort_asks : asked_by (body_of (act.Abort ∷ [])) picked ≡ []
  abort_asks = ap (λ b. asked_by b picked) (bodies_read.abort [])

  pub choose_asks : (branches : List Branch) →
      asked_by (body_of (act.Choose branches ∷ [])) picked ≡ asked_by_branches (branches_of branches) picked
  choose_asks branches = ap (λ b. asked_by b picked) (bodies_read.choose branches []) ∙ append-nil _

  pub pick_asks : (values : ℕ) (body : List Act) →
      asked_by (body_of (act.Pick values body ∷ [])) picked
      ≡ flat_map (λ value. asked_by (body_of body) (picked ++ value ∷ [])) (range_with_len 0 values)
  pick_asks values body = ap (λ b. asked_by b picked) (bodies_read.pick values body []) ∙ append-nil _

-- the branches of a choice
branch_asked : List ℕ → Branch → List Query
branch_asked picked branch = asked_by_formula picked (formula_of branch.guard) ++ asked_by (body_of branch.body) picked

pub branches_more : (most : Option ℕ) (picked : List ℕ) (branches : List Branch) (i : ℕ) (branch : Branch) (now new whole : List Query) →
    i < length branches → branch ≡ get_or branches i branch →
    with_queries most now (asked_by_branches (branches_of (drop i branches)) picked) ≡ whole →
    new ≡ with_queries most now
    (asked_by_formula picked (formula_of branch.guard) ++ asked_by (body_of branch.body) picked) →
    with_queries most new (asked_by_branches (branches_of (drop (i + 1) branches)) picked) ≡ whole
branches_more most picked branches i branch now new whole inside here before added =
    let more = drop (i + 1) branches in
    gather_step most now new (asked_by_formula picked (formula_of branch.guard) ++ asked_by (body_of branch.body) picked)
    (asked_by_branches (branches_of more) picked) whole
    (ap (with_queries most now)
    (sym
    (ap (λ t. asked_by_branches (branches_of t) picked) (next_part branches i branch inside here)
    ∙ ap (λ b. asked_by_branches b picked) (bodies_read.branch branch more))) ∙ before) added

pub branches_done : (most : Option ℕ) (picked : List ℕ) (branches : List Branch) (i : ℕ) (now whole : List Query) → length branches ≤ i →
    with_queries most now (asked_by_branches (branches_of (drop i branches)) picked) ≡ whole → now ≡ whole
branches_done most picked branches i now whole all before =
    ap (λ t. with_queries most now (asked_by_branches (branches_of t) picked)) (sym (drop_all i branches all)) ∙ before

-- the values of a pick
pub pick_more : (most : Option ℕ) (picked : List ℕ) (body : List Act) (values value : ℕ) (now new whole : List Query) → value < values →
    with_queries most now
    (flat_map (λ value. asked_by (body_of body) (picked ++ value ∷ [])) (range_with_len value (values - value)))
    ≡ whole →
    new ≡ with_queries most now (asked_by (body_of body) (picked ++ value ∷ [])) →
    with_queries most new
    (flat_map (λ value. asked_by (body_of body) (picked ++ value ∷ []))
    (range_with_len (value + 1) (values - (value + 1)))) ≡ whole
pick_more most picked body values value now new whole inside before added =
    let more : values - value ≡ suc (values - (value + 1)) = omega (arith, inside) in
    gather_step most now new (asked_by (body_of body) (picked ++ value ∷ []))
    (flat_map (λ value. asked_by (body_of body) (picked ++ value ∷ []))
    (range_with_len (value + 1) (values - (value + 1)))) whole
    (ap (λ n. with_queries most now
    (flat_map (λ value. asked_by (body_of body) (picked ++ value ∷ [])) (range_with_len value n))) (sym more)
    ∙ before) added

pub pick_done : (most : Option ℕ) (picked : List ℕ) (body : List Act) (values value : ℕ) (now whole : List Query) → values ≤ value →
    with_queries most now
    (flat_map (λ value. asked_by (body_of body) (picked ++ value ∷ [])) (range_with_len value (values - value)))
    ≡ whole → now ≡ whole
pick_done most picked body values value now whole all before =
    let none : values - value ≡ 0 = omega (arith, all) in
    ap (λ n. with_queries most now
    (flat_map (λ value. asked_by (body_of body) (picked ++ value ∷ [])) (range_with_len value n))) (sym none)
    ∙ before

-- the lists of a test, and the probes of a list
pub test_more : (most : Option ℕ) (picked : List ℕ) (lists : List (List Probe)) (i : ℕ) (probes : List Probe)
    (now new whole : List Query) → i < length lists → probes ≡ get_or lists i probes →
    with_queries most now (asked_by_formula picked (any_of (map (map formula_of_probe) (drop i lists)))) ≡ whole →
    new ≡ with_queries most now (asked_by_formula picked (all_of (map formula_of_probe probes))) →
    with_queries most new (asked_by_formula picked (any_of (map (map formula_of_probe) (drop (i + 1) lists)))) ≡ whole
test_more most picked lists i probes now new whole inside here before added =
    gather_step most now new (asked_by_formula picked (all_of (map formula_of_probe probes)))
    (asked_by_formula picked (any_of (map (map formula_of_probe) (drop (i + 1) lists)))) whole
    (ap (λ t. with_queries most now (asked_by_formula picked (any_of (map (map formula_of_probe) t))))
    (sym (next_part lists i probes inside here)) ∙ before) added

pub test_done : (most : Option ℕ) (picked : List ℕ) (test : Test) (i : ℕ) (now start : List Query) → length test.any ≤ i →
    with_queries most now (asked_by_formula picked (any_of (map (map formula_of_probe) (drop i test.any))))
    ≡ with_queries most start (asked_by_formula picked (any_of (map (map formula_of_probe) test.any))) →
    now ≡ with_queries most start (asked_by_formula picked (formula_of test))
test_done most picked test i now start all before =
    ap (λ t. with_queries most now (asked_by_formula picked (any_of (map (map formula_of_probe) t))))
    (sym (drop_all i test.any all)) ∙ before
    ∙ ap (λ t. with_queries most start (asked_by_formula picked t)) (sym (formulas_read.test test))

pub probes_more : (most : Option ℕ) (picked : List ℕ) (probes : List Probe) (i : ℕ) (one : Probe) (now new whole : List Query) →
    i < length probes → one ≡ get_or probes i one →
    with_queries most now (asked_by_formula picked (all_of (map formula_of_probe (drop i probes)))) ≡ whole →
    new ≡ with_queries most now (asked_by_formula picked (formula_of_probe one)) →
    with_queries most new (asked_by_formula picked (all_of (map formula_of_probe (drop (i + 1) probes)))) ≡ whole
probes_more most picked probes i one now new whole inside here before added =
    gather_step most now new (asked_by_formula picked (formula_of_probe one))
    (asked_by_formula picked (all_of (map formula_of_probe (drop (i + 1) probes)))) whole
    (ap (λ t. with_queries most now (asked_by_formula picked (all_of (map formula_of_probe t))))
    (sym (next_part probes i one inside here)) ∙ before) added

pub probes_done : (most : Option ℕ) (picked : List ℕ) (probes : List Probe) (i : ℕ) (now whole : List Query) → length probes ≤ i →
    with_queries most now (asked_by_formula picked (all_of (map formula_of_probe (drop i probes)))) ≡ whole → now ≡ whole
probes_done most picked probes i now whole all before =
    ap (λ t. with_queries most now (asked_by_formula picked (all_of (map formula_of_probe t)))) (sym (drop_all i probes all))
    ∙ before

-- what each form of a probe asks
module _ (picked : List ℕ) where
  pub true_asks : asked_by_formula picked (formula_of_probe probe.True) ≡ []
  true_asks = ap (asked_by_formula picked) formulas_read.always

  pub has_asks : (query : Query) →
      asked_by_formula picked (formula_of_probe (probe.Has query)) ≡ filled picked query ∷ []
  has_asks query = ap (asked_by_formula picked) (formulas_read.has query)

  pub same_asks : (one two : Term) → asked_by_formula picked (formula_of_probe (probe.Same one two)) ≡ []
  same_asks one two = ap (asked_by_formula picked) (formulas_read.same one two)

  pub differ_asks : (one two : Term) → asked_by_formula picked (formula_of_probe (probe.Differ one two)) ≡ []
  differ_asks one two = ap (asked_by_formula picked) (formulas_read.differ one two)

  pub not_asks : (inner : Probe) →
      asked_by_formula picked (formula_of_probe (probe.Not inner)) ≡ asked_by_formula picked (formula_of_probe inner)
  not_asks inner = ap (asked_by_formula picked) (formulas_read.deny inner)

  pub group_asks : (test : Test) →
      asked_by_formula picked (formula_of_probe (probe.Group test)) ≡ asked_by_formula picked (formula_of test)
  group_asks test = ap (asked_by_formula picked) (formulas_read.group test)

-- a pick that is open, and one that isn't
pub filled_open : (picked : List ℕ) (i value : ℕ) → i < length picked → value ≡ get_or picked i value →
    term.Value value ≡ filled_term picked (term.Picked i)
filled_open picked i value inside here =
    ap (λ t. filled_by t (term.Picked i)) (ap Some here ∙ sym (slice_get-get_or picked i value inside))

pub filled_past : (picked : List ℕ) (i : ℕ) → length picked ≤ i → term.Picked i ≡ filled_term picked (term.Picked i)
filled_past picked i past = ap (λ t. filled_by t (term.Picked i)) (sym (slice_get_past picked i past))

-- two lists of terms are compared place by place
pub lengths_differ : (ones twos : List Term) → (length ones ≡ length twos → ⊥) → false ≡ pointwise same_term ones twos
lengths_differ [] [] e = absurd (e refl)
lengths_differ [] (two ∷ twos) e = refl
lengths_differ (one ∷ ones) [] e = refl
lengths_differ (one ∷ ones) (two ∷ twos) e = by (same_term one two) (lengths_differ ones twos (λ long. e (ap suc long)))
  where
    by : (b : Bool) → false ≡ pointwise same_term ones twos → false ≡ (b && pointwise same_term ones twos)
    by true rest = rest
    by false rest = refl

terms_step : (ones twos : List Term) (i : ℕ) (one two : Term) → i < length ones → one ≡ get_or ones i one →
    i < length twos → two ≡ get_or twos i two →
    pointwise same_term (drop i ones) (drop i twos)
    ≡ (same_term one two && pointwise same_term (drop (i + 1) ones) (drop (i + 1) twos))
terms_step ones twos i one two in_ones at_one in_twos at_two =
    λ k. pointwise same_term (next_part ones i one in_ones at_one k) (next_part twos i two in_twos at_two k)

pub terms_more : (ones twos : List Term) (i : ℕ) (one two : Term) → i < length ones → one ≡ get_or ones i one →
    i < length twos → two ≡ get_or twos i two →
    pointwise same_term ones twos ≡ pointwise same_term (drop i ones) (drop i twos) → same_term one two ≡ true →
    pointwise same_term ones twos ≡ pointwise same_term (drop (i + 1) ones) (drop (i + 1) twos)
terms_more ones twos i one two in_ones at_one in_twos at_two before same =
    before ∙ terms_step ones twos i one two in_ones at_one in_twos at_two
    ∙ ap (λ b. b && pointwise same_term (drop (i + 1) ones) (drop (i + 1) twos)) same

pub terms_apart : (ones twos : List Term) (i : ℕ) (one two : Term) → i < length ones → one ≡ get_or ones i one →
    i < length twos → two ≡ get_or twos i two →
    pointwise same_term ones twos ≡ pointwise same_term (drop i ones) (drop i twos) → same_term one two ≡ false →
    false ≡ pointwise same_term ones twos
terms_apart ones twos i one two in_ones at_one in_twos at_two before other =
    sym (before ∙ terms_step ones twos i one two in_ones at_one in_twos at_two
    ∙ ap (λ b. b && pointwise same_term (drop (i + 1) ones) (drop (i + 1) twos)) other)

pub terms_done : (ones twos : List Term) (i : ℕ) → length ones ≤ i → length ones ≡ length twos →
    pointwise same_term ones twos ≡ pointwise same_term (drop i ones) (drop i twos) →
    true ≡ pointwise same_term ones twos
terms_done ones twos i all long before =
    sym (before ∙ (λ k. pointwise same_term (drop_all i ones all k) (drop_all i twos (omega (arith, all, long)) k)))

-- what is gathered is each query where it comes first

filter_all : {X : Type 0} (xs : List X) → filter (λ x. true) xs ≡ xs
filter_all [] = refl
filter_all (x ∷ xs) = ap (λ ys. x ∷ ys) (filter_all xs)

-- a filter that implies another makes it needless
filter_within : {X : Type 0} (one two : X → Bool) → ((x : X) → one x ≡ true → two x ≡ true) → (xs : List X) →
    filter one (filter two xs) ≡ filter one xs
filter_within one two implies [] = refl
filter_within one two implies (x ∷ xs) = by (one x) (two x) refl refl (filter_within one two implies xs)
  where
    by : (a b : Bool) → one x ≡ a → two x ≡ b → filter one (filter two xs) ≡ filter one xs →
        filter one (filter two (x ∷ xs)) ≡ filter one (x ∷ xs)
    by a true e f rest =
        ap (λ t. filter one (cond t (x ∷ filter two xs) (filter two xs))) f ∙ ap (λ ys. cond (one x) (x ∷ ys) ys) rest
    by true false e f rest = absurd (let clash : false ≡ true = sym f ∙ implies x e in cc)
    by false false e f rest =
        ap (λ t. filter one (cond t (x ∷ filter two xs) (filter two xs))) f ∙ rest
        ∙ ap (λ t. cond t (x ∷ filter one xs) (filter one xs)) (sym e)

-- a filter by both of two tests is one filter after the other
filter_both : {X : Type 0} (both one two : X → Bool) → ((x : X) → both x ≡ (two x && one x)) → (xs : List X) →
    filter both xs ≡ filter one (filter two xs)
filter_both both one two is [] = refl
filter_both both one two is (x ∷ xs) = by (two x) refl (filter_both both one two is xs)
  where
    by : (b : Bool) → two x ≡ b → filter both xs ≡ filter one (filter two xs) →
        filter both (x ∷ xs) ≡ filter one (filter two (x ∷ xs))
    by true f rest =
        ap (λ t. cond t (x ∷ filter both xs) (filter both xs)) (is x ∙ ap (λ t. t && one x) f)
        ∙ ap (λ ys. cond (one x) (x ∷ ys) ys) rest
        ∙ ap (λ t. filter one (cond t (x ∷ filter two xs) (filter two xs))) (sym f)
    by false f rest =
        ap (λ t. cond t (x ∷ filter both xs) (filter both xs)) (is x ∙ ap (λ t. t && one x) f)
        ∙ rest ∙ ap (λ t. filter one (cond t (x ∷ filter two xs) (filter two xs))) (sym f)

-- whether a query is among those so far
abbrev among : List Query → Query → Bool
among queries query = list_any (λ other. same_query other query) queries

-- what isn't among them is another query than each that is
is_new : SameQueryIsEqual → (queries : List Query) (query : Query) → among queries query ≡ true → (other : Query) →
    not (among queries other) ≡ true → not (same_query query other) ≡ true
is_new law queries query held other new = by (same_query query other) refl
  where
    by : (b : Bool) → same_query query other ≡ b → not (same_query query other) ≡ true
    by false e = ap not e
    by true e =
        absurd
        (let clash : not true ≡ true = ap not (sym held ∙ ap (among queries) ((law query other).0 e)) ∙ new in cc)

not_either : (a b : Bool) → not (a || (b || false)) ≡ (not b && not a)
not_either true true = refl
not_either true false = refl
not_either false true = refl
not_either false false = refl

gathered : SameQueryIsEqual → (now asked : List Query) →
    with_queries None now asked ≡ now ++ filter (λ other. not (among now other)) (first_occurrences asked)
gathered law now [] = sym (append-nil now)
gathered law now (query ∷ asked) =
    by (among now query) refl (gathered law now asked) (gathered law (now ++ query ∷ []) asked)
  where
    by : (b : Bool) → among now query ≡ b →
        with_queries None now asked ≡ now ++ filter (λ other. not (among now other)) (first_occurrences asked) →
        with_queries None (now ++ query ∷ []) asked ≡ (now ++ query ∷ [])
        ++ filter (λ other. not (among (now ++ query ∷ []) other)) (first_occurrences asked) →
        with_queries None now (query ∷ asked) ≡ now
        ++ filter (λ other. not (among now other)) (first_occurrences (query ∷ asked))
    by true e kept put =
        ap (λ t. with_queries None (cond t now (now ++ query ∷ [])) asked) e ∙ kept
        ∙ ap (λ t. now ++ t)
        (sym (filter_within (λ other. not (among now other)) (λ other. not (same_query query other))
        (is_new law now query e) (first_occurrences asked))
        ∙ ap (λ t. cond (not t)
        (query
        ∷ filter (λ other. not (among now other))
        (filter (λ other. not (same_query query other)) (first_occurrences asked)))
        (filter (λ other. not (among now other))
        (filter (λ other. not (same_query query other)) (first_occurrences asked)))) (sym e))
    by false e kept put =
        ap (λ t. with_queries None (cond t now (now ++ query ∷ [])) asked) e ∙ put
        ∙ append_assoc now (query ∷ [])
        (filter (λ other. not (among (now ++ query ∷ []) other)) (first_occurrences asked))
        ∙ ap (λ t. now ++ query ∷ t)
        (filter_both (λ other. not (among (now ++ query ∷ []) other)) (λ other. not (among now other))
        (λ other. not (same_query query other))
        (λ other. ap not (list_any-append (λ one. same_query one other) now (query ∷ []))
        ∙ not_either (among now other) (same_query query other)) (first_occurrences asked))
        ∙ ap (λ t. now
        ++ cond (not t)
        (query
        ∷ filter (λ other. not (among now other))
        (filter (λ other. not (same_query query other)) (first_occurrences asked)))
        (filter (λ other. not (among now other))
        (filter (λ other. not (same_query query other)) (first_occurrences asked)))) (sym e)

pub handlers_more : (most : Option ℕ) (handlers : List (List Act)) (i : ℕ) (acts : List Act) (now new whole : List Query) →
    i < length handlers → acts ≡ get_or handlers i acts →
    with_queries most now (flat_map (λ acts. asked_by (body_of acts) []) (drop i handlers)) ≡ whole →
    new ≡ with_queries most now (asked_by (body_of acts) []) →
    with_queries most new (flat_map (λ acts. asked_by (body_of acts) []) (drop (i + 1) handlers)) ≡ whole
handlers_more most handlers i acts now new whole inside here before added =
    gather_step most now new (asked_by (body_of acts) [])
    (flat_map (λ acts. asked_by (body_of acts) []) (drop (i + 1) handlers)) whole
    (ap (λ t. with_queries most now (flat_map (λ acts. asked_by (body_of acts) []) t))
    (sym (next_part handlers i acts inside here)) ∙ before) added

pub handlers_done : (most : Option ℕ) (handlers : List (List Act)) (i : ℕ) (now : List Query) → length handlers ≤ i →
    with_queries most now (asked_by_handlers (drop i handlers)) ≡ with_queries most [] (asked_by_handlers handlers) →
    now ≡ with_queries most [] (asked_by_handlers handlers)
handlers_done most handlers i now all before =
    ap (λ t. with_queries most now (asked_by_handlers t)) (sym (drop_all i handlers all)) ∙ before

-- without a limit these are the queries
without_limit : SameQueryIsEqual → (handlers : List (List Act)) →
    with_queries None [] (asked_by_handlers handlers) ≡ queries_of handlers
without_limit law handlers = gathered law [] (asked_by_handlers handlers) ∙ filter_all _

pub all_asked : SameQueryIsEqual → (handlers : List (List Act)) (found : List Query) →
    found ≡ with_queries None [] (asked_by_handlers handlers) → found ≡ queries_of handlers
all_asked law handlers found is = is ∙ without_limit law handlers

-- without a limit, what was gathered stays in front
grows : (start asked : List Query) → (more : List Query) × (with_queries None start asked ≡ start ++ more)
grows start [] = ([], sym (append-nil start))
grows start (query ∷ asked) =
    elim (cases_Bool (among start query)) [
      | inl held ↦
          let rest = grows start asked in
          (rest.0, ap (λ b. with_queries None (cond b start (start ++ query ∷ [])) asked) held ∙ rest.1)
      | inr new ↦
          let rest = grows (start ++ query ∷ []) asked in (
            query ∷ rest.0,
            ap (λ b. with_queries None (cond b start (start ++ query ∷ [])) asked) new ∙ rest.1
                ∙ append_assoc start (query ∷ []) rest.0,
          )
    ]

-- where there is no room, nothing is added
stays_full : (most : ℕ) (start asked : List Query) → nat_lt (length start) most ≡ false →
    with_queries (Some most) start asked ≡ start
stays_full most start [] full = refl
stays_full most start (query ∷ asked) full =
    ap (λ b. with_queries (Some most) (cond b (put_once start query) start) asked) full ∙ stays_full most start asked full

-- with a limit these are the first of the others
onward : (most : ℕ) (start asked : List Query) (query : Query) →
    with_queries (Some most) start asked ≡ take most (with_queries None start asked) →
    with_queries (Some most) (start ++ query ∷ []) asked ≡ take most (with_queries None (start ++ query ∷ []) asked) →
    with_queries (Some most) (put_once start query) asked ≡ take most (with_queries None (put_once start query) asked)
onward most start asked query kept put =
    elim (cases_Bool (among start query)) [
      | inl held ↦
          ap (λ b. with_queries (Some most) (cond b start (start ++ query ∷ [])) asked) held ∙ kept
          ∙ sym (ap (λ b. take most (with_queries None (cond b start (start ++ query ∷ [])) asked)) held)
      | inr new ↦
          ap (λ b. with_queries (Some most) (cond b start (start ++ query ∷ [])) asked) new ∙ put
          ∙ sym (ap (λ b. take most (with_queries None (cond b start (start ++ query ∷ [])) asked)) new)
    ]

first_asked : (most : ℕ) (start asked : List Query) → length start ≤ most →
    with_queries (Some most) start asked ≡ take most (with_queries None start asked)
first_asked most start [] short = sym (take_all most start short)
first_asked most start (query ∷ asked) short =
    elim (cases_lt (length start) most) [
      | inl less ↦
          ap (λ b. with_queries (Some most) (cond b (put_once start query) start) asked)
          (lt-ltb (length start) most less)
          ∙ onward most start asked query (first_asked most start asked short)
          (first_asked most (start ++ query ∷ []) asked (omega (arith, length-append start (query ∷ []), less)))
      | inr more ↦
          let full : length start ≡ most = omega (arith, short, more) in
          let rest = grows start (query ∷ asked) in
          stays_full most start (query ∷ asked) (le-ltb (length start) most more)
          ∙ sym (ap (take most) rest.1 ∙ ap (λ n. take n (start ++ rest.0)) (sym full)
          ∙ take-append_seam start rest.0)
    ]

-- as many are over a limit as are among one more than it allows
longer : {A : Type 0} (limit : ℕ) (xs : List A) → nat_lt limit (length (take (limit + 1) xs)) ≡ nat_lt limit (length xs)
longer limit xs =
    elim (cases_lt limit (length xs)) [
      | inl less ↦
          let counted : length (take (limit + 1) xs) ≡ limit + 1 =
          length-take-le (limit + 1) xs (omega (arith, less)) in
          lt-ltb limit (length (take (limit + 1) xs)) (omega (arith, counted)) ∙ sym (lt-ltb limit (length xs) less)
      | inr few ↦ ap (λ l. nat_lt limit (length l)) (take_all (limit + 1) xs (omega (arith, few)))
    ]

pub more_asked : SameQueryIsEqual → (handlers : List (List Act)) (limit : ℕ) (asked : List Query) (found : Bool) →
    asked ≡ with_queries (Some (limit + 1)) [] (asked_by_handlers handlers) → found ≡ nat_lt limit (length asked) →
    found ≡ nat_lt limit (length (queries_of handlers))
more_asked law handlers limit asked found is told =
    told
    ∙ ap (λ l. nat_lt limit (length l))
    (is ∙ first_asked (limit + 1) [] (asked_by_handlers handlers) (omega arith)
    ∙ ap (take (limit + 1)) (without_limit law handlers))
    ∙ longer limit (queries_of handlers)
