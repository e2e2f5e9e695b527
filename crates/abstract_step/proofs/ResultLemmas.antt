-- The paths through a handler are the results of a fire.
use Rattle.std.proofs.Common.{◌≡◌, ℕ, ◌*◌, ◌/◌, ◌%◌, ◌+◌, ◌<◌, ◌≤◌, Bool, true, false, ◌||◌, List, [], ◌∷◌, ◌++◌}
use Rattle.std.proofs.Common.{◌⊎◌, length, map, Some, refl, sym, ap, subst, ◌∙◌, inl, inr, nat_eq, arith}
use Rattle.std.specs.Prelude.{All, slice_get, slice_index_or, sum_by, if◌then◌else◌}
use Rattle.std.specs.List.{Contains, AllByRecursion}
use Rattle.std.specs.List.Sorted.{IsStrictlySortedBy}
use Rattle.std.specs.Vec.{vec_len, vec_capacity}
use Rattle.std.proofs.lemmas.List.{length-map}
use Rattle.std.proofs.lemmas.Simd.{map-map}
use Rattle.std.proofs.lemmas.List.Sums.{get_or-le-sum_by}
use Rattle.std.proofs.lemmas.List.Elements.{All-nil, All-contains_itself, All-weaker, recursion_from_All}
use Rattle.std.proofs.lemmas.List.Elements.{All-from_recursion}
use Rattle.std.proofs.lemmas.Option.{slice_get-get_or, slice_get_within, get_or_from_slice_get}
use Rattle.box_contents.specs.declared.entry.Entry.{Entry}
use Rattle.box_contents.specs.Contents.{holds_entry, same_entry, with_entry}
use Rattle.box_handlers.specs.declared.act.Query.{Query}
use Rattle.box_handlers.specs.declared.act.Act.{Act}
use Rattle.box_handlers.specs.Body.{body_of}
use Rattle.box_handlers.specs.Fits.{Surroundings, Fits, QueryFits}
use Rattle.box_handlers.specs.Queries.{filled}
use Rattle.box_handlers.specs.Size.{statements_of, paths_of}
use Rattle.box_handlers.specs.Tuple.{tuple_of}
use Rattle.box_executions.specs.Environment.{Environment, fields_of, entry_in}
use Rattle.box_executions.specs.Execution.{Outcome, Done, Aborted, Emission, BodyRuns, Executes}
use Rattle.box_executions.specs.Shape.{IsEnvironment, IsTuple, AreContents, IsEmission, IsOutcome}
use Rattle.box_executions.proofs.RangeLemmas.{entry_is_tuple}
use Rattle.box_executions.proofs.KeepLemmas.{with_fits}
use Rattle.net_plan.specs.declared.plan.Plan.{Plan}
use Rattle.net_plan.specs.declared.plan.ClassPlan.{ClassPlan}
use Rattle.net_plan.specs.Plan.{sizes_of, packets_of, boxes_of, box_at, ports_of, surroundings_of}
use Rattle.net_plan.specs.Reading.{tuple_at}
use Rattle.net_plan.specs.Sound.{IsSound, IsHandled, IsSmallClass}
use Rattle.net_plan.proofs.Rising.{head_contained, tail_contained, contained_cases, none_contained}
use Rattle.net_runs.specs.World.{Handles, environment_of, relations_of}
use Rattle.net_runs.proofs.ListLemmas.{all_get}
use Rattle.net_runs.proofs.PlanLemmas.{environment_is}
use Rattle.packet_state.specs.Answers.{mask_of, class_of_box, answers}
use Rattle.packet_state.proofs.ListLemmas.{class_found}
use Rattle.handler_runs.specs.Reading.{scene_of}
use Rattle.abstract_step.specs.declared.put.Put.{Put}
use Rattle.abstract_step.specs.declared.place.Place.{Place}
use Rattle.abstract_step.specs.declared.trail.Spot.{Spot}
use Rattle.abstract_step.specs.declared.trail.Trail.{Trail}
use Rattle.abstract_step.specs.declared.found.Ending.{Ending}
use Rattle.abstract_step.specs.declared.found.Found.{Found}
use Rattle.abstract_step.specs.Found.{result_of, results_of, IsWithin}
use Rattle.abstract_step.specs.Masks.{marked}
use Rattle.abstract_step.specs.Paths.{Partial, aborted, ending_of, ended, paths}
use Rattle.abstract_step.specs.Step.{Result, Answer, AreResults, IsPut, StandsFor, emission_of}
use Rattle.abstract_step.specs.Walk.{HasRoom, Gains, CanWalk, paths_at, writes_in, puts_in}
use Rattle.abstract_step.specs.Fire.{AreLaws, HasLists, IsSpacious}
use Rattle.abstract_step.proofs.BoundLemmas.{few_paths, short_paths, few_writes, few_puts, IsShort}
use Rattle.abstract_step.proofs.MaskLemmas.{marked_holds}
use Rattle.abstract_step.proofs.MemberLemmas.{only_one}
use Rattle.abstract_step.proofs.PlaceLemmas.{at_box, few_tuples, fields_same}
use Rattle.abstract_step.proofs.StepLemmas.{IsSeen, IsAt, IsAsked, Leads, GoesTo, body_leads, body_comes}

some_inside : {X : Type 0} {x y : X} → Some x ≡ Some y → x ≡ y
some_inside e = cc

mapped_in : {X Y : Type 0} (f : X → Y) (xs : List X) (x : X) → Contains xs x → Contains (map f xs) (f x)
mapped_in f [] x there = absurd (none_contained x there)
mapped_in {X} {Y} f (y ∷ xs) x there = by (mapped_in f xs x) (contained_cases y x xs there)
  where
    by : (Contains xs x → Contains (map f xs) (f x)) → (y ≡ x) ⊎ Contains xs x → Contains (map f (y ∷ xs)) (f x)
    by rest (inl same) =
        subst (λ (z : Y). Contains (f y ∷ map f xs) z) (ap f same) (head_contained (f y) (map f xs))
    by rest (inr later) = tail_contained (f y) (f x) (map f xs) (rest later)

-- the fewest contents with some tuples
abbrev pub onto : List Entry → List Entry
onto [] = []
onto (entry ∷ entries) = with_entry (onto entries) entry

module _ (laws : AreLaws) where
  onto_holds : (entries : List Entry) (other : Entry) → holds_entry (onto entries) other ≡ holds_entry entries other
  onto_holds [] other = refl
  onto_holds (entry ∷ entries) other =
      laws.held_with (onto entries) entry other
      ∙ ap (λ (b : Bool). same_entry other entry || b) (onto_holds entries other)

  onto_fits : (around : Surroundings) (relations : List (List ℕ)) (entries : List Entry) →
      AllByRecursion (IsTuple relations) entries → AreContents relations (onto entries)
  unfolding IsStrictlySortedBy
  onto_fits around relations [] are = record { rising = tt; tuples = All-nil (IsTuple relations) }
  onto_fits around relations (entry ∷ entries) are =
      with_fits laws.below laws.with_rising laws.without_rising around relations (onto entries) entry
      (onto_fits around relations entries are.1) are.0

marked_all : (P : Entry → Type 0) (tuples : List Entry) (mask : ℕ) → AllByRecursion P tuples →
    AllByRecursion P (marked tuples mask)
marked_all P [] mask are = tt
marked_all P (tuple ∷ tuples) mask are = by (nat_eq (mask % 2) 1) refl (marked_all P tuples (mask / 2) are.1)
  where
    by : (b : Bool) → nat_eq (mask % 2) 1 ≡ b → AllByRecursion P (marked tuples (mask / 2)) →
        AllByRecursion P (marked (tuple ∷ tuples) mask)
    by true e rest = subst (λ b. AllByRecursion P (if b then (tuple ∷ marked tuples (mask / 2)) else
        marked tuples (mask / 2))) (sym e) (are.0, rest)
    by false e rest = subst (λ b. AllByRecursion P (if b then (tuple ∷ marked tuples (mask / 2)) else
        marked tuples (mask / 2))) (sym e) rest

same_tests : (f g : Entry → Bool) → ((entry : Entry) → f entry ≡ g entry) → (tuples : List Entry) →
    map f tuples ≡ map g tuples
same_tests f g same [] = refl
same_tests f g same (tuple ∷ tuples) =
    ap (λ b. b ∷ map f tuples) (same tuple) ∙ ap (λ (l : List Bool). g tuple ∷ l) (same_tests f g same tuples)

-- a fire of a handler
module _ (laws : AreLaws) (plan : Plan) (sound : IsSound plan) (box port packet mask : ℕ)
    (boxed : box < boxes_of plan) (ported : port < ports_of plan (box_at plan box)) (inside : packet < packets_of plan)
  where
    abbrev pub class : ClassPlan
    class = class_of_box plan box

    abbrev pub env : Environment
    env = environment_of plan class packet

    abbrev pub around : Surroundings
    around = surroundings_of plan class

    abbrev pub handler : List Act
    handler = slice_index_or class.handlers port []

    -- the tuples of the queries
    abbrev pub tuples : List Entry
    tuples = map (tuple_at plan class packet []) class.queries

    abbrev pub start : Partial
    start = record { mask = mask; writes = []; puts = [] }

    abbrev pub results : List Result
    results = paths (body_of handler) tuples (scene_of env) ended start

    handled : IsHandled plan class
    handled = all_get (IsHandled plan) plan.classes (box_at plan box).class class sound.handlers
        (at_box plan sound box boxed).of_class

    handler_found : slice_get class.handlers port ≡ Some handler
    handler_found = slice_get-get_or class.handlers port [] (omega (arith, ported, handled.one_each))

    pub handler_fits : Fits around (body_of handler) []
    handler_fits = all_get (λ acts. Fits around (body_of acts) []) class.handlers port handler handled.fits handler_found

    environment : IsEnvironment around [] env
    environment = environment_is plan sound box (box_at plan box) class (at_box plan sound box boxed) packet inside

    seen : IsSeen laws.below laws.once laws.held laws.held_with laws.held_without around tuples [] env
    seen = record { environment = environment; few = few_tuples plan sound box boxed packet }

    pub few_queries : length tuples ≤ 12
    few_queries =
        let limits : IsSmallClass plan class =
        all_get (IsSmallClass plan) plan.classes (box_at plan box).class class sound.limits.class
        (at_box plan sound box boxed).of_class in
        let long : length tuples ≡ length class.queries =
        length-map class.queries (tuple_at plan class packet []) in
        let many = limits.queries in omega (arith, many, long)

    -- how large it is
    pub small : statements_of (body_of handler) ≤ 1024
    small =
        let one : statements_of (body_of handler) ≤ sum_by (λ acts. statements_of (body_of acts)) class.handlers =
        get_or-le-sum_by (λ acts. statements_of (body_of acts)) class.handlers port []
        (omega (arith, ported, handled.one_each)) in
        let all = handled.statements in omega (arith, one, all)

    few : paths_of (body_of handler) ≤ 1024
    few = all_get (λ acts. paths_of (body_of acts) ≤ 1024) class.handlers port handler handled.paths handler_found

    count : length results ≤ 1024
    count =
        let one : length results ≤ paths_of (body_of handler) * 1 =
        few_paths around environment.kinds (body_of handler) [] handler_fits tuples (scene_of env) ended 1 (omega arith)
        (λ now. omega arith) start in
        let two = few in omega (arith, one, two)

    short : (result : Result) → Contains results result → IsShort start (statements_of (body_of handler) + 0) result
    short = short_paths (body_of handler) tuples (scene_of env) ended 0
        (λ now result there. subst (λ (r : Result). IsShort now 0 r) (sym (only_one (ending_of now) result there))
        (record { writes = omega arith; puts = omega arith })) start

    pub room : (found : Found) → IsSpacious found → vec_len found.endings ≡ 0 → vec_len found.writes ≡ 0 →
        vec_len found.puts ≡ 0 → HasRoom found results
    room found spacious endings writes puts =
        let size = small in
        let many = count in
        let ws : writes_in results ≤ length results * 1024 =
        few_writes results 1024 (λ r there. let one = (short r there).writes in omega (arith, one, size)) in
        let ps : puts_in results ≤ length results * 1024 =
        few_puts results 1024 (λ r there. let one = (short r there).puts in omega (arith, one, size)) in
        record {
          within = spacious.within;
          endings = omega (arith, spacious.endings, endings, many);
          writes = omega (arith, spacious.writes, writes, ws, many);
          puts = omega (arith, spacious.puts, puts, ps, many);
        }

    -- the tuples, as the definitions of executions read them
    tuple_is : (query : Query) → tuple_at plan class packet [] query ≡ entry_in env query
    tuple_is query =
        ap (λ fields. tuple_of (relations_of plan class) fields [] query) (fields_same plan packet)

    tuples_are : (queries : List Query) → map (tuple_at plan class packet []) queries ≡ map (entry_in env) queries
    tuples_are [] = refl
    tuples_are (query ∷ queries) =
        ap (λ e. e ∷ map (tuple_at plan class packet []) queries) (tuple_is query)
        ∙ ap (λ (l : List Entry). entry_in env query ∷ l) (tuples_are queries)

    asked : IsAsked laws.below laws.once laws.held laws.held_with laws.held_without around tuples env (body_of handler)
    asked opened query asks =
        let member : Contains class.handlers handler = (
          port,
          slice_get_within class.handlers port handler handler_found,
          get_or_from_slice_get class.handlers port handler handler handler_found,
        ) in
        let among : Contains class.queries (filled opened query) =
        subst (λ (l : List Query). Contains l (filled opened query)) (sym handled.queries)
        (laws.asked class.handlers handler opened query member asks) in
        let there : Contains (map (entry_in env) class.queries) (entry_in env (filled opened query)) =
        mapped_in (entry_in env) class.queries (filled opened query) among in
        subst (λ e. Contains tuples e)
        (sym (laws.filled env.relations (fields_of env.headers env.packet) opened query))
        (subst (λ (l : List Entry). Contains l (entry_in env (filled opened query))) (sym (tuples_are class.queries))
        there)

    -- contents that answer with the mask begin a path
    begins : (contents : List Entry) → answers plan box packet contents ≡ mask →
        IsAt laws.below laws.once laws.held laws.held_with laws.held_without around tuples contents contents start
    begins contents answered = record {
      answered = ap (λ (l : List Entry). mask_of (map (holds_entry contents) l)) (tuples_are class.queries)
          ∙ ap mask_of (map-map (holds_entry contents) (entry_in env) class.queries) ∙ answered;
      written = refl;
    }

    -- an execution of the handler of the port
    executes : (contents : List Entry) (choices : List ℕ) (outcome : Outcome) →
        Handles plan box port packet contents choices outcome →
        BodyRuns (body_of handler) env contents choices outcome []
    executes contents choices outcome handles =
        let same : class ≡ handles.class = class_found plan box handles.box_plan handles.class handles.at_box in
        let at : slice_get class.handlers port ≡ Some handles.handler =
        subst (λ (c : ClassPlan). slice_get c.handlers port ≡ Some handles.handler) (sym same) handles.at_port in
        let acts : handles.handler ≡ handler = some_inside (sym at ∙ handler_found) in
        subst (λ (h : List Act). Executes env h contents choices outcome) acts
        (subst (λ (c : ClassPlan). Executes (environment_of plan c packet) handles.handler contents choices outcome)
        (sym same) handles.executes)

    complete_at : (contents : List Entry) (outcome : Outcome) →
        Leads laws.below laws.once laws.held laws.held_with laws.held_without around tuples results ended contents []
        outcome → (result : Result) × Contains results result × StandsFor contents result outcome
    complete_at contents (Done left outputs) leads = (
      ending_of leads.0,
      leads.3 (ending_of leads.0) (head_contained (ending_of leads.0) []),
      (refl, leads.1.written, sym leads.2),
    )
    complete_at contents Aborted leads = (aborted, leads, (refl, refl, refl))

    sound_at : (contents : List Entry) (result : Result) (outcome : Outcome) →
        GoesTo laws.below laws.once laws.held laws.held_with laws.held_without around tuples ended contents [] result
        outcome → StandsFor contents result outcome
    sound_at contents result (Done left outputs) goes =
        let same : result ≡ ending_of goes.0 = only_one (ending_of goes.0) result goes.3 in
        subst (λ r. StandsFor contents r (Done left outputs)) (sym same) (refl, goes.1.written, sym goes.2)
    sound_at contents result Aborted goes =
        subst (λ r. StandsFor contents r Aborted) (sym goes) (refl, refl, refl)

    comes : (result : Result) → Contains results result → (contents : List Entry) →
        Answer plan box packet mask contents →
        (choices : List ℕ) × (outcome : Outcome) × Handles plan box port packet contents choices outcome
        × StandsFor contents result outcome
    comes result there contents answer =
        let one =
        body_comes laws.below laws.once laws.held laws.held_with laws.held_without around tuples (body_of handler) [] env
        seen handler_fits asked ended contents contents start (begins contents answer.answered) result there in (
          one.used ++ [],
          one.outcome,
          record {
            box_plan = box_at plan box;
            class = class;
            at_box = at_box plan sound box boxed;
            handler = handler;
            at_port = handler_found;
            executes = one.runs_so [];
          },
          sound_at contents result one.outcome one.goes,
        )

    -- where the mask says the same of alike tuples, the tuples with bit 1 answer with it
    module _ (consistent : mask_of (map (holds_entry (marked tuples mask)) tuples) ≡ mask) where
      abbrev shown_by : List Entry
      shown_by = onto (marked tuples mask)

      tuples_fit : AllByRecursion (IsTuple (relations_of plan class)) tuples
      tuples_fit =
          subst (λ (l : List Entry). AllByRecursion (IsTuple (relations_of plan class)) l)
          (sym (tuples_are class.queries)) (all_fit class.queries
          (recursion_from_All (QueryFits around []) class.queries
          (subst (λ (l : List Query). All (QueryFits around []) l) (sym handled.queries)
          (laws.queries around class.handlers handled.fits))))
        where
          all_fit : (queries : List Query) → AllByRecursion (QueryFits around []) queries →
              AllByRecursion (IsTuple (relations_of plan class)) (map (entry_in env) queries)
          all_fit [] are = tt
          all_fit (query ∷ queries) are =
              (entry_is_tuple laws.below around [] env environment query are.0, all_fit queries are.1)

      pub shows : Answer plan box packet mask (onto (marked tuples mask))
      shows = record {
        fit = onto_fits laws around (relations_of plan class) (marked tuples mask)
            (marked_all (IsTuple (relations_of plan class)) tuples mask tuples_fit);
        answered = sym (ap mask_of (map-map (holds_entry shown_by) (entry_in env) class.queries))
            ∙ sym (ap (λ (l : List Entry). mask_of (map (holds_entry shown_by) l)) (tuples_are class.queries))
            ∙ ap mask_of (same_tests (holds_entry shown_by) (holds_entry (marked tuples mask))
            (onto_holds laws (marked tuples mask)) tuples) ∙ consistent;
      }

      puts_in_range : (result : Result) → Contains results result → All (IsPut plan box) result.puts
      puts_in_range result there =
          let one = comes result there (onto (marked tuples mask)) shows in
          by result one.1 (in_range one.0 one.1 one.2) one.3
        where
          in_range : (choices : List ℕ) (outcome : Outcome) →
              Handles plan box port packet (onto (marked tuples mask)) choices outcome →
              IsOutcome around.ports env.headers env.relations outcome
          in_range choices outcome handles =
              laws.ranges around [] env handler (onto (marked tuples mask)) choices [] outcome
              (record { environment = environment; fits = handler_fits; contents_fit = shows.fit })
              (executes (onto (marked tuples mask)) choices outcome handles)

          emitted : (puts : List Put) →
              AllByRecursion (IsEmission around.ports env.headers) (map emission_of puts) →
              AllByRecursion (IsPut plan box) puts
          emitted [] are = tt
          emitted (put ∷ puts) are = (record { port = are.0.port; packet = are.0.packet }, emitted puts are.1)

          by : (result : Result) (outcome : Outcome) → IsOutcome around.ports env.headers env.relations outcome →
              StandsFor (onto (marked tuples mask)) result outcome → All (IsPut plan box) result.puts
          by result (Done left outputs) ranges stands =
              All-from_recursion (IsPut plan box) result.puts (emitted result.puts
              (recursion_from_All (IsEmission around.ports env.headers) (map emission_of result.puts)
              (subst (λ (l : List Emission). All (IsEmission around.ports env.headers) l) stands.2 ranges.1)))
          by result Aborted ranges stands =
              subst (λ (l : List Put). All (IsPut plan box) l) (sym stands.2) (All-nil (IsPut plan box))

      pub are_results : AreResults plan box port packet mask results
      are_results = record {
        complete = λ contents answer choices outcome handles.
            complete_at contents outcome
            (body_leads laws.below laws.once laws.held laws.held_with laws.held_without around tuples (body_of handler) []
            env seen handler_fits asked ended contents contents start (begins contents answer.answered) choices outcome []
            (executes contents choices outcome handles));
        sound = comes;
        shown = λ result there. (onto (marked tuples mask), shows);
        in_range = All-weaker (Contains results) (λ result. All (IsPut plan box) result.puts) puts_in_range results
            (All-contains_itself results);
      }

    -- and where it doesn't, no contents answer with it
    consistent_of : (contents : List Entry) → answers plan box packet contents ≡ mask →
        mask_of (map (holds_entry (marked tuples mask)) tuples) ≡ mask
    consistent_of contents answered =
        let at = (begins contents answered).answered in
        ap mask_of (same_members tuples (λ entry there.
        ap (λ (m : ℕ). holds_entry (marked tuples m) entry) (sym at)
        ∙ marked_holds laws.held (holds_entry contents) tuples entry there)) ∙ at
      where
        same_members : (some : List Entry) →
            ((entry : Entry) → Contains some entry → holds_entry (marked tuples mask) entry ≡ holds_entry contents entry) →
            map (holds_entry (marked tuples mask)) some ≡ map (holds_entry contents) some
        same_members [] same = refl
        same_members (entry ∷ some) same =
            ap (λ b. b ∷ map (holds_entry (marked tuples mask)) some) (same entry (head_contained entry some))
            ∙ ap (λ (l : List Bool). holds_entry contents entry ∷ l)
            (same_members some (λ other there. same other (tail_contained entry other some there)))

    pub no_results : (mask_of (map (holds_entry (marked tuples mask)) tuples) ≡ mask → ⊥) →
        AreResults plan box port packet mask []
    no_results not = record {
      complete = λ contents answer choices outcome handles. absurd (not (consistent_of contents answer.answered));
      sound = λ result there. absurd (none_contained result there);
      shown = λ result there. absurd (none_contained result there);
      in_range = All-nil (λ result. All (IsPut plan box) result.puts);
    }

-- what was cleared has as much room
pub cleared : (old new : Found) → IsSpacious old → new.endings.items ≡ [] →
    vec_capacity new.endings ≡ vec_capacity old.endings → vec_capacity new.writes ≡ vec_capacity old.writes →
    vec_capacity new.puts ≡ vec_capacity old.puts → IsSpacious new
cleared old new spacious none endings writes puts = record {
  within = subst (λ (l : List Ending). All (IsWithin (length new.writes.items) (length new.puts.items)) l) (sym none)
      (All-nil (IsWithin (length new.writes.items) (length new.puts.items)));
  endings = omega (arith, spacious.endings, endings);
  writes = omega (arith, spacious.writes, writes);
  puts = omega (arith, spacious.puts, puts);
}

-- the walk through the handler
module _ (laws : AreLaws) (place : Place) (sound : IsSound place.net.now) (port mask : ℕ)
    (boxed : place.b < boxes_of place.net.now) (ported : port < ports_of place.net.now (box_at place.net.now place.b))
    (inside : place.p < packets_of place.net.now)
    (read : place.tuples.now ≡ tuples laws place.net.now sound place.b port place.p mask boxed ported inside) where
  abbrev whole : List Act
  whole = handler laws place.net.now sound place.b port place.p mask boxed ported inside

  abbrev first_spot : Spot
  first_spot = record { depth = 0; top = 0; writes = 0; puts = 0; mask = mask }

  pub can_walk : place.fields.now ≡ fields_of (sizes_of place.net.now) place.p → (trail : Trail) → HasLists trail →
      (found : Found) → IsSpacious found → vec_len found.endings ≡ 0 →
      vec_len found.writes ≡ 0 → vec_len found.puts ≡ 0 → (acts : List Act) → acts ≡ whole →
      CanWalk place trail first_spot found (body_of acts)
  can_walk fields trail lists found spacious endings writes puts acts is =
      let size = small laws place.net.now sound place.b port place.p mask boxed ported inside in
      subst (λ (a : List Act). CanWalk place trail first_spot found (body_of a)) (sym is) (record {
        stands = record {
          place_is = record {
            boxed = boxed;
            packet = inside;
            fields = fields;
            few = few_at place.tuples.now read;
          };
          frames = lists.frames;
          slots = lists.slots;
          writes = lists.writes;
          puts = lists.puts;
          behind = tt;
          small = omega (arith, size);
        };
        fits = ([], tt, handler_fits laws place.net.now sound place.b port place.p mask boxed ported inside);
        room = subst (λ (l : List Entry). HasRoom found (paths (body_of whole) l
            (scene_of (env laws place.net.now sound place.b port place.p mask boxed ported inside)) ended
            (start laws place.net.now sound place.b port place.p mask boxed ported inside))) (sym read)
            (room laws place.net.now sound place.b port place.p mask boxed ported inside found spacious endings writes
            puts);
      })
    where
      few_at : (l : List Entry) → l ≡ tuples laws place.net.now sound place.b port place.p mask boxed ported inside →
          length l ≤ 12
      few_at l same =
          let many = few_queries laws place.net.now sound place.b port place.p mask boxed ported inside in
          let long : length l ≡ length (tuples laws place.net.now sound place.b port place.p mask boxed ported inside) =
          ap length same in
          omega (arith, many, long)

  pub walked : (trail : Trail) (old new : Found) (acts : List Act) → acts ≡ whole →
      Gains old new (paths_at place trail first_spot (body_of acts)) → old.endings.items ≡ [] →
      mask_of (map (holds_entry (marked place.tuples.now mask)) place.tuples.now) ≡ mask →
      AreResults place.net.now place.b port place.p mask (results_of new)
  walked trail old new acts is gains none consistent =
      subst (λ l. AreResults place.net.now place.b port place.p mask l) (sym (gains.found
      ∙ ap (λ (l : List Ending). map (result_of old.writes.items old.puts.items) l
      ++ paths_at place trail first_spot (body_of acts)) none
      ∙ ap (λ (a : List Act). paths_at place trail first_spot (body_of a)) is
      ∙ ap (λ (l : List Entry). paths (body_of whole) l
      (scene_of (env laws place.net.now sound place.b port place.p mask boxed ported inside)) ended
      (start laws place.net.now sound place.b port place.p mask boxed ported inside)) read))
      (are_results laws place.net.now sound place.b port place.p mask boxed ported inside
      (subst (λ (l : List Entry). mask_of (map (holds_entry (marked l mask)) l) ≡ mask) read consistent))

  pub none_walked : (old : Found) → old.endings.items ≡ [] →
      (mask_of (map (holds_entry (marked place.tuples.now mask)) place.tuples.now) ≡ mask → ⊥) →
      AreResults place.net.now place.b port place.p mask (results_of old)
  none_walked old none not =
      subst (λ (l : List Ending). AreResults place.net.now place.b port place.p mask
      (map (result_of old.writes.items old.puts.items) l)) (sym none)
      (no_results laws place.net.now sound place.b port place.p mask boxed ported inside
      (λ e. not (subst (λ (l : List Entry). mask_of (map (holds_entry (marked l mask)) l) ≡ mask) (sym read) e)))
