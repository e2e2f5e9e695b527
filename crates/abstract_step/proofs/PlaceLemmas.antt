-- What is read off at a place is what the definitions say.
use Rattle.std.proofs.Common.{◌≡◌, ℕ, zero, suc, ◌+◌, ◌-◌, ◌*◌, ◌/◌, ◌%◌, ◌<◌, ◌≤◌, List, [], ◌∷◌, length, map, drop}
use Rattle.std.proofs.Common.{get_or, slice_index, slice_index_or, slice_set, inl, inr, refl, sym, ap, subst, ◌∙◌, arith}
use Rattle.std.specs.Prelude.{All, Some, Option, MatchOption, slice_get}
use Rattle.std.proofs.lemmas.Bool.{cases_eq}
use Rattle.std.proofs.lemmas.Option.{slice_get-get_or}
use Rattle.std.specs.List.{range_with_len}
use Rattle.std.proofs.Math.Nat.{div-div-eq-div-mul, mul_comm}
use Rattle.std.proofs.lemmas.List.{length-map, drop_all, drop_more}
use Rattle.std.proofs.lemmas.List.{length-set, get_or-set_same, get_or-set_other, ext_get_or}
use Rattle.std.proofs.lemmas.List.FromFn.{length-map-range_with_len}
use Rattle.std.proofs.lemmas.List.Elements.{All-map}
use Rattle.header_set.specs.Headers.{product, weight, field_of}
use Rattle.header_set.proofs.Radix.{product-drop}
use Rattle.header_set.specs.Laws.{FieldsAreBelowSizes, FieldsDeterminePacket}
use Rattle.box_contents.specs.declared.entry.Entry.{Entry}
use Rattle.box_handlers.specs.declared.act.Term.{Term}
use Rattle.box_handlers.specs.declared.act.Term.TheVariants.{Field, Value, Picked}
use Rattle.box_handlers.specs.declared.act.Query.{Query}
use Rattle.box_handlers.specs.declared.act.Change.{Change}
use Rattle.box_handlers.specs.Fits.{Surroundings, ArePicked, TermFits, TermsFit, ChangesFit}
use Rattle.box_handlers.specs.Tuple.{tuples_over, tuple_of, fields_after}
use Rattle.box_executions.specs.Environment.{Environment, fields_of, IsChanged}
use Rattle.box_executions.specs.Shape.{AreSizesOf, IsEnvironment}
use Rattle.box_executions.proofs.OnceLemmas.{field_read, changed_once}
use Rattle.box_executions.proofs.RangeLemmas.{some_inside, zip_get, at_index}
use Rattle.net_plan.specs.declared.plan.Plan.{Plan}
use Rattle.net_plan.specs.Plan.{sizes_of, size_of, packets_of, boxes_of, box_at, arguments_of, surroundings_of, fields_at}
use Rattle.net_plan.specs.Reading.{QueryFitsAt, tuple_at, changed_at}
use Rattle.net_plan.specs.Sound.{IsBox, IsSound, IsSmallClass}
use Rattle.net_runs.specs.World.{IsBoxAt, environment_of}
use Rattle.net_runs.proofs.ListLemmas.{all_get}
use Rattle.net_runs.proofs.PlanLemmas.{environment_is}
use Rattle.packet_state.specs.Answers.{class_of_box}
use Rattle.handler_runs.specs.Reading.{Scene, scene_of, capped, number_by, value_by, entry_by, packet_by}
use Rattle.handler_runs.proofs.NumberLemmas.{entry_is, packet_is}
use Rattle.abstract_step.specs.Walk.{HasSize}

-- the values of the fields
pub fields_same : (plan : Plan) (packet : ℕ) → fields_at plan packet ≡ fields_of (sizes_of plan) packet
fields_same plan packet =
    ap (λ n. map (field_of (sizes_of plan) packet) (range_with_len 0 n)) (sym (length-map plan.fields (size_of plan)))

-- the fields of a packet, the last one first
module _ (sizes : List ℕ) (p : ℕ) where
  -- those from one place on are there
  abbrev pub AreReadFrom : ℕ → List ℕ → Type 0
  AreReadFrom k fields = (j : ℕ) → k ≤ j → j < length sizes → slice_index fields j ≡ field_of sizes p j

  pub rest_first : p ≡ p / product (drop (length sizes) sizes)
  rest_first =
      let none : drop (length sizes) sizes ≡ [] = drop_all (length sizes) sizes (omega arith) in
      let one : p / 1 ≡ p = omega arith in
      sym (ap (λ (l : List ℕ). p / product l) none ∙ one)

  pub rest_next : (k rest : ℕ) → k < length sizes → rest ≡ p / product (drop (k + 1) sizes) →
      rest / slice_index sizes k ≡ p / product (drop k sizes)
  rest_next k rest inside is =
      let size : ℕ = slice_index sizes k in
      ap (λ (n : ℕ). n / size) is ∙ div-div-eq-div-mul p (weight sizes k) size
      ∙ ap (λ (n : ℕ). p / n) (mul_comm (weight sizes k) size ∙ sym (product-drop sizes k inside))

  pub field_next : (k rest : ℕ) (fields : List ℕ) → k < length sizes → length fields ≡ length sizes →
      rest ≡ p / product (drop (k + 1) sizes) → AreReadFrom (k + 1) fields →
      AreReadFrom k (slice_set fields k (rest % slice_index sizes k))
  unfolding field_of
  field_next k rest fields inside long is later j from within =
      elim (cases_eq j k) [
        | inl same ↦
            ap (slice_index (slice_set fields k (rest % slice_index sizes k))) same
            ∙ get_or-set_same fields k (rest % slice_index sizes k) 0 (omega (arith, inside, long))
            ∙ ap (λ (n : ℕ). n % slice_index sizes k) is ∙ ap (field_of sizes p) (sym same)
        | inr apart ↦
            get_or-set_other fields k j (rest % slice_index sizes k) 0 apart
            ∙ later j (above apart) within
      ]
    where
      above : (j ≡ k → ⊥) → k + 1 ≤ j
      above apart = grind arith

  -- what a reading of all keeps
  abbrev pub IsReading : ℕ → ℕ → List ℕ → Type 0
  IsReading k rest fields =
      (k ≤ length sizes) × (length fields ≡ length sizes) × (rest ≡ p / product (drop k sizes)) × AreReadFrom k fields

  at_next : (before k size rest : ℕ) (fields : List ℕ) → before ≡ k + 1 → size ≡ slice_index sizes k →
      IsReading before rest fields → IsReading k (rest / size) (slice_set fields k (rest % size))
  at_next before k size rest fields next is reading =
      let inside : k < length sizes = omega (arith, next, reading.0) in
      let left : rest ≡ p / product (drop (k + 1) sizes) =
      subst (λ (n : ℕ). rest ≡ p / product (drop n sizes)) next reading.2 in
      subst (λ (s : ℕ). IsReading k (rest / s) (slice_set fields k (rest % s))) (sym is) (
        omega (arith, inside),
        length-set fields k (rest % slice_index sizes k) ∙ reading.1,
        rest_next k rest inside left,
        field_next k rest fields inside reading.1 left
            (subst (λ (n : ℕ). AreReadFrom n fields) next reading.3),
      )

  pub fields_next : (k size rest : ℕ) (fields : List ℕ) → 0 < k → size ≡ slice_index sizes (k - 1) →
      IsReading k rest fields → IsReading (k - 1) (rest / size) (slice_set fields (k - 1) (rest % size))
  fields_next k size rest fields some is reading =
      at_next k (k - 1) size rest fields (omega (arith, some)) is reading

  pub all_read : (fields : List ℕ) → length fields ≡ length sizes → AreReadFrom 0 fields →
      fields ≡ fields_of sizes p
  all_read fields long are =
      ext_get_or 0 fields (fields_of sizes p)
      (long ∙ sym (length-map-range_with_len (field_of sizes p) 0 (length sizes)))
      (λ j inside.
      let less : j < length sizes = omega (arith, inside, long) in
      are j (omega arith) less ∙ sym (field_read sizes p j less))

-- the digits of a tuple, up to one of its terms
abbrev pub AreDigits : Scene → Query → ℕ → ℕ → Type 0
AreDigits scene query i tuple =
    number_by 0 (slice_index_or scene.relations query.relation []) (map (value_by scene) query.args)
    ≡ number_by tuple (drop i (slice_index_or scene.relations query.relation []))
    (map (value_by scene) (drop i query.args))

pub digits_all : (scene : Scene) (query : Query) (i tuple : ℕ) → length query.args ≤ i →
    AreDigits scene query i tuple → record { relation = query.relation; tuple = tuple } ≡ entry_by scene query
unfolding number_by
digits_all scene query i tuple all are =
    let number : tuple ≡ (entry_by scene query).tuple =
    sym (are
    ∙ ap (λ (terms : List Term). number_by tuple (drop i (slice_index_or scene.relations query.relation []))
    (map (value_by scene) terms))
    (drop_all i query.args all) ∙ none (drop i (slice_index_or scene.relations query.relation []))) in
    λ j. record { relation = query.relation; tuple = number j }
  where
    none : (sizes : List ℕ) → number_by tuple sizes [] ≡ tuple
    none [] = refl
    none (size ∷ sizes) = refl

pub digit_of : (headers : List ℕ) (number value n : ℕ) (term : Term) (found : Option ℕ) → found ≡ Some n →
    MatchOption found (Unit {0}) (λ n. (size : ℕ) → HasSize headers size term →
    n ≡ capped (capped (number * size) + value)) →
    (size : ℕ) → HasSize headers size term → n ≡ capped (capped (number * size) + value)
digit_of headers number value n term found is told =
    subst (λ (o : Option ℕ). MatchOption o (Unit {0}) (λ n. (size : ℕ) → HasSize headers size term →
    n ≡ capped (capped (number * size) + value))) is told

-- the size of the type of a term that fits
module _ (around : Surroundings) (picks : List ℕ) (env : Environment) (is : IsEnvironment around picks env) where
  term_sized : (kind size : ℕ) (term : Term) → TermFits around picks kind term →
      slice_get around.sizes kind ≡ Some size → HasSize env.headers size term
  term_sized kind size (Field k) fits e =
      let found =
      zip_get (λ kind size. slice_get around.sizes kind ≡ Some size) around.fields env.headers k kind is.fields
      fits in
      found.1 ∙ ap (λ (n : ℕ). Some n) (some_inside (sym found.2 ∙ e))
  term_sized kind size (Value x) fits e = tt
  term_sized kind size (Picked i) fits e = tt

  terms_sized : (kinds sizes : List ℕ) (terms : List Term) (i : ℕ) (term : Term) → TermsFit around picks kinds terms →
      AreSizesOf around.sizes kinds sizes → i < length terms → term ≡ get_or terms i term →
      (size : ℕ) × (drop i sizes ≡ size ∷ drop (suc i) sizes) × HasSize env.headers size term
  terms_sized [] [] [] i term fits sized inside here = absurd (omega (arith, inside))
  terms_sized [] (size ∷ sizes) terms i term fits sized inside here = absurd sized
  terms_sized [] [] (first ∷ terms) i term fits sized inside here = absurd fits
  terms_sized (kind ∷ kinds) [] terms i term fits sized inside here = absurd sized
  terms_sized (kind ∷ kinds) (size ∷ sizes) [] i term fits sized inside here = absurd fits
  terms_sized (kind ∷ kinds) (size ∷ sizes) (first ∷ terms) zero term fits sized inside here = (
    size,
    refl,
    subst (HasSize env.headers size) (sym here) (term_sized kind size first fits.0 sized.0),
  )
  terms_sized (kind ∷ kinds) (size ∷ sizes) (first ∷ terms) (suc i) term fits sized inside here =
      terms_sized kinds sizes terms i term fits.1 sized.1 (omega (arith, inside)) here

module _ (plan : Plan) (sound : IsSound plan) (box : ℕ) (boxed : box < boxes_of plan) where
  pub at_box : IsBoxAt plan box (box_at plan box) (class_of_box plan box)
  at_box =
      let numbered : slice_get plan.boxes box ≡ Some (box_at plan box) =
      slice_get-get_or plan.boxes box (record { name = []; class = 0; first = [] }) boxed in
      let is : IsBox plan (box_at plan box) =
      all_get (IsBox plan) plan.boxes box (box_at plan box) sound.classes.boxes numbered in
      record {
        numbered = numbered;
        of_class = slice_get-get_or plan.classes (box_at plan box).class
            (record { ports = []; relations = []; handlers = []; queries = [] }) is.class;
      }

  pub few_tuples : (packet : ℕ) → All (λ sizes. tuples_over sizes ≤ 65536)
      (environment_of plan (class_of_box plan box) packet).relations
  few_tuples packet =
      let small : IsSmallClass plan (class_of_box plan box) =
      all_get (IsSmallClass plan) plan.classes (box_at plan box).class (class_of_box plan box) sound.limits.class
      at_box.of_class in
      All-map (λ sizes. tuples_over sizes ≤ 65536) (arguments_of plan) (class_of_box plan box).relations small.tuples

  -- the environment while the picks have these values
  abbrev pub env_at : ℕ → List ℕ → Environment
  env_at packet picked = record (environment_of plan (class_of_box plan box) packet) { picked = picked }

  pub env_is : (packet : ℕ) (picks picked : List ℕ) → packet < packets_of plan → ArePicked picks picked →
      IsEnvironment (surroundings_of plan (class_of_box plan box)) picks (env_at packet picked)
  env_is packet picks picked less are =
      let is = environment_is plan sound box (box_at plan box) (class_of_box plan box) at_box packet less in
      record {
        kinds = is.kinds;
        headers = is.headers;
        fields = is.fields;
        arguments = is.arguments;
        in_range = is.in_range;
        values = are;
      }

  -- one digit more
  pub digit_read : (packet : ℕ) (picked : List ℕ) (query : Query) (i tuple n : ℕ) (term : Term) →
      packet < packets_of plan → QueryFitsAt plan (class_of_box plan box) picked query → i < length query.args →
      term ≡ get_or query.args i term →
      ((size : ℕ) → HasSize (sizes_of plan) size term →
      n ≡ capped (capped (tuple * size) + value_by (scene_of (env_at packet picked)) term)) →
      AreDigits (scene_of (env_at packet picked)) query i tuple →
      AreDigits (scene_of (env_at packet picked)) query (i + 1) n
  unfolding number_by
  digit_read packet picked query i tuple n term less fits inside here digit are =
      let around : Surroundings = surroundings_of plan (class_of_box plan box) in
      let env : Environment = env_at packet picked in
      let is = env_is packet fits.0 picked less fits.1 in
      let found =
      zip_get (AreSizesOf around.sizes) around.relations env.relations query.relation fits.2.0 is.arguments fits.2.1 in
      let sized = terms_sized around fits.0 env is fits.2.0 found.0 query.args i term fits.2.2 found.2 inside here in
      let sizes : List ℕ = slice_index_or env.relations query.relation [] in
      let same : sizes ≡ found.0 = at_index env.relations query.relation found.0 [] found.1 in
      let next : suc i ≡ i + 1 = omega arith in
      are
      ∙ ap (λ (terms : List Term). number_by tuple (drop i sizes) (map (value_by (scene_of env)) terms))
      (drop_more query.args i term inside ∙ ap (λ (t : Term). t ∷ drop (i + 1) query.args) (sym here))
      ∙ ap (λ (l : List ℕ). number_by tuple l (map (value_by (scene_of env)) (term ∷ drop (i + 1) query.args)))
      (ap (drop i) same ∙ sized.1 ∙ ap (λ (k : ℕ). sized.0 ∷ drop k found.0) next
      ∙ ap (λ (l : List ℕ). sized.0 ∷ drop (i + 1) l) (sym same))
      ∙ shape sized.0 (drop (i + 1) sizes) (value_by (scene_of env) term)
      (map (value_by (scene_of env)) (drop (i + 1) query.args))
      ∙ ap (λ (m : ℕ). number_by m (drop (i + 1) sizes) (map (value_by (scene_of env)) (drop (i + 1) query.args)))
      (sym (digit sized.0 sized.2))
    where
      shape : (size : ℕ) (sizes : List ℕ) (value : ℕ) (values : List ℕ) →
          number_by tuple (size ∷ sizes) (value ∷ values)
          ≡ number_by (capped (capped (tuple * size) + value)) sizes values
      shape size sizes value values = refl

  -- the tuple that the network answers
  pub entry_read : FieldsAreBelowSizes → (packet : ℕ) (picked : List ℕ) (query : Query) →
      packet < packets_of plan → QueryFitsAt plan (class_of_box plan box) picked query →
      tuple_at plan (class_of_box plan box) packet picked query ≡ entry_by (scene_of (env_at packet picked)) query
  entry_read law packet picked query less fits =
      ap (λ fields. tuple_over fields) (fields_same plan packet)
      ∙ sym (entry_is law (surroundings_of plan (class_of_box plan box)) fits.0 (env_at packet picked)
      (env_is packet fits.0 picked less fits.1) (few_tuples packet) query fits.2)
    where
      tuple_over : List ℕ → Entry
      tuple_over fields =
          tuple_of (map (arguments_of plan) (class_of_box plan box).relations) fields
          picked query

  pub packet_read : FieldsAreBelowSizes → FieldsDeterminePacket → (packet : ℕ) (picked : List ℕ)
      (changes : List Change) (changed : ℕ) → packet < packets_of plan →
      (picks : List ℕ) × ArePicked picks picked
      × ChangesFit (surroundings_of plan (class_of_box plan box)) picks changes →
      fields_at plan changed ≡ changed_at plan packet picked changes → changed < packets_of plan →
      changed ≡ packet_by (scene_of (env_at packet picked)) changes
  packet_read law once packet picked changes changed less fits same below =
      let env = env_at packet picked in
      let is = env_is packet fits.0 picked less fits.1 in
      let here : IsChanged env changes changed = record {
        in_range = below;
        fields = sym (fields_same plan changed) ∙ same
            ∙ ap (λ fields. fields_after fields picked changes)
            (fields_same plan packet);
      } in
      changed_once once env changes changed (packet_by (scene_of env) changes) is.headers here
      (packet_is law (surroundings_of plan (class_of_box plan box)) fits.0 env is changes fits.2)
