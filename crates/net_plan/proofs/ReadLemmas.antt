-- What terms, tuples and changes come to at a packet.
use Rattle.std.proofs.Common.{◌≡◌, ℕ, zero, suc, ◌+◌, ◌*◌, ◌<◌, ◌≤◌, List, [], ◌∷◌, length, map, take, drop}
use Rattle.std.proofs.Common.{slice_index, slice_index_or, slice_set, Some, refl, sym, ap, subst, ◌∙◌, zero-add, inl}
use Rattle.std.proofs.Common.{inr, arith}
use Rattle.std.specs.Prelude.{slice_get}
use Rattle.std.specs.List.{All, AllByRecursion}
use Rattle.std.proofs.Math.Nat.{mod-lt}
use Rattle.std.proofs.lemmas.Bool.{cases_eq}
use Rattle.std.proofs.lemmas.Nat.{mul-le}
use Rattle.std.proofs.lemmas.List.{length-map, length-set, get_or-set_same, get_or-set_other, get_or-map, ext_get_or}
use Rattle.std.proofs.lemmas.List.{at_drop_more, at_drop_all, drop_more, drop_all}
use Rattle.std.proofs.lemmas.List.Sums.{fold_more}
use Rattle.std.proofs.lemmas.List.Elements.{recursion_from_All}
use Rattle.std.proofs.lemmas.List.FromFn.{length-map-range_with_len, get_or-map-range_with_len}
use Rattle.header_set.specs.Headers.{field_of, FirstSizesFit, IsWith}
use Rattle.box_handlers.specs.declared.act.Term.{Term}
use Rattle.box_handlers.specs.declared.act.Term.TheVariants.{Field, Value, Picked}
use Rattle.box_handlers.specs.declared.act.Change.{Change}
use Rattle.box_handlers.specs.declared.act.Query.{Query}
use Rattle.box_handlers.specs.Laws.{QueriesFit}
use Rattle.box_handlers.specs.Fits.{TermFits, TermsFit, QueryFits, ChangeFits, ChangesFit, ArePicked}
use Rattle.box_handlers.specs.Tuple.{value_of, tuples_over, tuple_number, with_change}
use Rattle.net_plan.specs.declared.plan.Plan.{Plan}
use Rattle.net_plan.specs.declared.plan.KindPlan.{KindPlan}
use Rattle.net_plan.specs.declared.plan.FieldPlan.{FieldPlan}
use Rattle.net_plan.specs.declared.plan.ClassPlan.{ClassPlan}
use Rattle.net_plan.specs.declared.plan.RelationPlan.{RelationPlan}
use Rattle.net_plan.specs.Plan.{values_of, size_of, sizes_of, surroundings_of, fields_at}
use Rattle.net_plan.specs.Reading.{IsRead, TermsFitAt, QueryFitsAt, ChangesFitAt, changed_at}
use Rattle.net_plan.specs.Sound.{IsKind, IsClass, IsRelation, IsHandled, IsSound}

-- products of sizes that are at least 1

pub some_over : (sizes : List ℕ) → AllByRecursion (λ size. 1 ≤ size) sizes → 1 ≤ tuples_over sizes
some_over [] some = omega arith
some_over (size ∷ sizes) some =
    let rest : 1 ≤ tuples_over sizes = some_over sizes some.1 in
    let all : 1 * 1 ≤ size * tuples_over sizes = mul-le 1 1 size (tuples_over sizes) some.0 rest in
    omega (arith, all)

pub rest_some : (sizes : List ℕ) (i : ℕ) → AllByRecursion (λ size. 1 ≤ size) sizes → 1 ≤ tuples_over (drop i sizes)
rest_some sizes zero some = some_over sizes some
rest_some [] (suc i) some = omega arith
rest_some (size ∷ sizes) (suc i) some = rest_some sizes i some.1

-- a number that stands before a rest is at most the whole
pub before_rest : (n rest whole : ℕ) → 1 ≤ rest → n * rest ≤ whole → n ≤ whole
before_rest n rest whole some less =
    let once : n * 1 ≤ n * rest = mul-le n 1 n rest (omega arith) some in
    omega (arith, once, less)

sizes_by : (plan : Plan) (kinds : List ℕ) → All IsKind plan.kinds →
    AllByRecursion (λ kind. kind < length plan.kinds) kinds →
    AllByRecursion (λ size. 1 ≤ size) (map (values_of plan) kinds)
sizes_by plan [] are within = tt
sizes_by plan (kind ∷ kinds) are within =
    ((are kind (record { name = []; values = [] }) within.0).some, sizes_by plan kinds are within.1)

-- each type of a sound plan has a value
pub sizes_some : (plan : Plan) (kinds : List ℕ) → IsSound plan → All (λ kind. kind < length plan.kinds) kinds →
    AllByRecursion (λ size. 1 ≤ size) (map (values_of plan) kinds)
sizes_some plan kinds sound within =
    sizes_by plan kinds sound.headers.kinds (recursion_from_All (λ kind. kind < length plan.kinds) kinds within)

-- the size of the type at a place
pub size_at : (plan : Plan) (kinds : List ℕ) (i kind size d : ℕ) → i < length kinds → kind ≡ slice_index_or kinds i d →
    size ≡ values_of plan kind → size ≡ slice_index (map (values_of plan) kinds) i
size_at plan kinds i kind size d less is is_size =
    is_size ∙ ap (values_of plan) is ∙ sym (get_or-map (values_of plan) kinds i d 0 less)

pub product_more : (sizes : List ℕ) (i size tuples : ℕ) → i < length sizes → size ≡ slice_index sizes i →
    tuples * tuples_over (drop i sizes) ≡ tuples_over sizes →
    (tuples * size) * tuples_over (drop (i + 1) sizes) ≡ tuples_over sizes
product_more sizes i size tuples less is so_far =
    let over : tuples_over (drop i sizes) ≡ size * tuples_over (drop (i + 1) sizes) =
    at_drop_more tuples_over sizes i 0 less ∙ ap (λ (n : ℕ). n * tuples_over (drop (i + 1) sizes)) (sym is) in
    let same : tuples * tuples_over (drop i sizes) ≡ tuples * (size * tuples_over (drop (i + 1) sizes)) =
    ap (λ (n : ℕ). tuples * n) over in
    let shape : (tuples * size) * tuples_over (drop (i + 1) sizes)
    ≡ tuples * (size * tuples_over (drop (i + 1) sizes)) = omega arith in
    shape ∙ sym same ∙ so_far

pub kind_more : (plan : Plan) (kinds : List ℕ) (i tuples size : ℕ) → i < length kinds →
    size ≡ values_of plan (slice_index kinds i) →
    tuples * tuples_over (drop i (map (values_of plan) kinds)) ≡ tuples_over (map (values_of plan) kinds) →
    (tuples * size) * tuples_over (drop (i + 1) (map (values_of plan) kinds)) ≡ tuples_over (map (values_of plan) kinds)
kind_more plan kinds i tuples size less is so_far =
    product_more (map (values_of plan) kinds) i size tuples (omega (arith, length-map kinds (values_of plan), less))
    (size_at plan kinds i (slice_index kinds i) size 0 less refl is) so_far

-- the types of a relation of the class are types of the plan
pub relation_known : (plan : Plan) (class : ClassPlan) (relations : List RelationPlan) (i : ℕ)
    (found d : RelationPlan) → All (IsRelation plan) class.relations →
    relations ≡ class.relations → i < length relations → found ≡ slice_index_or relations i d →
    All (λ kind. kind < length plan.kinds) found.kinds
relation_known plan class relations i found d known are less is =
    (subst (IsRelation plan) (sym (is ∙ ap (λ (l : List RelationPlan). slice_index_or l i d) are))
    (known i d (omega (arith, ap length are, less)))).kinds

-- a class of a sound plan
pub class_known : (inside plan : Plan) (classes : List ClassPlan) (i : ℕ) (found d : ClassPlan) → IsSound inside →
    inside ≡ plan →
    classes ≡ inside.classes → i < length plan.classes → found ≡ slice_index_or classes i d → IsClass plan found
class_known inside plan classes i found d sound same are less is =
    subst (λ (p : Plan). IsClass p found) same
    (subst (IsClass inside) (sym (is ∙ ap (λ (l : List ClassPlan). slice_index_or l i d) are))
    (sound.classes.classes i d (omega (arith, ap (λ (p : Plan). length p.classes) same, less))))

-- the queries of a class fit where no pick is open
pub queries_fit_at : (plan : Plan) (class : ClassPlan) (queries : List Query) → QueriesFit → IsHandled plan class →
    queries ≡ class.queries → All (QueryFitsAt plan class []) queries
queries_fit_at plan class queries law handled are k d less = (
  [],
  tt,
  subst (All (QueryFits (surroundings_of plan class) [])) (sym (are ∙ handled.queries))
      (law (surroundings_of plan class) class.handlers handled.fits) k d less,
)

-- the fields of a packet

pub fields_long : (plan : Plan) (packet : ℕ) → length (fields_at plan packet) ≡ length plan.fields
fields_long plan packet = length-map-range_with_len (field_of (sizes_of plan) packet) 0 (length plan.fields)

pub field_read : (plan : Plan) (packet k : ℕ) → k < length plan.fields →
    slice_index (fields_at plan packet) k ≡ field_of (sizes_of plan) packet k
field_read plan packet k less =
    get_or-map-range_with_len (field_of (sizes_of plan) packet) 0 (length plan.fields) k k 0 less (zero-add k)

pub sizes_long : (plan : Plan) → length (sizes_of plan) ≡ length plan.fields
sizes_long plan = length-map plan.fields (size_of plan)

field_below : (sizes : List ℕ) (packet k : ℕ) → FirstSizesFit sizes (length sizes) → k < length sizes →
    field_of sizes packet k < slice_index sizes k
unfolding field_of
field_below sizes packet k fit less = mod-lt _ (omega (arith, (fit k less).0))

field_found : (plan : Plan) (fields : List FieldPlan) (k kind : ℕ) →
    slice_get (map (λ field. field.kind) fields) k ≡ Some kind →
    (k < length fields) × (slice_index (map (size_of plan) fields) k ≡ values_of plan kind)
field_found plan [] k kind e = absurd (cc)
field_found plan (field ∷ fields) zero kind e =
    (omega arith, (let same : field.kind ≡ kind = cc in ap (values_of plan) same))
field_found plan (field ∷ fields) (suc k) kind e =
    let found = field_found plan fields k kind e in (omega (arith, found.0), found.1)

size_found : (kinds : List KindPlan) (kind size : ℕ) →
    slice_get (map (λ (one : KindPlan). length one.values) kinds) kind ≡ Some size →
    length (slice_index_or kinds kind (record { name = []; values = [] })).values ≡ size
size_found [] kind size e = absurd (cc)
size_found (one ∷ kinds) zero size e = (let same : length one.values ≡ size = cc in same)
size_found (one ∷ kinds) (suc kind) size e = size_found kinds kind size e

picked_below : (picks picked : List ℕ) (i size : ℕ) → ArePicked picks picked → slice_get picks i ≡ Some size →
    (i < length picked) × (slice_index picked i < size)
picked_below [] picked i size are e = absurd (cc)
picked_below (pick ∷ picks) [] i size are e = absurd are
picked_below (pick ∷ picks) (value ∷ picked) zero size are e =
    (omega arith, (let same : pick ≡ size = cc in subst (λ n. value < n) same are.0))
picked_below (pick ∷ picks) (value ∷ picked) (suc i) size are e =
    let found = picked_below picks picked i size are.1 e in (omega (arith, found.0), found.1)

module _ (plan : Plan) (class : ClassPlan) (picks picked : List ℕ) (are : ArePicked picks picked) where
  -- what a term is read from is there
  pub term_read : (kind : ℕ) (term : Term) → TermFits (surroundings_of plan class) picks kind term →
      IsRead plan picked term
  term_read kind (Field k) fits = (field_found plan plan.fields k kind fits).0
  term_read kind (Value x) fits = tt
  term_read kind (Picked i) fits = (picked_below picks picked i fits.0 are fits.2).0

  -- a term that fits a type comes to a value of it
  pub term_below : (packet kind : ℕ) (term : Term) → IsSound plan →
      TermFits (surroundings_of plan class) picks kind term →
      value_of (fields_at plan packet) picked term < values_of plan kind
  term_below packet kind (Field k) sound fits =
      let found = field_found plan plan.fields k kind fits in
      let below : field_of (sizes_of plan) packet k < slice_index (sizes_of plan) k =
      field_below (sizes_of plan) packet k sound.headers.headers.fit (omega (arith, found.0, sizes_long plan)) in
      omega (arith, below, found.1, field_read plan packet k found.0)
  term_below packet kind (Value x) sound fits = omega (arith, size_found plan.kinds kind fits.0 fits.1, fits.2)
  term_below packet kind (Picked i) sound fits =
      omega (arith, size_found plan.kinds kind fits.0 fits.1, (picked_below picks picked i fits.0 are fits.2).1)

  pub terms_long : (kinds : List ℕ) (terms : List Term) → TermsFit (surroundings_of plan class) picks kinds terms →
      length terms ≡ length kinds
  terms_long [] [] fit = refl
  terms_long [] (term ∷ terms) fit = absurd fit
  terms_long (kind ∷ kinds) [] fit = absurd fit
  terms_long (kind ∷ kinds) (term ∷ terms) fit = ap suc (terms_long kinds terms fit.1)

  pub term_at : (kinds : List ℕ) (terms : List Term) (i : ℕ) (d : Term) →
      TermsFit (surroundings_of plan class) picks kinds terms → i < length terms →
      TermFits (surroundings_of plan class) picks (slice_index kinds i) (slice_index_or terms i d)
  term_at [] [] i d fit less = absurd (omega (arith, less))
  term_at [] (term ∷ terms) i d fit less = absurd fit
  term_at (kind ∷ kinds) [] i d fit less = absurd fit
  term_at (kind ∷ kinds) (term ∷ terms) zero d fit less = fit.0
  term_at (kind ∷ kinds) (term ∷ terms) (suc i) d fit less = term_at kinds terms i d fit.1 (omega (arith, less))

  pub change_at : (changes : List Change) (i : ℕ) (d : Change) → ChangesFit (surroundings_of plan class) picks changes →
      i < length changes →
      ChangeFits (surroundings_of plan class) picks (slice_index_or changes i d)
  change_at [] i d fit less = absurd (omega (arith, less))
  change_at (change ∷ changes) zero d fit less = fit.0
  change_at (change ∷ changes) (suc i) d fit less = change_at changes i d fit.1 (omega (arith, less))

  -- a change that fits is of a field, and its new value is below the size of the field
  pub change_read : (change : Change) → ChangeFits (surroundings_of plan class) picks change →
      IsRead plan picked change.to
  change_read change fits = term_read fits.0 change.to fits.2

  pub change_field : (change : Change) → ChangeFits (surroundings_of plan class) picks change →
      change.field < length plan.fields
  change_field change fits = (field_found plan plan.fields change.field fits.0 fits.1).0

  pub change_below : (packet : ℕ) (change : Change) → IsSound plan →
      ChangeFits (surroundings_of plan class) picks change →
      value_of (fields_at plan packet) picked change.to < slice_index (sizes_of plan) change.field
  change_below packet change sound fits =
      omega (
        arith,
        term_below packet fits.0 change.to sound fits.2,
        (field_found plan plan.fields change.field fits.0 fits.1).1,
      )

-- the number of a tuple, term by term: what was read so far, and what is left
pub record IsSoFar (sizes values : List ℕ) (i tuple : ℕ) : Type 0 where
  pub number : tuple * tuples_over (drop i sizes) + tuple_number (drop i sizes) (drop i values)
      ≡ tuple_number sizes values
  pub below : (tuple + 1) * tuples_over (drop i sizes) ≤ tuples_over sizes

pub none_so_far : (sizes values : List ℕ) → IsSoFar sizes values 0 0
none_so_far sizes values = record { number = omega arith; below = omega arith }

module _ (sizes values : List ℕ) (i tuple size value : ℕ)
    (in' : i < length sizes) (in'' : i < length values) (is_size : size ≡ slice_index sizes i)
    (is_value : value ≡ slice_index values i) (less : value < size) where
  over : tuples_over (drop i sizes) ≡ size * tuples_over (drop (i + 1) sizes)
  over = at_drop_more tuples_over sizes i 0 in' ∙ ap (λ (n : ℕ). n * tuples_over (drop (i + 1) sizes)) (sym is_size)

  numbered : tuple_number (drop i sizes) (drop i values)
      ≡ value * tuples_over (drop (i + 1) sizes) + tuple_number (drop (i + 1) sizes) (drop (i + 1) values)
  numbered =
      ap (λ (l : List ℕ). tuple_number l (drop i values)) (drop_more sizes i 0 in')
      ∙ ap (λ (l : List ℕ). tuple_number (slice_index sizes i ∷ drop (i + 1) sizes) l) (drop_more values i 0 in'')
      ∙ ap (λ (n : ℕ). n * tuples_over (drop (i + 1) sizes) + tuple_number (drop (i + 1) sizes) (drop (i + 1) values))
      (sym is_value)

  grown : (tuple + 1) * tuples_over (drop i sizes) ≤ tuples_over sizes →
      (tuple * size + value + 1) * tuples_over (drop (i + 1) sizes) ≤ tuples_over sizes
  grown within =
      let wider : (tuple * size + value + 1) * tuples_over (drop (i + 1) sizes) ≤ (tuple * size + size) * tuples_over
      (drop (i + 1) sizes) =
      mul-le (tuple * size + value + 1) (tuples_over (drop (i + 1) sizes)) (tuple * size + size)
      (tuples_over (drop (i + 1) sizes)) (omega (arith, less)) (omega arith) in
      let same : (tuple + 1) * tuples_over (drop i sizes) ≡ (tuple + 1) * (size * tuples_over (drop (i + 1) sizes)) =
      ap (λ (n : ℕ). (tuple + 1) * n) over in
      let shape : (tuple * size + size) * tuples_over (drop (i + 1) sizes)
      ≡ (tuple + 1) * (size * tuples_over (drop (i + 1) sizes)) = omega arith in
      omega (arith, wider, same, shape, within)

  pub one_more : IsSoFar sizes values i tuple → IsSoFar sizes values (i + 1) (tuple * size + value)
  one_more so_far = record {
    number =
        (let same : tuple * tuples_over (drop i sizes)
        ≡ tuple * (size * tuples_over (drop (i + 1) sizes)) = ap (λ (n : ℕ). tuple * n) over in
        let shape : (tuple * size + value) * tuples_over (drop (i + 1) sizes)
        ≡ tuple * (size * tuples_over (drop (i + 1) sizes)) + value * tuples_over (drop (i + 1) sizes) =
        omega arith in
        omega (arith, same, shape, numbered, so_far.number));
    below = grown so_far.below;
  }

  pub one_more_below : AllByRecursion (λ size. 1 ≤ size) sizes → IsSoFar sizes values i tuple →
      tuple * size + value + 1 ≤ tuples_over sizes
  one_more_below some so_far =
      before_rest (tuple * size + value + 1) (tuples_over (drop (i + 1) sizes)) (tuples_over sizes)
      (rest_some sizes (i + 1) some) (grown so_far.below)

pub all_so_far : (sizes values : List ℕ) (i tuple : ℕ) → length sizes ≤ i → IsSoFar sizes values i tuple →
    tuple ≡ tuple_number sizes values
all_so_far sizes values i tuple past so_far =
    let over : tuples_over (drop i sizes) ≡ 1 = at_drop_all tuples_over sizes i past in
    let number : tuple_number (drop i sizes) (drop i values) ≡ 0 =
    ap (λ (l : List ℕ). tuple_number l (drop i values)) (drop_all i sizes past) in
    let same : tuple * tuples_over (drop i sizes) ≡ tuple * 1 = ap (λ (n : ℕ). tuple * n) over in
    omega (arith, number, same, so_far.number)

-- a packet with one field replaced has that field set in its list of values
pub field_set : (plan : Plan) (packet k x other : ℕ) → k < length plan.fields →
    IsWith (sizes_of plan) packet k x other → fields_at plan other ≡ slice_set (fields_at plan packet) k x
field_set plan packet k x other less is =
    ext_get_or 0 (fields_at plan other) (slice_set (fields_at plan packet) k x)
    (fields_long plan other ∙ sym (length-set (fields_at plan packet) k x ∙ fields_long plan packet))
    (λ j below. each j (omega (arith, below, fields_long plan other)))
  where
    each : (j : ℕ) → j < length plan.fields →
        slice_index (fields_at plan other) j ≡ slice_index (slice_set (fields_at plan packet) k x) j
    each j below =
        elim (cases_eq j k) [
          | inl same ↦ field_read plan other j below ∙ ap (field_of (sizes_of plan) other) same ∙ is.changed
              ∙ sym (ap (λ (n : ℕ). slice_index (slice_set (fields_at plan packet) k x) n) same
              ∙ get_or-set_same (fields_at plan packet) k x 0 (omega (arith, less, fields_long plan packet)))
          | inr apart ↦ field_read plan other j below ∙ is.others j (omega (arith, below, sizes_long plan)) apart
              ∙ sym (field_read plan packet j below)
              ∙ sym (get_or-set_other (fields_at plan packet) k j x 0 apart)
        ]

-- one term more of a tuple
module _ (plan : Plan) (kinds : List ℕ) (terms : List Term) (packet : ℕ) (picked : List ℕ) (i tuple size : ℕ) (d : Term)
    (sound : IsSound plan) (within : All (λ kind. kind < length plan.kinds) kinds)
    (few : tuples_over (map (values_of plan) kinds) ≤ 65536)
    (fit : TermsFitAt plan picked kinds terms) (less : i < length terms) where
  pub kind_within : i < length kinds
  kind_within = omega (arith, terms_long plan fit.0 fit.1 picked fit.2 kinds terms fit.3, less)

  fits_here : TermFits (surroundings_of plan fit.0) fit.1 (slice_index kinds i) (slice_index_or terms i d)
  fits_here = term_at plan fit.0 fit.1 picked fit.2 kinds terms i d fit.3 less

  pub read_here : IsRead plan picked (slice_index_or terms i d)
  read_here = term_read plan fit.0 fit.1 picked fit.2 (slice_index kinds i) (slice_index_or terms i d) fits_here

  module _ (is_size : size ≡ values_of plan (slice_index kinds i)) (value : ℕ)
      (is_value : value ≡ value_of (fields_at plan packet) picked (slice_index_or terms i d))
      (so_far : IsSoFar (map (values_of plan) kinds)
      (map (value_of (fields_at plan packet) picked) terms) i tuple) where
    below_here : value < size
    below_here =
        let below : value_of (fields_at plan packet) picked (slice_index_or terms i d) < values_of plan
        (slice_index kinds i) =
        term_below plan fit.0 fit.1 picked fit.2 packet (slice_index kinds i)
        (slice_index_or terms i d) sound fits_here in
        omega (arith, below, is_size, is_value)

    sized : size ≡ slice_index (map (values_of plan) kinds) i
    sized = size_at plan kinds i (slice_index kinds i) size 0 kind_within refl is_size

    valued : value ≡ slice_index (map (value_of (fields_at plan packet) picked) terms) i
    valued = is_value ∙ sym (get_or-map (value_of (fields_at plan packet) picked) terms i d 0 less)

    in_sizes : i < length (map (values_of plan) kinds)
    in_sizes = omega (arith, length-map kinds (values_of plan), kind_within)

    in_values : i < length (map (value_of (fields_at plan packet) picked) terms)
    in_values = omega (arith, length-map terms (value_of (fields_at plan packet) picked), less)

    pub step_here : IsSoFar (map (values_of plan) kinds) (map (value_of (fields_at plan packet) picked) terms) (i + 1)
        (tuple * size + value)
    step_here =
        one_more (map (values_of plan) kinds)
        (map
        (value_of
        (fields_at plan packet) picked) terms) i tuple size value in_sizes in_values sized valued below_here so_far

    pub small_here : tuple * size + value + 1 ≤ 65536
    small_here =
        let whole : tuple * size + value + 1 ≤ tuples_over (map (values_of plan) kinds) =
        one_more_below (map (values_of plan) kinds)
        (map
        (value_of
        (fields_at plan packet) picked) terms) i tuple size value in_sizes in_values sized valued below_here
        (sizes_some plan kinds sound within) so_far in
        omega (arith, whole, few)

-- one change more of a packet
module _ (plan : Plan) (changes : List Change) (packet : ℕ) (picked : List ℕ) (i now : ℕ) (d : Change)
    (sound : IsSound plan) (fit : ChangesFitAt plan picked changes) (less : i < length changes) where
  change_fits : ChangeFits (surroundings_of plan fit.0) fit.1 (slice_index_or changes i d)
  change_fits = change_at plan fit.0 fit.1 picked fit.2 changes i d fit.3 less

  pub change_is_read : IsRead plan picked (slice_index_or changes i d).to
  change_is_read = change_read plan fit.0 fit.1 picked fit.2 (slice_index_or changes i d) change_fits

  pub change_has_field : (slice_index_or changes i d).field < length plan.fields
  change_has_field = change_field plan fit.0 fit.1 picked fit.2 (slice_index_or changes i d) change_fits

  pub change_is_below : value_of (fields_at plan packet) picked (slice_index_or changes i d).to < slice_index
      (sizes_of plan) (slice_index_or changes i d).field
  change_is_below = change_below plan fit.0 fit.1 picked fit.2 packet (slice_index_or changes i d) sound change_fits

  pub one_changed : (headers : List ℕ) (x after : ℕ) → headers ≡ sizes_of plan →
      x ≡ value_of (fields_at plan packet) picked (slice_index_or changes i d).to →
      fields_at plan now ≡ changed_at plan packet picked (take i changes) →
      IsWith headers now (slice_index_or changes i d).field x after →
      fields_at plan after ≡ changed_at plan packet picked (take (i + 1) changes)
  one_changed headers x after are is so_far with' =
      field_set plan now (slice_index_or changes i d).field x after change_has_field
      (subst (λ (sizes : List ℕ). IsWith sizes now (slice_index_or changes i d).field x after) are with')
      ∙ ap (λ (l : List ℕ). slice_set l (slice_index_or changes i d).field x) so_far
      ∙ ap (λ (n : ℕ). slice_set (changed_at plan packet picked (take i changes))
      (slice_index_or changes i d).field n) is
      ∙ sym (fold_more (with_change (fields_at plan packet) picked) (fields_at plan packet) changes i d less)
