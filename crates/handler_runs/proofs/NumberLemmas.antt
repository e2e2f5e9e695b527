-- What is read off where it fits: tuples, packets and the truth of guards.
use Rattle.std.proofs.Common.{◌≡◌, ℕ, zero, suc, ◌+◌, ◌*◌, ◌/◌, ◌%◌, ◌<◌, ◌≤◌, List, [], ◌∷◌, length, map, drop}
use Rattle.std.proofs.Common.{slice_index}
use Rattle.std.proofs.Common.{slice_index_or, refl, sym, ap, subst, ◌∙◌, arith}
use Rattle.std.specs.Prelude.{All}
use Rattle.std.specs.List.{AllZip}
use Rattle.std.proofs.Math.Nat.{mul_comm}
use Rattle.std.proofs.lemmas.Nat.{mul-le, mul-add-lt, div-mul-add, mod-mul-add}
use Rattle.std.proofs.lemmas.Option.{slice_get_within}
use Rattle.std.proofs.lemmas.List.{ext_get_or}
use Rattle.std.proofs.lemmas.List.FromFn.{length-map-range_with_len}
use Rattle.header_set.specs.Headers.{product, field_of}
use Rattle.header_set.specs.Laws.{FieldsAreBelowSizes}
use Rattle.box_handlers.specs.declared.act.Term.{Term}
use Rattle.box_handlers.specs.declared.act.Query.{Query}
use Rattle.box_handlers.specs.declared.act.Change.{Change}
use Rattle.box_handlers.specs.Fits.{Surroundings, TermsFit, QueryFits, ChangesFit}
use Rattle.box_handlers.specs.Tuple.{tuples_over, tuple_number, fields_after}
use Rattle.box_executions.specs.Environment.{Environment, fields_of, value_in, entry_in, IsChanged}
use Rattle.box_executions.specs.Shape.{AreSizesOf, IsEnvironment}
use Rattle.box_executions.proofs.OnceLemmas.{field_read}
use Rattle.box_executions.proofs.RangeLemmas.{AreValues, zip_get, at_index, term_below, changes_keep, fields_are}
use Rattle.handler_runs.specs.Reading.{scene_of, capped, number_by, entry_by, packet_by}

-- each value is below its size
abbrev pub AreBelow : List ℕ → List ℕ → Type 0
AreBelow sizes values = AllZip (λ size value. value < size) sizes values

some_tuple : (sizes values : List ℕ) → AreBelow sizes values → 1 ≤ tuples_over sizes
some_tuple [] [] below = omega arith
some_tuple [] (value ∷ values) below = absurd below
some_tuple (size ∷ sizes) [] below = absurd below
some_tuple (size ∷ sizes) (value ∷ values) below =
    let rest : 1 ≤ tuples_over sizes = some_tuple sizes values below.1 in
    let less : value < size = below.0 in
    let all : 1 * 1 ≤ size * tuples_over sizes = mul-le 1 1 size (tuples_over sizes) (omega (arith, less)) rest in
    omega (arith, all)

-- with one value more the number stays small
grown : (now size value rest : ℕ) → value < size → (now + 1) * (size * rest) ≤ 65536 →
    (now * size + value + 1) * rest ≤ 65536
grown now size value rest less within =
    let wider : (now * size + value + 1) * rest ≤ (now * size + size) * rest =
    mul-le (now * size + value + 1) rest (now * size + size) rest (omega (arith, less)) (omega arith) in
    let shape : (now * size + size) * rest ≡ (now + 1) * (size * rest) = omega arith in
    omega (arith, wider, shape, within)

small : (n rest : ℕ) → 1 ≤ rest → (n + 1) * rest ≤ 65536 → n < 65536
small n rest some within =
    let once : (n + 1) * 1 ≤ (n + 1) * rest = mul-le (n + 1) 1 (n + 1) rest (omega arith) some in
    omega (arith, once, within)

uncapped : (now size value : ℕ) → now * size + value < 65536 →
    capped (capped (now * size) + value) ≡ now * size + value
uncapped now size value less = first (now * size) less
  where
    first : (n : ℕ) → n + value < 65536 → capped (capped n + value) ≡ n + value
    first n less = grind arith

pub number_is : (sizes values : List ℕ) (now : ℕ) → AreBelow sizes values → (now + 1) * tuples_over sizes ≤ 65536 →
    number_by now sizes values ≡ now * tuples_over sizes + tuple_number sizes values
unfolding number_by
number_is [] [] now below few = omega arith
number_is [] (value ∷ values) now below few = absurd below
number_is (size ∷ sizes) [] now below few = absurd below
number_is (size ∷ sizes) (value ∷ values) now below few =
    let less : value < size = below.0 in
    let rest = tuples_over sizes in
    let fits : (now * size + value + 1) * rest ≤ 65536 = grown now size value rest less few in
    let here : capped (capped (now * size) + value) ≡ now * size + value =
    uncapped now size value (small (now * size + value) rest (some_tuple sizes values below.1) fits) in
    let shape : (now * size + value) * rest ≡ now * (size * rest) + value * rest = omega arith in
    ap (λ n. number_by n sizes values) here ∙ number_is sizes values (now * size + value) below.1 fits
    ∙ omega (arith, shape)

module _ (law : FieldsAreBelowSizes) (around : Surroundings) (picks : List ℕ) (env : Environment)
    (is : IsEnvironment around picks env) where
  terms_below : (kinds sizes : List ℕ) (terms : List Term) → TermsFit around picks kinds terms →
      AreSizesOf around.sizes kinds sizes → AreBelow sizes (map (value_in env) terms)
  terms_below [] [] [] fits sized = tt
  terms_below [] (size ∷ sizes) [] fits sized = absurd sized
  terms_below [] sizes (term ∷ terms) fits sized = absurd fits
  terms_below (kind ∷ kinds) [] terms fits sized = absurd sized
  terms_below (kind ∷ kinds) (size ∷ sizes) [] fits sized = absurd fits
  terms_below (kind ∷ kinds) (size ∷ sizes) (term ∷ terms) fits sized =
      (term_below law around picks env is kind size term fits.0 sized.0, terms_below kinds sizes terms fits.1 sized.1)

  -- a query that fits is read as its tuple
  pub entry_is : All (λ sizes. tuples_over sizes ≤ 65536) env.relations → (query : Query) →
      QueryFits around picks query → entry_by (scene_of env) query ≡ entry_in env query
  entry_is few query fits =
      let found =
      zip_get (AreSizesOf around.sizes) around.relations env.relations query.relation fits.0 is.arguments fits.1 in
      let sizes = slice_index_or env.relations query.relation [] in
      let same : sizes ≡ found.0 = at_index env.relations query.relation found.0 [] found.1 in
      let small : tuples_over sizes ≤ 65536 =
      few query.relation [] (slice_get_within env.relations query.relation found.0 found.1) in
      let below : AreBelow sizes (map (value_in env) query.args) =
      subst (λ (s : List ℕ). AreBelow s (map (value_in env) query.args)) (sym same)
      (terms_below fits.0 found.0 query.args fits.2 found.2) in
      let number : number_by 0 sizes (map (value_in env) query.args) ≡ tuple_number sizes (map
      (value_in env) query.args) =
      number_is sizes (map (value_in env) query.args) 0 below (omega (arith, small)) ∙ omega arith in
      λ i. record { relation = query.relation; tuple = number i }

-- packets

same_product : (sizes : List ℕ) → product sizes ≡ tuples_over sizes
same_product [] = refl
same_product (size ∷ sizes) = ap (λ (n : ℕ). size * n) (same_product sizes)

below_of_values : (sizes values : List ℕ) → length values ≡ length sizes →
    ((k : ℕ) → k < length sizes → slice_index values k < slice_index sizes k) → AreBelow sizes values
below_of_values [] [] long below = tt
below_of_values [] (value ∷ values) long below = absurd (omega (arith, long))
below_of_values (size ∷ sizes) [] long below = absurd (omega (arith, long))
below_of_values (size ∷ sizes) (value ∷ values) long below = (
  below 0 (omega arith),
  below_of_values sizes values (omega (arith, long)) (λ k h. below (suc k) (omega
      (arith, h))),
)

number_below : (sizes values : List ℕ) → AreBelow sizes values → tuple_number sizes values < tuples_over sizes
number_below [] [] below = omega arith
number_below [] (value ∷ values) below = absurd below
number_below (size ∷ sizes) [] below = absurd below
number_below (size ∷ sizes) (value ∷ values) below =
    subst (λ n. value * tuples_over sizes + tuple_number sizes values < n) (mul_comm (tuples_over sizes) size)
    (mul-add-lt value (tuples_over sizes) (tuple_number sizes values) size below.0 (number_below sizes values below.1))

first_field : (size : ℕ) (sizes : List ℕ) (p : ℕ) → field_of (size ∷ sizes) p 0 ≡ p / product sizes % size
unfolding field_of
first_field size sizes p = refl

later_field : (size : ℕ) (sizes : List ℕ) (p k : ℕ) → field_of (size ∷ sizes) p (suc k) ≡ field_of sizes p k
unfolding field_of
later_field size sizes p k =
    let next : suc k + 1 ≡ suc (k + 1) = omega arith in
    ap (λ (n : ℕ). p / product (drop n (size ∷ sizes)) % slice_index sizes k) next

-- the fields of the number of some values, behind whatever stands above it
abbrev AreFields : List ℕ → List ℕ → ℕ → Type 0
AreFields sizes values low =
    (high k : ℕ) → k < length sizes → field_of sizes (high * product sizes + low) k ≡ slice_index values k

one_field_more : (size : ℕ) (sizes : List ℕ) (value : ℕ) (values : List ℕ) (low : ℕ) → value < size →
    low < product sizes → AreFields sizes values low → (high k : ℕ) → k < length (size ∷ sizes) →
    field_of (size ∷ sizes) ((high * size + value) * product sizes + low) k ≡ slice_index (value ∷ values) k
one_field_more size sizes value values low less fits later high zero inside =
    first_field size sizes ((high * size + value) * product sizes + low)
    ∙ ap (λ (n : ℕ). n % size) (div-mul-add (high * size + value) (product sizes) low fits)
    ∙ mod-mul-add high size value less
one_field_more size sizes value values low less fits later high (suc k) inside =
    later_field size sizes ((high * size + value) * product sizes + low) k
    ∙ later (high * size + value) k (omega (arith, inside))

field_is : (sizes values : List ℕ) → AreBelow sizes values → AreFields sizes values (tuple_number sizes values)
field_is [] [] below high k less = absurd (omega (arith, less))
field_is [] (value ∷ values) below high k less = absurd below
field_is (size ∷ sizes) [] below high k less = absurd below
field_is (size ∷ sizes) (value ∷ values) below high k less =
    let rest : ℕ = product sizes in
    let low : ℕ = tuple_number sizes values in
    let shape : high * (size * rest) + (value * rest + low) ≡ (high * size + value) * rest + low = omega arith in
    let moved : high * (size * rest) + (value * tuples_over sizes + low)
    ≡ high * (size * rest) + (value * rest + low) =
    ap (λ (n : ℕ). high * (size * rest) + (value * n + low)) (sym (same_product sizes)) in
    let fits : low < rest =
    subst (λ (n : ℕ). low < n) (sym (same_product sizes)) (number_below sizes values below.1) in
    ap (λ p. field_of (size ∷ sizes) p k) (moved ∙ shape)
    ∙ one_field_more size sizes value values low below.0 fits (field_is sizes values below.1) high k less

-- changes that fit lead to the packet with them
pub packet_is : FieldsAreBelowSizes → (around : Surroundings) (picks : List ℕ) (env : Environment) →
    IsEnvironment around picks env → (changes : List Change) → ChangesFit around picks changes →
    IsChanged env changes (packet_by (scene_of env) changes)
packet_is law around picks env is changes fits = record {
  in_range = subst (λ (n : ℕ). n < product env.headers) (sym number) within;
  fields = ext_get_or 0 (fields_of env.headers packet) values (long ∙ sym are.long) (λ k inside.
      let less : k < length env.headers = omega (arith, inside, long) in
      field_read env.headers packet k less ∙ ap (λ p. field_of env.headers p k) (number ∙ omega arith)
      ∙ field_is env.headers values below 0 k less);
}
  where
    values : List ℕ
    values = fields_after (fields_of env.headers env.packet) env.picked changes

    are : AreValues env.headers values
    are = changes_keep law around picks env is changes (fields_of env.headers env.packet) fits
        (fields_are law around picks env is)

    below : AreBelow env.headers values
    below = below_of_values env.headers values are.long are.below

    packet : ℕ
    packet = packet_by (scene_of env) changes

    small : tuples_over env.headers ≤ 65536
    small = subst (λ (n : ℕ). n ≤ 65536) (same_product env.headers) is.headers.few_packets

    number : packet ≡ tuple_number env.headers values
    number = number_is env.headers values 0 below (omega (arith, small)) ∙ omega arith

    within : tuple_number env.headers values < product env.headers
    within = subst (λ (n : ℕ). tuple_number env.headers values < n) (sym (same_product env.headers))
        (number_below env.headers values below)

    long : length (fields_of env.headers packet) ≡ length env.headers
    long = length-map-range_with_len (field_of env.headers packet) 0 (length env.headers)
