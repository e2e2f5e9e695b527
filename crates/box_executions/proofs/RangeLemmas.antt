-- What terms, queries and changes that fit come to is in range.
use Rattle.std.proofs.Common.{◌≡◌, ℕ, ◌+◌, ◌*◌, ◌<◌, zero, suc, List, [], ◌∷◌, ◌++◌, length, map, slice_index}
use Rattle.std.proofs.Common.{slice_index_or, slice_set, Some, inl, inr, refl, sym, ap, subst, ◌∙◌, arith}
use Rattle.std.specs.Prelude.{slice_get}
use Rattle.std.specs.List.{AllZip, fold}
use Rattle.std.proofs.Math.Nat.{mul_comm}
use Rattle.std.proofs.lemmas.Bool.{cases_eq}
use Rattle.std.proofs.lemmas.Nat.{mul-add-lt}
use Rattle.std.proofs.lemmas.Option.{slice_get_within}
use Rattle.std.proofs.lemmas.List.{length-set, get_or-set_same, get_or-set_other, ext_get_or}
use Rattle.std.proofs.lemmas.List.FromFn.{length-map-range_with_len}
use Rattle.header_set.specs.Headers.{field_of}
use Rattle.header_set.specs.Laws.{FieldsAreBelowSizes, FieldsAreFree}
use Rattle.box_handlers.specs.declared.act.Term.{Term}
use Rattle.box_handlers.specs.declared.act.Term.TheVariants.{Field, Value, Picked}
use Rattle.box_handlers.specs.declared.act.Query.{Query}
use Rattle.box_handlers.specs.declared.act.Change.{Change}
use Rattle.box_handlers.specs.Fits.{Surroundings, TermFits, TermsFit, QueryFits, ChangeFits, ChangesFit, ArePicked}
use Rattle.box_handlers.specs.Tuple.{tuples_over, tuple_number, with_change, fields_after}
use Rattle.box_executions.specs.Environment.{Environment, fields_of, value_in, entry_in, with_pick, IsChanged}
use Rattle.box_executions.specs.Shape.{AreSizesOf, IsEnvironment, IsTuple}
use Rattle.box_executions.proofs.OnceLemmas.{field_read}

pub some_inside : {X : Type 0} {x y : X} → Some x ≡ Some y → x ≡ y
some_inside e = cc

-- the member of the other list at the same place
pub zip_get : {A B : Type 0} (R : A → B → Type 0) (xs : List A) (ys : List B) (k : ℕ) (x : A) → AllZip R xs ys →
    slice_get xs k ≡ Some x → (y : B) × (slice_get ys k ≡ Some y) × R x y
zip_get R [] ys k x all e = absurd (cc)
zip_get R (z ∷ xs) [] k x all e = absurd all
zip_get R (z ∷ xs) (y ∷ ys) zero x all e = (y, refl, subst (λ w. R w y) (some_inside e) all.0)
zip_get R (z ∷ xs) (y ∷ ys) (suc k) x all e = zip_get R xs ys k x all.1 e

pub at_index : {X : Type 0} (xs : List X) (k : ℕ) (x d : X) → slice_get xs k ≡ Some x → slice_index_or xs k d ≡ x
at_index [] k x d e = absurd (cc)
at_index (y ∷ xs) zero x d e = some_inside e
at_index (y ∷ xs) (suc k) x d e = at_index xs k x d e

-- the value of a pick is below the number of its values
picked_below : (picks picked : List ℕ) (i size : ℕ) → ArePicked picks picked → slice_get picks i ≡ Some size →
    slice_index picked i < size
picked_below [] picked i size are e = absurd (cc)
picked_below (pick ∷ picks) [] i size are e = absurd are
picked_below (pick ∷ picks) (value ∷ picked) zero size are e = subst (λ n. value < n) (some_inside e) are.0
picked_below (pick ∷ picks) (value ∷ picked) (suc i) size are e = picked_below picks picked i size are.1 e

-- a value more
one_more : (picks picked : List ℕ) (size value : ℕ) → ArePicked picks picked → value < size →
    ArePicked (picks ++ size ∷ []) (picked ++ value ∷ [])
one_more [] [] size value are less = (less, tt)
one_more [] (other ∷ picked) size value are less = absurd are
one_more (pick ∷ picks) [] size value are less = absurd are
one_more (pick ∷ picks) (other ∷ picked) size value are less = (are.0, one_more picks picked size value are.1 less)

pub pick_opened : (around : Surroundings) (picks : List ℕ) (env : Environment) (size value : ℕ) →
    IsEnvironment around picks env → value < size →
    IsEnvironment around (picks ++ size ∷ []) (with_pick env value)
pick_opened around picks env size value is less = record {
  kinds = is.kinds;
  headers = is.headers;
  fields = is.fields;
  arguments = is.arguments;
  in_range = is.in_range;
  values = one_more picks env.picked size value is.values less;
}

-- the values of fields, each below its size
pub record AreValues (headers values : List ℕ) : Type 0 where
  pub long : length values ≡ length headers
  pub below : (k : ℕ) → k < length headers → slice_index values k < slice_index headers k

module _ (law : FieldsAreBelowSizes) (around : Surroundings) (picks : List ℕ) (env : Environment)
    (is : IsEnvironment around picks env) where
  pub term_below : (kind size : ℕ) (term : Term) → TermFits around picks kind term →
      slice_get around.sizes kind ≡ Some size → value_in env term < size
  term_below kind size (Field k) fits e =
      let found =
      zip_get (λ kind size. slice_get around.sizes kind ≡ Some size) around.fields env.headers k kind is.fields
      fits in
      let less : k < length env.headers = slice_get_within env.headers k found.0 found.1 in
      let below : field_of env.headers env.packet k < slice_index env.headers k =
      law env.headers env.packet k is.headers less in
      let sized : slice_index env.headers k ≡ found.0 = at_index env.headers k found.0 0 found.1 in
      let same : found.0 ≡ size = some_inside (sym found.2 ∙ e) in
      omega (arith, below, sized, same, field_read env.headers env.packet k less)
  term_below kind size (Value x) fits e = subst (λ n. x < n) (some_inside (sym fits.1 ∙ e)) fits.2
  term_below kind size (Picked i) fits e =
      subst (λ n. slice_index env.picked i < n) (some_inside (sym fits.1 ∙ e))
      (picked_below picks env.picked i fits.0 is.values fits.2)

  terms_below : (kinds sizes : List ℕ) (terms : List Term) → TermsFit around picks kinds terms →
      AreSizesOf around.sizes kinds sizes →
      tuple_number sizes (map (value_in env) terms) < tuples_over sizes
  terms_below [] [] [] fits sized = omega arith
  terms_below [] (size ∷ sizes) [] fits sized = absurd sized
  terms_below [] sizes (term ∷ terms) fits sized = absurd fits
  terms_below (kind ∷ kinds) [] terms fits sized = absurd sized
  terms_below (kind ∷ kinds) (size ∷ sizes) [] fits sized = absurd fits
  terms_below (kind ∷ kinds) (size ∷ sizes) (term ∷ terms) fits sized =
      let first = term_below kind size term fits.0 sized.0 in
      let rest = terms_below kinds sizes terms fits.1 sized.1 in
      let row =
      mul-add-lt (value_in env term) (tuples_over sizes) (tuple_number sizes (map (value_in env) terms)) size first
      rest in
      subst (λ n. value_in env term * tuples_over sizes + tuple_number sizes (map (value_in env) terms) < n)
      (mul_comm (tuples_over sizes) size) row

  pub entry_is_tuple : (query : Query) → QueryFits around picks query → IsTuple env.relations (entry_in env query)
  entry_is_tuple query fits =
      let found =
      zip_get (AreSizesOf around.sizes) around.relations env.relations query.relation fits.0 is.arguments fits.1 in
      let sizes : slice_index_or env.relations query.relation [] ≡ found.0 =
      at_index env.relations query.relation found.0 [] found.1 in
      record {
        sizes = found.0;
        numbered = found.1;
        in_range =
            subst (λ s. tuple_number s (map (value_in env) query.args) < tuples_over found.0) (sym sizes)
            (terms_below fits.0 found.0 query.args fits.2 found.2);
      }

  pub change_below : (change : Change) → ChangeFits around picks change →
      (change.field < length env.headers) × (value_in env change.to < slice_index env.headers change.field)
  change_below change fits =
      let found =
      zip_get (λ kind size. slice_get around.sizes kind ≡ Some size) around.fields env.headers change.field fits.0
      is.fields fits.1 in
      let below : value_in env change.to < found.0 = term_below fits.0 found.0 change.to fits.2 found.2 in (
        slice_get_within env.headers change.field found.0 found.1,
        subst (λ n. value_in env change.to < n) (sym (at_index env.headers change.field found.0 0 found.1)) below,
      )

  set_values : (now : List ℕ) (k value : ℕ) → AreValues env.headers now → k < length env.headers →
      value < slice_index env.headers k → AreValues env.headers (slice_set now k value)
  set_values now k value are less below = record {
    long = length-set now k value ∙ are.long;
    below = λ j within. elim (cases_eq j k) [
      | inl same ↦
          let here : slice_index (slice_set now k value) j ≡ value =
          ap (λ n. slice_index (slice_set now k value) n) same
          ∙ get_or-set_same now k value 0 (omega (arith, less, are.long)) in
          let size : slice_index env.headers j ≡ slice_index env.headers k = ap (slice_index env.headers) same in
          omega (arith, here, size, below)
      | inr apart ↦
          let there : slice_index (slice_set now k value) j ≡ slice_index now j =
          get_or-set_other now k j value 0 apart in
          let before : slice_index now j < slice_index env.headers j = are.below j within in
          omega (arith, there, before)
    ];
  }

  pub changes_keep : (changes : List Change) (now : List ℕ) → ChangesFit around picks changes → AreValues env.headers
      now →
      AreValues env.headers (fold (with_change (fields_of env.headers env.packet) env.picked) now changes)
  changes_keep [] now fits are = are
  changes_keep (change ∷ changes) now fits are =
      let change_is = change_below change fits.0 in
      changes_keep changes (with_change (fields_of env.headers env.packet) env.picked now change) fits.1
      (set_values now change.field (value_in env change.to) are change_is.0 change_is.1)

  pub fields_are : AreValues env.headers (fields_of env.headers env.packet)
  fields_are = record {
    long = length-map-range_with_len (field_of env.headers env.packet) 0 (length env.headers);
    below = λ k less. omega
        (arith, field_read env.headers env.packet k less, law env.headers env.packet k is.headers less);
  }

  -- there is the packet with the changes
  pub changed_is : FieldsAreFree → (changes : List Change) → ChangesFit around picks changes →
      (packet : ℕ) × IsChanged env changes packet
  changed_is free changes fits =
      let values : List ℕ = fields_after (fields_of env.headers env.packet) env.picked changes in
      let are : AreValues env.headers values =
      changes_keep changes (fields_of env.headers env.packet) fits fields_are in
      let found = free env.headers values is.headers are.long are.below in
      let long : length (fields_of env.headers found.0) ≡ length env.headers =
      length-map-range_with_len (field_of env.headers found.0) 0 (length env.headers) in (
        found.0,
        record {
          in_range = found.1;
          fields = ext_get_or 0 (fields_of env.headers found.0) values (long ∙ sym are.long) (λ k within.
              let less : k < length env.headers = omega (arith, within, long) in
              field_read env.headers found.0 k less ∙ found.2 k less);
        },
      )
