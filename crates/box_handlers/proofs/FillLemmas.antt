-- Queries with values in place of picks, and when two queries are the same.
use Rattle.std.proofs.Common.{◌≡◌, ℕ, suc, zero, ◌&&◌, Bool, true, false, eqb, List, [], ◌∷◌, length, map, Option, Some}
use Rattle.std.proofs.Common.{None, refl, sym, ap, subst, ◌∙◌, arith}
use Rattle.std.specs.Prelude.{slice_get, slice_index, slice_index_or, unwrap_or}
use Rattle.std.specs.List.{AllByRecursion}
use Rattle.std.specs.Cmp.Lexicographic.{pointwise}
use Rattle.std.proofs.lemmas.Bool.{eqb-true, eq-eqb}
use Rattle.std.proofs.lemmas.Option.{get_or_from_slice_get, unwrap_or-slice_get}
use Rattle.box_handlers.specs.declared.act.Term.{Term}
use Rattle.box_handlers.specs.declared.act.Term.TheVariants.{Field, Value, Picked}
use Rattle.box_handlers.specs.declared.act.Query.{Query}
use Rattle.box_handlers.specs.Fits.{Surroundings, TermFits, TermsFit}
use Rattle.box_handlers.specs.Queries.{filled_by, filled_term, same_term, same_query, IsNoPick}
use Rattle.box_handlers.specs.Tuple.{value_of, tuple_number}
use Rattle.box_handlers.specs.Laws.{SameQueryIsEqual, FilledHasSameTuple}

picked_value : (fields opened : List ℕ) (i : ℕ) (found : Option ℕ) → slice_get opened i ≡ found →
    slice_index opened i ≡ value_of fields [] (filled_by found (Picked i))
picked_value fields opened i (Some value) e = get_or_from_slice_get opened i value 0 e
picked_value fields opened i None e = sym (unwrap_or-slice_get opened i 0) ∙ ap (λ found. unwrap_or found 0) e

-- a term has the same value once it is filled
value_of-filled : (fields opened : List ℕ) (term : Term) →
    value_of fields opened term ≡ value_of fields [] (filled_term opened term)
value_of-filled fields opened (Field k) = refl
value_of-filled fields opened (Value x) = refl
value_of-filled fields opened (Picked i) = picked_value fields opened i (slice_get opened i) refl

values-filled : (fields opened : List ℕ) (terms : List Term) →
    map (value_of fields opened) terms ≡ map (value_of fields []) (map (filled_term opened) terms)
values-filled fields opened [] = refl
values-filled fields opened (term ∷ terms) =
    λ i. value_of-filled fields opened term i ∷ values-filled fields opened terms i

pub filled_same : FilledHasSameTuple
filled_same relations fields opened query = λ i. record {
  relation = query.relation;
  tuple = tuple_number (slice_index_or relations query.relation []) (values-filled fields opened query.args i);
}

-- what two tests say together
both_true : (a b : Bool) → (a && b) ≡ true → (a ≡ true) × (b ≡ true)
both_true true b e = (refl, e)
both_true false b e = absurd (cc)

same_term-equal : (one two : Term) → same_term one two ≡ true → one ≡ two
same_term-equal (Field k) (Field l) e = ap Field (eqb-true k l e)
same_term-equal (Field k) (Value y) e = absurd (cc)
same_term-equal (Field k) (Picked j) e = absurd (cc)
same_term-equal (Value x) (Field l) e = absurd (cc)
same_term-equal (Value x) (Value y) e = ap Value (eqb-true x y e)
same_term-equal (Value x) (Picked j) e = absurd (cc)
same_term-equal (Picked i) (Field l) e = absurd (cc)
same_term-equal (Picked i) (Value y) e = absurd (cc)
same_term-equal (Picked i) (Picked j) e = ap Picked (eqb-true i j e)

same_term-itself : (term : Term) → same_term term term ≡ true
same_term-itself (Field k) = eq-eqb k k refl
same_term-itself (Value x) = eq-eqb x x refl
same_term-itself (Picked i) = eq-eqb i i refl

same_terms-equal : (one two : List Term) → pointwise same_term one two ≡ true → one ≡ two
same_terms-equal [] [] e = refl
same_terms-equal [] (term ∷ terms) e = absurd (cc)
same_terms-equal (term ∷ terms) [] e = absurd (cc)
same_terms-equal (one ∷ ones) (two ∷ twos) e =
    let parts = both_true (same_term one two) (pointwise same_term ones twos) e in
    λ i. same_term-equal one two parts.0 i ∷ same_terms-equal ones twos parts.1 i

same_terms-itself : (terms : List Term) → pointwise same_term terms terms ≡ true
same_terms-itself [] = refl
same_terms-itself (term ∷ terms) =
    ap (λ b. b && pointwise same_term terms terms) (same_term-itself term) ∙ same_terms-itself terms

pub same_query-equal : (one two : Query) → same_query one two ≡ true → one ≡ two
same_query-equal one two e =
    let parts = both_true (eqb one.relation two.relation) (pointwise same_term one.args two.args) e in
    λ i. record
    { relation = eqb-true one.relation two.relation parts.0 i; args = same_terms-equal one.args two.args parts.1 i }

pub same_query-itself : (query : Query) → same_query query query ≡ true
same_query-itself query =
    ap (λ b. b && pointwise same_term query.args query.args) (eq-eqb query.relation query.relation refl)
    ∙ same_terms-itself query.args

pub same_is_equal : SameQueryIsEqual
same_is_equal one two =
    (same_query-equal one two, λ e. subst (λ other. same_query one other ≡ true) e (same_query-itself one))

-- a list that is as long has something at the same place
got : (picks picked : List ℕ) (i size : ℕ) → length picked ≡ length picks → slice_get picks i ≡ Some size →
    (value : ℕ) × (slice_get picked i ≡ Some value)
got [] picked i size long e = absurd (cc)
got (pick ∷ picks) [] i size long e = absurd (omega (arith, long))
got (pick ∷ picks) (value ∷ picked) zero size long e = (value, refl)
got (pick ∷ picks) (value ∷ picked) (suc i) size long e = got picks picked i size (omega (arith, long)) e

-- a term that fits is no pick once it is filled
term_filled : (around : Surroundings) (picks picked : List ℕ) (kind : ℕ) (term : Term) → length picked ≡ length picks →
    TermFits around picks kind term → IsNoPick (filled_term picked term)
term_filled around picks picked kind (Field k) long fits = tt
term_filled around picks picked kind (Value x) long fits = tt
term_filled around picks picked kind (Picked i) long fits =
    let found = got picks picked i fits.0 long fits.2 in
    subst (λ value. IsNoPick (filled_by value (Picked i))) (sym found.1) tt

pub terms_filled : (around : Surroundings) (picks picked kinds : List ℕ) (terms : List Term) →
    length picked ≡ length picks → TermsFit around picks kinds terms →
    AllByRecursion IsNoPick (map (filled_term picked) terms)
terms_filled around picks picked [] [] long fits = tt
terms_filled around picks picked [] (term ∷ terms) long fits = absurd fits
terms_filled around picks picked (kind ∷ kinds) [] long fits = tt
terms_filled around picks picked (kind ∷ kinds) (term ∷ terms) long fits =
    (term_filled around picks picked kind term long fits.0, terms_filled around picks picked kinds terms long fits.1)
