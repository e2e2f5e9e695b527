-- The queries of handlers that fit do fit where no pick is open.
use Rattle.std.proofs.Common.{◌≡◌, ℕ, ◌+◌, ◌<◌, suc, zero, not, List, [], ◌∷◌, ◌++◌, map, Some, refl, sym, subst, arith}
use Rattle.std.specs.Prelude.{slice_get}
use Rattle.std.specs.List.{AllByRecursion, flat_map, range_with_len}
use Rattle.std.proofs.lemmas.List.Elements.{All-from_recursion, recursion_from_All}
use Rattle.box_handlers.specs.declared.act.Term.{Term}
use Rattle.box_handlers.specs.declared.act.Term.TheVariants.{Field, Value, Picked}
use Rattle.box_handlers.specs.declared.act.Query.{Query}
use Rattle.box_handlers.specs.declared.act.Act.{Act}
use Rattle.box_handlers.specs.Body.{Formula, Truth, Holds, Alike, Unlike, Denied, Grouped, Both, Every, Either, Neither}
use Rattle.box_handlers.specs.Body.{Body, Stop, Writes, Emit, Halt, Fork, Each, Branches, NoBranch, OneBranch, body_of}
use Rattle.box_handlers.specs.Fits.{Surroundings, TermFits, TermsFit, QueryFits, FormulaFits, Fits, BranchesFit}
use Rattle.box_handlers.specs.Fits.{ArePicked}
use Rattle.box_handlers.specs.Queries.{filled, filled_by, filled_term, asked_by_formula, asked_by, asked_by_branches}
use Rattle.box_handlers.specs.Queries.{same_query, first_occurrences, queries_of}
use Rattle.box_handlers.specs.Laws.{QueriesFit}
use Rattle.box_handlers.proofs.MemberLemmas.{AllByRecursion-append, AllByRecursion-filter, AllByRecursion-flat_map}

abbrev Fitting : Surroundings → List Query → Type 0
Fitting around queries = AllByRecursion (QueryFits around []) queries

-- the value of a pick is there, and below the number of its values
got : (picks picked : List ℕ) (i size : ℕ) → ArePicked picks picked → slice_get picks i ≡ Some size →
    (value : ℕ) × (slice_get picked i ≡ Some value) × (value < size)
got [] picked i size are e = absurd (cc)
got (pick ∷ picks) [] i size are e = absurd are
got (pick ∷ picks) (value ∷ picked) zero size are e =
    (value, refl, (let same : pick ≡ size = cc in subst (λ n. value < n) same are.0))
got (pick ∷ picks) (value ∷ picked) (suc i) size are e = got picks picked i size are.1 e

-- a value more
one_more : (picks picked : List ℕ) (size value : ℕ) → ArePicked picks picked → value < size →
    ArePicked (picks ++ size ∷ []) (picked ++ value ∷ [])
one_more [] [] size value are less = (less, tt)
one_more [] (other ∷ picked) size value are less = absurd are
one_more (pick ∷ picks) [] size value are less = absurd are
one_more (pick ∷ picks) (other ∷ picked) size value are less = (are.0, one_more picks picked size value are.1 less)

over_range : (P : ℕ → Type 0) (start len : ℕ) → ((value : ℕ) → value < start + len → P value) →
    AllByRecursion P (range_with_len start len)
over_range P start zero all = tt
over_range P start (suc len) all =
    (all start (omega arith), over_range P (start + 1) len (λ value less. all value (omega (arith, less))))

term_fits : (around : Surroundings) (picks picked : List ℕ) (kind : ℕ) (term : Term) → ArePicked picks picked →
    TermFits around picks kind term → TermFits around [] kind (filled_term picked term)
term_fits around picks picked kind (Field k) are fits = fits
term_fits around picks picked kind (Value x) are fits = fits
term_fits around picks picked kind (Picked i) are fits =
    let found = got picks picked i fits.0 are fits.2 in
    subst (λ value. TermFits around [] kind (filled_by value (Picked i))) (sym found.1) (fits.0, fits.1, found.2)

terms_fit : (around : Surroundings) (picks picked kinds : List ℕ) (terms : List Term) → ArePicked picks picked →
    TermsFit around picks kinds terms → TermsFit around [] kinds (map (filled_term picked) terms)
terms_fit around picks picked [] [] are fits = tt
terms_fit around picks picked [] (term ∷ terms) are fits = absurd fits
terms_fit around picks picked (kind ∷ kinds) [] are fits = absurd fits
terms_fit around picks picked (kind ∷ kinds) (term ∷ terms) are fits =
    (term_fits around picks picked kind term are fits.0, terms_fit around picks picked kinds terms are fits.1)

query_fits : (around : Surroundings) (picks picked : List ℕ) (query : Query) → ArePicked picks picked →
    QueryFits around picks query → QueryFits around [] (filled picked query)
query_fits around picks picked query are fits =
    (fits.0, fits.1, terms_fit around picks picked fits.0 query.args are fits.2)

formula_fits : (around : Surroundings) (picks picked : List ℕ) (formula : Formula) → ArePicked picks picked →
    FormulaFits around picks formula → Fitting around (asked_by_formula picked formula)
formula_fits around picks picked Truth are fits = tt
formula_fits around picks picked (Holds query) are fits = (query_fits around picks picked query are fits, tt)
formula_fits around picks picked (Alike one two) are fits = tt
formula_fits around picks picked (Unlike one two) are fits = tt
formula_fits around picks picked (Denied formula) are fits = formula_fits around picks picked formula are fits
formula_fits around picks picked (Grouped formula) are fits = formula_fits around picks picked formula are fits
formula_fits around picks picked (Both one two) are fits =
    AllByRecursion-append (QueryFits around []) (asked_by_formula picked one) (asked_by_formula picked two)
    (formula_fits around picks picked one are fits.0) (formula_fits around picks picked two are fits.1)
formula_fits around picks picked Every are fits = tt
formula_fits around picks picked (Either one two) are fits =
    AllByRecursion-append (QueryFits around []) (asked_by_formula picked one) (asked_by_formula picked two)
    (formula_fits around picks picked one are fits.0) (formula_fits around picks picked two are fits.1)
formula_fits around picks picked Neither are fits = tt

mutual
  body_fits : (around : Surroundings) (body : Body) (picks picked : List ℕ) → ArePicked picks picked →
      Fits around body picks → Fitting around (asked_by body picked)
  body_fits around Stop picks picked are fits = tt
  body_fits around (Writes query add rest) picks picked are fits = body_fits around rest picks picked are fits.1
  body_fits around (Emit port changes rest) picks picked are fits = body_fits around rest picks picked are fits.3
  body_fits around (Halt rest) picks picked are fits = body_fits around rest picks picked are fits
  body_fits around (Fork branches rest) picks picked are fits =
      AllByRecursion-append (QueryFits around []) (asked_by_branches branches picked) (asked_by rest picked)
      (branches_fit around branches picks picked are fits.0) (body_fits around rest picks picked are fits.1)
  body_fits around (Each values body rest) picks picked are fits =
      AllByRecursion-append (QueryFits around [])
      (flat_map (λ value. asked_by body (picked ++ value ∷ [])) (range_with_len 0 values)) (asked_by rest picked)
      (AllByRecursion-flat_map (QueryFits around []) (λ value. asked_by body (picked ++ value ∷ []))
      (range_with_len 0 values)
      (over_range (λ value. Fitting around (asked_by body (picked ++ value ∷ []))) 0 values
      (λ value less. body_fits around body (picks ++ values ∷ []) (picked ++ value ∷ [])
      (one_more picks picked values value are (omega (arith, less))) fits.1)))
      (body_fits around rest picks picked are fits.2)

  branches_fit : (around : Surroundings) (branches : Branches) (picks picked : List ℕ) → ArePicked picks picked →
      BranchesFit around branches picks → Fitting around (asked_by_branches branches picked)
  branches_fit around NoBranch picks picked are fits = tt
  branches_fit around (OneBranch guard body more) picks picked are fits =
      AllByRecursion-append (QueryFits around []) (asked_by_formula picked guard ++ asked_by body picked)
      (asked_by_branches more picked)
      (AllByRecursion-append (QueryFits around []) (asked_by_formula picked guard) (asked_by body picked)
      (formula_fits around picks picked guard are fits.0) (body_fits around body picks picked are fits.1))
      (branches_fit around more picks picked are fits.2)

first_fit : (around : Surroundings) (queries : List Query) → Fitting around queries →
    Fitting around (first_occurrences queries)
first_fit around [] p = tt
first_fit around (query ∷ queries) p = (
  p.0,
  AllByRecursion-filter (QueryFits around []) (λ other. not (same_query query other))
      (first_occurrences queries) (first_fit around queries p.1),
)

handlers_fit : (around : Surroundings) (handlers : List (List Act)) →
    AllByRecursion (λ acts. Fits around (body_of acts) []) handlers →
    Fitting around (flat_map (λ acts. asked_by (body_of acts) []) handlers)
handlers_fit around [] p = tt
handlers_fit around (acts ∷ handlers) p =
    AllByRecursion-append (QueryFits around []) (asked_by (body_of acts) [])
    (flat_map (λ one. asked_by (body_of one) []) handlers)
    (body_fits around (body_of acts) [] [] tt p.0) (handlers_fit around handlers p.1)

pub all_fit : QueriesFit
all_fit around handlers fits =
    All-from_recursion (QueryFits around []) (queries_of handlers)
    (first_fit around (flat_map (λ acts. asked_by (body_of acts) []) handlers)
    (handlers_fit around handlers (recursion_from_All (λ acts. Fits around (body_of acts) []) handlers fits)))
