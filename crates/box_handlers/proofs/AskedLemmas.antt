-- What handlers ask, the queries that hold all of it, and that these differ and name no pick.
use Rattle.std.proofs.Common.{◌≡◌, ◌≢◌, ℕ, Bool, true, false, not, List, [], ◌∷◌, ◌++◌, length, length-append, ◌⊎◌, inl}
use Rattle.std.proofs.Common.{inr, refl, sym, ap, ◌∙◌, subst, arith}
use Rattle.std.specs.List.{AllByRecursion, Contains, filter, flat_map, range_with_len}
use Rattle.std.proofs.lemmas.List.Elements.{Contains-append_left, Contains-append_right, All-from_recursion}
use Rattle.std.proofs.lemmas.List.Elements.{recursion_from_All}
use Rattle.box_handlers.specs.declared.act.Query.{Query}
use Rattle.box_handlers.specs.declared.act.Act.{Act}
use Rattle.box_handlers.specs.Body.{Formula, Truth, Holds, Alike, Unlike, Denied, Grouped, Both, Every, Either, Neither}
use Rattle.box_handlers.specs.Body.{Body, Stop, Writes, Emit, Halt, Fork, Each, Branches, NoBranch, OneBranch, body_of}
use Rattle.box_handlers.specs.Fits.{Surroundings, QueryFits, FormulaFits, Fits, BranchesFit}
use Rattle.box_handlers.specs.Queries.{filled, asked_by_formula, asked_by, asked_by_branches, same_query}
use Rattle.box_handlers.specs.Queries.{first_occurrences, queries_of, FormulaAsks, Asks, BranchesAsk, IsNoPick}
use Rattle.box_handlers.specs.Queries.{NamesNoPick}
use Rattle.box_handlers.specs.Laws.{QueriesDiffer, QueriesHoldAllAsked, QueriesNameNoPick}
use Rattle.box_handlers.proofs.FillLemmas.{same_query-equal, same_query-itself, terms_filled}
use Rattle.box_handlers.proofs.MemberLemmas.{Contains-here, Contains-there, Contains-none, Contains-cons_cases}
use Rattle.box_handlers.proofs.MemberLemmas.{Contains-filter, Contains-flat_map, Contains-range, Pairs, Pairs-filter}
use Rattle.box_handlers.proofs.MemberLemmas.{AllPairs-from_pairs, AllByRecursion-append, AllByRecursion-filter}
use Rattle.box_handlers.proofs.MemberLemmas.{AllByRecursion-passes, AllByRecursion-map, AllByRecursion-flat_map}
use Rattle.box_handlers.proofs.MemberLemmas.{AllByRecursion-always}

-- no two are equal

differs_from : (query other : Query) → not (same_query query other) ≡ true → query ≢ other
differs_from query other passes same =
    let itself : same_query query other ≡ true = ap (λ q. same_query query q) (sym same) ∙ same_query-itself query in
    let clash : not true ≡ true = subst (λ b. not b ≡ true) itself passes in
    cc

first_differ : (queries : List Query) → Pairs (λ one two. one ≢ two) (first_occurrences queries)
first_differ [] = tt
first_differ (query ∷ queries) = (
  AllByRecursion-map (λ other. not (same_query query other) ≡ true) (λ other. query ≢ other) (differs_from query)
      (filter (λ other. not (same_query query other)) (first_occurrences queries))
      (AllByRecursion-passes (λ other. not (same_query query other)) (first_occurrences queries)),
  Pairs-filter (λ one two. one ≢ two) (λ other. not (same_query query other)) (first_occurrences queries)
      (first_differ queries),
)

pub differ : QueriesDiffer
differ handlers =
    AllPairs-from_pairs (λ one two. one ≢ two) (queries_of handlers)
    (first_differ (flat_map (λ acts. asked_by (body_of acts) []) handlers))

-- nothing is lost

first_holds : (queries : List Query) (query : Query) → Contains queries query →
    Contains (first_occurrences queries) query
first_holds [] query h = absurd (Contains-none query h)
first_holds (first ∷ queries) query h =
    by (λ later. first_holds queries query later) (Contains-cons_cases first query queries h)
    (same_query first query) refl
  where
    by : (Contains queries query → Contains (first_occurrences queries) query) →
        (first ≡ query) ⊎ Contains queries query →
        (b : Bool) → same_query first query ≡ b →
        Contains (first ∷ filter (λ other. not (same_query first other)) (first_occurrences queries)) query
    by rest (inl same) b e =
        subst (λ q. Contains (q ∷ filter (λ other. not (same_query first other)) (first_occurrences queries)) query)
        (sym same)
        (Contains-here query (filter (λ other. not (same_query first other)) (first_occurrences queries)))
    by rest (inr later) true e =
        subst (λ q. Contains (q ∷ filter (λ other. not (same_query first other)) (first_occurrences queries)) query)
        (sym (same_query-equal first query e))
        (Contains-here query (filter (λ other. not (same_query first other)) (first_occurrences queries)))
    by rest (inr later) false e =
        Contains-there first query (filter (λ other. not (same_query first other)) (first_occurrences queries))
        (Contains-filter (λ other. not (same_query first other)) query (first_occurrences queries) (rest later)
        (ap not e))

formula_holds : (picked : List ℕ) (formula : Formula) (query : Query) → FormulaAsks formula query →
    Contains (asked_by_formula picked formula) (filled picked query)
formula_holds picked Truth query h = absurd h
formula_holds picked (Holds asked) query h =
    subst (λ q. Contains (filled picked asked ∷ []) (filled picked q)) h (Contains-here (filled picked asked) [])
formula_holds picked (Alike one two) query h = absurd h
formula_holds picked (Unlike one two) query h = absurd h
formula_holds picked (Denied formula) query h = formula_holds picked formula query h
formula_holds picked (Grouped formula) query h = formula_holds picked formula query h
formula_holds picked (Both one two) query (inl h) =
    Contains-append_left (asked_by_formula picked one) (asked_by_formula picked two) (filled picked query)
    (formula_holds picked one query h)
formula_holds picked (Both one two) query (inr h) =
    Contains-append_right (asked_by_formula picked one) (asked_by_formula picked two) (filled picked query)
    (formula_holds picked two query h)
formula_holds picked Every query h = absurd h
formula_holds picked (Either one two) query (inl h) =
    Contains-append_left (asked_by_formula picked one) (asked_by_formula picked two) (filled picked query)
    (formula_holds picked one query h)
formula_holds picked (Either one two) query (inr h) =
    Contains-append_right (asked_by_formula picked one) (asked_by_formula picked two) (filled picked query)
    (formula_holds picked two query h)
formula_holds picked Neither query h = absurd h

mutual
  body_holds : (body : Body) (picked opened : List ℕ) (query : Query) → Asks body picked opened query →
      Contains (asked_by body picked) (filled opened query)
  body_holds Stop picked opened query h = absurd h
  body_holds (Writes written add rest) picked opened query h = body_holds rest picked opened query h
  body_holds (Emit port changes rest) picked opened query h = body_holds rest picked opened query h
  body_holds (Halt rest) picked opened query h = body_holds rest picked opened query h
  body_holds (Fork branches rest) picked opened query (inl h) =
      Contains-append_left (asked_by_branches branches picked) (asked_by rest picked) (filled opened query)
      (branches_hold branches picked opened query h)
  body_holds (Fork branches rest) picked opened query (inr h) =
      Contains-append_right (asked_by_branches branches picked) (asked_by rest picked) (filled opened query)
      (body_holds rest picked opened query h)
  body_holds (Each values body rest) picked opened query (inl h) =
      Contains-append_left (flat_map (λ value. asked_by body (picked ++ value ∷ [])) (range_with_len 0 values))
      (asked_by rest picked) (filled opened query)
      (Contains-flat_map (λ value. asked_by body (picked ++ value ∷ [])) h.0 (range_with_len 0 values)
      (filled opened query)
      (Contains-range 0 values h.0 (omega arith) (omega (arith, h.1)))
      (body_holds body (picked ++ h.0 ∷ []) opened query h.2))
  body_holds (Each values body rest) picked opened query (inr h) =
      Contains-append_right (flat_map (λ value. asked_by body (picked ++ value ∷ [])) (range_with_len 0 values))
      (asked_by rest picked) (filled opened query)
      (body_holds rest picked opened query h)

  branches_hold : (branches : Branches) (picked opened : List ℕ) (query : Query) →
      BranchesAsk branches picked opened query → Contains (asked_by_branches branches picked) (filled opened query)
  branches_hold NoBranch picked opened query h = absurd h
  branches_hold (OneBranch guard body more) picked opened query (inl h) =
      subst (λ values. Contains (asked_by_formula picked guard ++ asked_by body picked ++ asked_by_branches more picked)
      (filled values query)) h.0
      (Contains-append_left (asked_by_formula picked guard ++ asked_by body picked) (asked_by_branches more picked)
      (filled picked query)
      (Contains-append_left (asked_by_formula picked guard) (asked_by body picked) (filled picked query)
      (formula_holds picked guard query h.1)))
  branches_hold (OneBranch guard body more) picked opened query (inr (inl h)) =
      Contains-append_left (asked_by_formula picked guard ++ asked_by body picked) (asked_by_branches more picked)
      (filled opened query)
      (Contains-append_right (asked_by_formula picked guard) (asked_by body picked) (filled opened query)
      (body_holds body picked opened query h))
  branches_hold (OneBranch guard body more) picked opened query (inr (inr h)) =
      Contains-append_right (asked_by_formula picked guard ++ asked_by body picked) (asked_by_branches more picked)
      (filled opened query)
      (branches_hold more picked opened query h)

pub hold_all : QueriesHoldAllAsked
hold_all handlers acts opened query member asks =
    first_holds (flat_map (λ one. asked_by (body_of one) []) handlers) (filled opened query)
    (Contains-flat_map (λ one. asked_by (body_of one) []) acts handlers (filled opened query) member
    (body_holds (body_of acts) [] opened query asks))

-- no pick is named

abbrev Plain : List Query → Type 0
Plain queries = AllByRecursion NamesNoPick queries

query_plain : (around : Surroundings) (picks picked : List ℕ) (query : Query) → length picked ≡ length picks →
    QueryFits around picks query → NamesNoPick (filled picked query)
query_plain around picks picked query long fits =
    All-from_recursion IsNoPick (filled picked query).args
    (terms_filled around picks picked fits.0 query.args long fits.2)

formula_plain : (around : Surroundings) (picks picked : List ℕ) (formula : Formula) → length picked ≡ length picks →
    FormulaFits around picks formula → Plain (asked_by_formula picked formula)
formula_plain around picks picked Truth long fits = tt
formula_plain around picks picked (Holds query) long fits = (query_plain around picks picked query long fits, tt)
formula_plain around picks picked (Alike one two) long fits = tt
formula_plain around picks picked (Unlike one two) long fits = tt
formula_plain around picks picked (Denied formula) long fits = formula_plain around picks picked formula long fits
formula_plain around picks picked (Grouped formula) long fits = formula_plain around picks picked formula long fits
formula_plain around picks picked (Both one two) long fits =
    AllByRecursion-append NamesNoPick (asked_by_formula picked one) (asked_by_formula picked two)
    (formula_plain around picks picked one long fits.0) (formula_plain around picks picked two long fits.1)
formula_plain around picks picked Every long fits = tt
formula_plain around picks picked (Either one two) long fits =
    AllByRecursion-append NamesNoPick (asked_by_formula picked one) (asked_by_formula picked two)
    (formula_plain around picks picked one long fits.0) (formula_plain around picks picked two long fits.1)
formula_plain around picks picked Neither long fits = tt

one_more : (picks picked : List ℕ) (pick value : ℕ) → length picked ≡ length picks →
    length (picked ++ value ∷ []) ≡ length (picks ++ pick ∷ [])
one_more picks picked pick value long =
    omega (arith, long, length-append picks (pick ∷ []), length-append picked (value ∷ []))

mutual
  body_plain : (around : Surroundings) (body : Body) (picks picked : List ℕ) → length picked ≡ length picks →
      Fits around body picks → Plain (asked_by body picked)
  body_plain around Stop picks picked long fits = tt
  body_plain around (Writes query add rest) picks picked long fits = body_plain around rest picks picked long fits.1
  body_plain around (Emit port changes rest) picks picked long fits = body_plain around rest picks picked long fits.3
  body_plain around (Halt rest) picks picked long fits = body_plain around rest picks picked long fits
  body_plain around (Fork branches rest) picks picked long fits =
      AllByRecursion-append NamesNoPick (asked_by_branches branches picked) (asked_by rest picked)
      (branches_plain around branches picks picked long fits.0) (body_plain around rest picks picked long fits.1)
  body_plain around (Each values body rest) picks picked long fits =
      AllByRecursion-append NamesNoPick
      (flat_map (λ value. asked_by body (picked ++ value ∷ [])) (range_with_len 0 values)) (asked_by rest picked)
      (AllByRecursion-flat_map NamesNoPick (λ value. asked_by body (picked ++ value ∷ [])) (range_with_len 0 values)
      (AllByRecursion-always (λ value. Plain (asked_by body (picked ++ value ∷ [])))
      (λ value. body_plain around body (picks ++ values ∷ []) (picked ++ value ∷ [])
      (one_more picks picked values value long) fits.1)
      (range_with_len 0 values)))
      (body_plain around rest picks picked long fits.2)

  branches_plain : (around : Surroundings) (branches : Branches) (picks picked : List ℕ) →
      length picked ≡ length picks → BranchesFit around branches picks → Plain (asked_by_branches branches picked)
  branches_plain around NoBranch picks picked long fits = tt
  branches_plain around (OneBranch guard body more) picks picked long fits =
      AllByRecursion-append NamesNoPick (asked_by_formula picked guard ++ asked_by body picked)
      (asked_by_branches more picked)
      (AllByRecursion-append NamesNoPick (asked_by_formula picked guard) (asked_by body picked)
      (formula_plain around picks picked guard long fits.0) (body_plain around body picks picked long fits.1))
      (branches_plain around more picks picked long fits.2)

first_plain : (queries : List Query) → Plain queries → Plain (first_occurrences queries)
first_plain [] p = tt
first_plain (query ∷ queries) p = (
  p.0,
  AllByRecursion-filter NamesNoPick (λ other. not (same_query query other)) (first_occurrences queries)
      (first_plain queries p.1),
)

handlers_plain : (around : Surroundings) (handlers : List (List Act)) →
    AllByRecursion (λ acts. Fits around (body_of acts) []) handlers →
    Plain (flat_map (λ acts. asked_by (body_of acts) []) handlers)
handlers_plain around [] p = tt
handlers_plain around (acts ∷ handlers) p =
    AllByRecursion-append NamesNoPick (asked_by (body_of acts) [])
    (flat_map (λ one. asked_by (body_of one) []) handlers)
    (body_plain around (body_of acts) [] [] refl p.0) (handlers_plain around handlers p.1)

pub name_no_pick : QueriesNameNoPick
name_no_pick around handlers fits =
    All-from_recursion NamesNoPick (queries_of handlers)
    (first_plain (flat_map (λ acts. asked_by (body_of acts) []) handlers)
    (handlers_plain around handlers (recursion_from_All (λ acts. Fits around (body_of acts) []) handlers fits)))
