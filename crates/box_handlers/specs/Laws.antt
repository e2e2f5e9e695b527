-- Laws on the queries of a class.
use Rattle.std.specs.Prelude.{◌≡◌, ◌≢◌, ℕ, ◌↔◌, true, List, []}
use Rattle.std.specs.List.{All, AllPairs, Contains}
use Rattle.box_handlers.specs.declared.act.Query.{Query}
use Rattle.box_handlers.specs.declared.act.Act.{Act}
use Rattle.box_handlers.specs.Body.{body_of}
use Rattle.box_handlers.specs.Fits.{Surroundings, QueryFits, Fits}
use Rattle.box_handlers.specs.Queries.{filled, same_query, queries_of, Asks, NamesNoPick}
use Rattle.box_handlers.specs.Tuple.{tuple_of}

-- two queries are told apart exactly where they differ
abbrev pub SameQueryIsEqual : Type 0
SameQueryIsEqual = (one two : Query) → (same_query one two ≡ true) ↔ (one ≡ two)

-- no two queries of a class are equal
abbrev pub QueriesDiffer : Type 0
QueriesDiffer = (handlers : List (List Act)) → AllPairs (λ one two. one ≢ two) (queries_of handlers)

-- what a guard asks while some values are picked is a query of the class once these values stand in place of the picks
abbrev pub QueriesHoldAllAsked : Type 0
QueriesHoldAllAsked =
    (handlers : List (List Act)) (acts : List Act) (opened : List ℕ) (query : Query) →
    Contains handlers acts → Asks (body_of acts) [] opened query → Contains (queries_of handlers) (filled opened query)

-- and that query has the same tuple, at every packet
abbrev pub FilledHasSameTuple : Type 0
FilledHasSameTuple =
    (relations : List (List ℕ)) (fields opened : List ℕ) (query : Query) →
    tuple_of relations fields opened query ≡ tuple_of relations fields [] (filled opened query)

-- the queries of handlers that fit name no pick
abbrev pub QueriesNameNoPick : Type 0
QueriesNameNoPick =
    (around : Surroundings) (handlers : List (List Act)) →
    All (λ acts. Fits around (body_of acts) []) handlers → All NamesNoPick (queries_of handlers)

-- and fit where no pick is open
abbrev pub QueriesFit : Type 0
QueriesFit =
    (around : Surroundings) (handlers : List (List Act)) →
    All (λ acts. Fits around (body_of acts) []) handlers → All (QueryFits around []) (queries_of handlers)
