-- How queries are gathered: each that is asked goes behind those so far, unless it is among them or there are as many as
-- there may be.
use Rattle.std.specs.Prelude.{ℕ, Bool, true, List, [], ◌∷◌, ◌++◌, Option, Some, None, nat_lt, length, fold}
use Rattle.std.specs.Prelude.{if◌then◌else◌}
use Rattle.std.specs.List.{flat_map, list_any}
use Rattle.box_handlers.specs.declared.act.Act.{Act}
use Rattle.box_handlers.specs.declared.act.Query.{Query}
use Rattle.box_handlers.specs.Body.{body_of}
use Rattle.box_handlers.specs.Queries.{asked_by, same_query}

abbrev pub put_once : List Query → Query → List Query
put_once queries query = if list_any (λ other. same_query other query) queries then queries else queries ++ query ∷ []

-- there may be more of them
abbrev pub has_room : Option ℕ → List Query → Bool
has_room None queries = true
has_room (Some most) queries = nat_lt (length queries) most

abbrev pub with_query : Option ℕ → List Query → Query → List Query
with_query most queries query = if has_room most queries then put_once queries query else queries

abbrev pub with_queries : Option ℕ → List Query → List Query → List Query
with_queries most queries asked = fold (with_query most) queries asked

-- what handlers ask, in their order
abbrev pub asked_by_handlers : List (List Act) → List Query
asked_by_handlers handlers = flat_map (λ acts. asked_by (body_of acts) []) handlers
