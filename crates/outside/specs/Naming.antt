-- What a list of named calls means as a map.
use Rattle.std.specs.Prelude.{ℕ, List, Option, map}
use Rattle.std.specs.Ordering.{nat_cmp}
use Rattle.std.specs.FinMap.{from_entries, find}
use Rattle.outside.specs.declared.failing.Named.{Named}
use Rattle.outside.specs.Failing.{NamedCalls}

-- a named call as its number and how many bytes it keeps
abbrev pub naming_of : Named → ℕ × ℕ
naming_of named = (named.call, named.kept)

-- the calls of a list, in which the first naming of a call counts
abbrev pub named_calls : List Named → NamedCalls
named_calls named = from_entries (map naming_of named)

-- how many bytes the first naming of a call keeps
abbrev pub first_naming : List Named → ℕ → Option ℕ
first_naming named call = find nat_cmp call (map naming_of named)
