use Rattle.std.proofs.Common.{rules}
use Rattle.std.proofs.lemmas.List.Sorted.{IsNonDecreasingBy-from_sort_by_key}
use Rattle.query_tables.specs.Spots.{key_spotted}
use Rattle.query_tables.proofs.spots.sort.Goals as goal

pub returns-clause-rising : goal.returns-clause-rising
returns-clause-rising c =
    IsNonDecreasingBy-from_sort_by_key key_spotted _ c.sort_unstable_by_key.ensures.sorted (λ a r q k. search rules)
