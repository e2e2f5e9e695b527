use Rattle.std.proofs.Common.{leb, rules}
use Rattle.std.proofs.lemmas.Bool.{leb-false}
use Rattle.std.proofs.lemmas.List.Sorted.{IsPartitionPoint-from_clause, IsPartitionedBy-leb}
use Rattle.query_tables.specs.Tables.{key_of, key_seen}
use Rattle.query_tables.proofs.search.place_behind.Goals as goal

pub returns-clause-behind : goal.returns-clause-behind
returns-clause-behind c k d from less =
    let parted = IsPartitionedBy-leb key_seen _ (key_of c.args.entry) c.requires in
    let point =
    IsPartitionPoint-from_clause (λ site. leb (key_seen site) (key_of c.args.entry)) _ _
    c.partition_point.ensures.partitioned parted (λ a r q k. search rules) in
    leb-false _ _ (point.1 k d from less)
