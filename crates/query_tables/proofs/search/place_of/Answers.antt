use Rattle.std.proofs.Common.{ltb, arith, rules}
use Rattle.std.proofs.lemmas.Bool.{ltb-true}
use Rattle.std.proofs.lemmas.List.Sorted.{IsPartitionPoint-from_clause, IsPartitionedBy-ltb}
use Rattle.query_tables.specs.Tables.{key_of, key_seen}
use Rattle.query_tables.proofs.search.place_of.Goals as goal

pub returns-clause-before : goal.returns-clause-before
returns-clause-before c k d less =
    let parted = IsPartitionedBy-ltb key_seen _ (key_of c.args.entry) c.requires in
    let point =
    IsPartitionPoint-from_clause (λ site. ltb (key_seen site) (key_of c.args.entry)) _ _
    c.partition_point.ensures.partitioned parted (λ a r q k. search rules) in
    ltb-true _ _ (point.0 k d (omega arith) less)
