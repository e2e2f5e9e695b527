use Rattle.std.proofs.Common.{leb, leb-true, arith, rules}
use Rattle.std.proofs.lemmas.Bool.{leb-false}
use Rattle.std.proofs.lemmas.List.Sorted.{IsPartitionPoint-from_clause, IsPartitionedBy-leb}
use Rattle.query_tables.specs.Spots.{group_seen}
use Rattle.query_tables.proofs.sites.end_of.Goals as goal

pub returns-clause-before : goal.returns-clause-before
returns-clause-before c k d less =
    let parted = IsPartitionedBy-leb group_seen _ (group_seen c.args.first) c.requires in
    let point =
    IsPartitionPoint-from_clause (λ spot. leb (group_seen spot) (group_seen c.args.first)) _ _
    c.partition_point.ensures.partitioned parted (λ a r q k. search rules) in
    leb-true _ _ (point.0 k d (omega arith) less)

pub returns-clause-behind : goal.returns-clause-behind
returns-clause-behind c k d from less =
    let parted = IsPartitionedBy-leb group_seen _ (group_seen c.args.first) c.requires in
    let point =
    IsPartitionPoint-from_clause (λ spot. leb (group_seen spot) (group_seen c.args.first)) _ _
    c.partition_point.ensures.partitioned parted (λ a r q k. search rules) in
    leb-false _ _ (point.1 k d from less)
