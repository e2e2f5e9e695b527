use Rattle.std.proofs.Common.{ℕ, ltb, arith, rules}
use Rattle.std.proofs.lemmas.Bool.{ltb-true, ltb-false}
use Rattle.std.proofs.lemmas.List.Sorted.{IsPartitionPoint-from_clause, IsPartitionedBy-ltb}
use Rattle.query_tables.proofs.search.place_from.Goals as goal

pub returns-clause-before : goal.returns-clause-before
returns-clause-before c k d less =
    let parted = IsPartitionedBy-ltb (λ (n : ℕ). n) _ c.args.from c.requires in
    let point =
    IsPartitionPoint-from_clause (λ n. ltb n c.args.from) _ _ c.partition_point.ensures.partitioned parted
    (λ a r q k. search rules) in
    ltb-true _ _ (point.0 k d (omega arith) less)

pub returns-clause-behind : goal.returns-clause-behind
returns-clause-behind c k d from less =
    let parted = IsPartitionedBy-ltb (λ (n : ℕ). n) _ c.args.from c.requires in
    let point =
    IsPartitionPoint-from_clause (λ n. ltb n c.args.from) _ _ c.partition_point.ensures.partitioned parted
    (λ a r q k. search rules) in
    ltb-false _ _ (point.1 k d from less)
