use Rattle.std.proofs.Common.{leb, arith, rules}
use Rattle.std.proofs.lemmas.List.Sorted.{IsPartitionPoint-from_clause, IsPartitionedBy-leb}
use Rattle.cp_log_rules.proofs.InForce.{count_found}
use Rattle.cp_log.proofs.row.count_up_to.Goals as goal

pub returns : goal.returns
returns c =
    let parted = IsPartitionedBy-leb (λ config. config.index) _ c.args.index c.requires in
    let point = IsPartitionPoint-from_clause (λ config. leb config.index c.args.index) _ _ c.partition_point.ensures.partitioned parted (λ a r q k. search rules) in
    count_found c.args.index c.args.configs.now.items c.partition_point.result point (omega arith)
