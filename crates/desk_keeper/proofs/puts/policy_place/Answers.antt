use Rattle.std.proofs.Common.{rules}
use Rattle.std.proofs.lemmas.List.Sorted.{IsPartitionPoint-from_clause}
use Rattle.desk_tables.specs.Order.{before}
use Rattle.std.specs.Ordering.{nat_cmp}
use Rattle.std.proofs.lemmas.Cmp.{nat_cmp_total}
use Rattle.desk_tables.specs.Tables.{policy_key}
use Rattle.desk_tables.proofs.TableLemmas.{splits, before_parts}
use Rattle.desk_keeper.proofs.puts.policy_place.Goals as goal

pub returns : goal.returns
returns c = splits _ _ _ c.partition_point.ensures.bound (IsPartitionPoint-from_clause (before nat_cmp policy_key c.args.version) c.args.rows.now c.partition_point.result c.partition_point.ensures.partitioned (before_parts nat_cmp policy_key _ nat_cmp_total c.args.rows.now c.requires) (λ a r g called. search rules))
