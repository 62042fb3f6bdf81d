use Rattle.std.proofs.Common.{rules, nat_lt}
use Rattle.std.proofs.lemmas.List.Sorted.{IsPartitionPoint-from_clause}
use Rattle.desk_tables.specs.Tables.{approval_key}
use Rattle.desk_tables.proofs.TableLemmas.{splits, lower_parts}
use Rattle.desk_tables.proofs.places.first_approval.Goals as goal

pub returns : goal.returns
returns c = splits _ _ _ c.partition_point.ensures.bound (IsPartitionPoint-from_clause (λ a. nat_lt a.review c.args.review) c.args.rows.now c.partition_point.result c.partition_point.ensures.partitioned (lower_parts approval_key _ c.args.rows.now c.requires) (λ a r g called. search rules))
