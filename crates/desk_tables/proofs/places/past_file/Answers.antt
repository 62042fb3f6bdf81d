use Rattle.std.proofs.Common.{rules, nat_le}
use Rattle.std.proofs.lemmas.List.Sorted.{IsPartitionPoint-from_clause}
use Rattle.desk_tables.specs.Tables.{file_key}
use Rattle.desk_tables.proofs.TableLemmas.{splits, up_to_parts}
use Rattle.desk_tables.proofs.places.past_file.Goals as goal

pub returns : goal.returns
returns c = splits _ _ _ c.partition_point.ensures.bound (IsPartitionPoint-from_clause (λ a. nat_le a.review c.args.review) c.args.rows.now c.partition_point.result c.partition_point.ensures.partitioned (up_to_parts file_key _ c.args.rows.now c.requires) (λ a r g called. search rules))
