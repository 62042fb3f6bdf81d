use Rattle.std.proofs.Common.{rules}
use Rattle.std.proofs.lemmas.List.Sorted.{IsPartitionPoint-from_clause}
use Rattle.desk_tables.specs.Order.{before, numbered_cmp}
use Rattle.desk_tables.specs.Tables.{file_key}
use Rattle.desk_tables.proofs.TableLemmas.{splits, before_parts, numbered_total}
use Rattle.desk_keeper.proofs.puts.file_place.Goals as goal

pub returns : goal.returns
returns c = splits _ _ _ c.partition_point.ensures.bound (IsPartitionPoint-from_clause (before numbered_cmp file_key (c.args.review, c.args.name.now)) c.args.rows.now c.partition_point.result c.partition_point.ensures.partitioned (before_parts numbered_cmp file_key _ numbered_total c.args.rows.now c.requires) (λ a r g called. search rules))
