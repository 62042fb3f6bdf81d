use Rattle.std.proofs.Common.{rules}
use Rattle.std.proofs.lemmas.List.Sorted.{IsPartitionPoint-from_clause}
use Rattle.desk_tables.specs.Order.{before, texts_cmp}
use Rattle.desk_tables.specs.Tables.{kept_key}
use Rattle.desk_tables.specs.Kept.{passes_at}
use Rattle.desk_tables.proofs.KeptLemmas.{before_at, splits_at}
use Rattle.desk_tables.proofs.kept.place_in.Goals as goal

pub returns-clause-split : goal.returns-clause-split
returns-clause-split c =
    let test = before texts_cmp kept_key (c.args.user.now, c.args.key.now) in
    splits_at test c.args.rows.now c.args.order.now c.partition_point.result c.requires.within c.partition_point.ensures.bound (IsPartitionPoint-from_clause (passes_at test c.args.rows.now) c.args.order.now c.partition_point.result c.partition_point.ensures.partitioned (before_at c.args.rows.now c.args.order.now c.args.user.now c.args.key.now c.requires) (λ a r g called. search rules))
