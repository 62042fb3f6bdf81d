use Rattle.std.proofs.Common.{◌≡◌, ◌+◌, ◌≤◌, length, vec_len, vec_capacity}
use Rattle.std.specs.Vec.Iter.{into_iter_items, into_iter_len}
use Rattle.desk_tables.specs.Order.{Ascends, numbered_cmp}
use Rattle.desk_tables.specs.Tables.{file_key}
use Rattle.review_rules.specs.Changes.{put_all}
use Rattle.desk_keeper.proofs.making.put_files.Given as goal

abbrev pub invariant-loop-file : goal.invariant-loop-file
invariant-loop-file l = (put_all (into_iter_items l.file-iterator) l.rows.items ≡ put_all l.fn.files l.fn.rows.items)
    × Ascends numbered_cmp file_key l.rows.items
    × (vec_len l.rows + length (into_iter_items l.file-iterator) ≤ vec_capacity l.rows)
    × (into_iter_len l.file-iterator ≡ length (into_iter_items l.file-iterator))
