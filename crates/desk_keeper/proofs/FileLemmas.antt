-- Files stay in the order of their keys where one is put in its place.
use Rattle.std.proofs.Common.{List}
use Rattle.desk_tables.specs.declared.rows.FileRow.{FileRow}
use Rattle.desk_tables.specs.Order.{Ascends, numbered_cmp, put}
use Rattle.desk_tables.specs.Tables.{file_key}
use Rattle.desk_tables.proofs.PutLemmas.{ascends_put}
use Rattle.desk_tables.proofs.TableLemmas.{numbered_total}

pub files_ascend : (row : FileRow) (xs : List FileRow) → Ascends numbered_cmp file_key xs → Ascends numbered_cmp file_key (put numbered_cmp file_key row xs)
files_ascend row xs up = ascends_put numbered_cmp file_key row numbered_total xs up
