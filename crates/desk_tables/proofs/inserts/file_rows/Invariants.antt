use Rattle.std.proofs.Common.{◌≡◌, ◌++◌, map, drop}
use Rattle.desk_tables.specs.Tables.{file_row}
use Rattle.desk_tables.proofs.inserts.file_rows.Given as goal

abbrev pub invariant-loop-file : goal.invariant-loop-file
invariant-loop-file l = l.rows ++ map (file_row l.review) (drop l.file-index l.files) ≡ map (file_row l.review) l.files
