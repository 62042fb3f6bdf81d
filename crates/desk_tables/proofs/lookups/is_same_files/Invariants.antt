use Rattle.std.proofs.Common.{◌≡◌, drop}
use Rattle.desk_tables.specs.Tables.{same_files}
use Rattle.desk_tables.proofs.lookups.is_same_files.Given as goal

abbrev pub invariant-loop-i : goal.invariant-loop-i
invariant-loop-i l = same_files (drop l.i l.rows) (drop l.i l.files) ≡ same_files l.rows l.files
