use Rattle.std.proofs.Common.{◌≡◌, ◌++◌, map, drop}
use Rattle.desk_tables.specs.Tables.{source_of}
use Rattle.desk_tables.proofs.inserts.source_files.Given as goal

abbrev pub invariant-loop-row : goal.invariant-loop-row
invariant-loop-row l = l.files ++ map source_of (drop l.row-index l.rows) ≡ map source_of l.rows
