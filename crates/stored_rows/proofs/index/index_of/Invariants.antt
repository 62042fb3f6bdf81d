use Rattle.std.proofs.Common.{◌≡◌, ◌-◌, length, drop, count_by}
use Rattle.desk_tables.specs.Tables.{is_merged}
use Rattle.stored_rows.specs.Index.{Indexes}
use Rattle.stored_rows.proofs.index.index_of.Given as goal

abbrev pub invariant-loop-i : goal.invariant-loop-i
invariant-loop-i l = record {
  long : length l.numbers.items ≡ count_by is_merged l.rows;
  index : Indexes l.numbers.items (drop (length l.rows - l.i) l.rows);
}
