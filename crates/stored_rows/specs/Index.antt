-- Which review is merged as which head, as a list: at each place the number of the review merged as the head one
-- above the place, and 0 where there is none.
use Rattle.std.specs.Prelude.{ℕ, ◌+◌, ◌≡◌, ◌<◌, List, Option, Some, None, length, find, slice_index_or}
use Rattle.desk_tables.specs.Tables.{has_head, number_in}
use Rattle.desk_tables.specs.declared.rows.ReviewRow.{ReviewRow}
use Rattle.desk_tables.specs.declared.rows.PolicyRow.{PolicyRow}
use Rattle.desk_tables.specs.declared.rows.FileRow.{FileRow}
use Rattle.desk_tables.specs.declared.rows.CertificateRow.{CertificateRow}

abbrev pub or_zero : Option ℕ → ℕ
or_zero None = 0
or_zero (Some n) = n

abbrev pub Indexes : List ℕ → List ReviewRow → Type 0
Indexes numbers rows = (at : ℕ) → at < length numbers → slice_index_or numbers at 0 ≡ or_zero (number_in (find (has_head (at + 1)) rows))

-- the bytes that a row keeps
abbrev pub file_size : FileRow → ℕ
file_size f = length f.name + length f.body

abbrev pub book_size : PolicyRow → ℕ
book_size p = length p.book

abbrev pub report_size : CertificateRow → ℕ
report_size c = length c.report
