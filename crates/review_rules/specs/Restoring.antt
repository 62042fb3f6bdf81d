-- What stored rows and users make: a desk of them, or the first row that is not valid.
use Rattle.std.specs.Prelude.{◌≡◌, List, Some, None, Result, Ok, Err}
use Rattle.desk_tables.specs.declared.rows.Rows.{Rows}
use Rattle.desk_tables.specs.declared.rows.User.{User}
use Rattle.stored_rows.specs.Stored.{first_bad_row}
use Rattle.review_rules.specs.State.{Held}
use Rattle.review_rules.specs.declared.restoring.RestoreRefusal.{RestoreRefusal}
use Rattle.review_rules.specs.declared.restoring.RestoreRefusal.TheVariants.{BadRow, NoMemory}

abbrev pub Restores : List User → Rows → Result Held RestoreRefusal → Type 0
Restores users rows (Ok desk) = (first_bad_row rows ≡ None) × (desk.state ≡ record { users = users; tables = rows })
Restores users rows (Err (BadRow table row)) = first_bad_row rows ≡ Some (table, row)
Restores users rows (Err NoMemory) = Unit {0}
