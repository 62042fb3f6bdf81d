use Rattle.std.proofs.Common.{◌≡◌, ◌+◌, drop}
use Rattle.toml.specs.View.{items_view}
use Rattle.toml_fields.proofs.Gathered.{behind}
use Rattle.toml_fields.specs.Tables.{rows_from}
use Rattle.user_file.specs.Users.{user_in}
use Rattle.user_file.proofs.users.users.Given as goal

abbrev pub invariant-loop-i : goal.invariant-loop-i
invariant-loop-i l = behind l.all (rows_from user_in (l.i + 1) (items_view (drop l.i l.tables))) ≡ rows_from user_in 1 (items_view l.tables)
