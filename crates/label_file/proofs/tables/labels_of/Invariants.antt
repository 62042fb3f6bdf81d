use Rattle.std.proofs.Common.{◌≡◌, ◌+◌, drop}
use Rattle.toml.specs.View.{items_view}
use Rattle.toml_fields.proofs.Gathered.{behind}
use Rattle.toml_fields.specs.Tables.{rows_from}
use Rattle.label_file.specs.Tables.{label_of}
use Rattle.label_file.proofs.tables.labels_of.Given as goal

abbrev pub invariant-loop-i : goal.invariant-loop-i
invariant-loop-i l = behind l.all (rows_from (label_of l.net) (l.i + 1) (items_view (drop l.i l.tables))) ≡ rows_from (label_of l.net) 1 (items_view l.tables)
