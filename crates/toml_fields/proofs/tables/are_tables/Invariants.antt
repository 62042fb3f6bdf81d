use Rattle.std.proofs.Common.{◌≡◌, drop}
use Rattle.toml.specs.View.{items_view}
use Rattle.toml_fields.specs.Tables.{are_tables}
use Rattle.toml_fields.proofs.tables.are_tables.Given as goal

abbrev pub invariant-loop-value : goal.invariant-loop-value
invariant-loop-value l = are_tables (items_view l.items) ≡ are_tables (items_view (drop l.value-index l.items))
