use Rattle.std.proofs.Common.{◌≡◌, ◌+◌, All, drop}
use Rattle.toml.specs.View.{items_view}
use Rattle.toml_fields.proofs.Gathered.{behind}
use Rattle.toml_fields.specs.Tables.{rows_from}
use Rattle.property_book.specs.Book.{IsAsked, property_of}
use Rattle.property_book.proofs.book.properties.Given as goal

abbrev pub invariant-loop-i : goal.invariant-loop-i
invariant-loop-i l = All IsAsked l.all × (behind l.all (rows_from property_of (l.i + 1) (items_view (drop l.i l.tables))) ≡ rows_from property_of 1 (items_view l.tables))
