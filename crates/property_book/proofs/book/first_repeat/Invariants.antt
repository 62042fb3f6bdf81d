use Rattle.std.proofs.Common.{◌≡◌, ◌+◌, [], drop, take}
use Rattle.toml_fields.specs.Tables.{first_repeat}
use Rattle.property_book.specs.Book.{is_same_name}
use Rattle.property_book.proofs.book.first_repeat.Given as goal

abbrev pub invariant-loop-i : goal.invariant-loop-i
invariant-loop-i l = first_repeat is_same_name 1 [] l.properties ≡ first_repeat is_same_name (l.i + 1) (take l.i l.properties) (drop l.i l.properties)
