use Rattle.std.proofs.Common.{◌≡◌, ◌+◌, [], drop, take}
use Rattle.toml_fields.specs.Tables.{first_repeat}
use Rattle.label_file.specs.Tables.{is_same_router}
use Rattle.label_file.proofs.tables.first_repeat.Given as goal

abbrev pub invariant-loop-i : goal.invariant-loop-i
invariant-loop-i l = first_repeat is_same_router 1 [] l.labels ≡ first_repeat is_same_router (l.i + 1) (take l.i l.labels) (drop l.i l.labels)
