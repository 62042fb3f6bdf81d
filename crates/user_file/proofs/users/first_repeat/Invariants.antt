use Rattle.std.proofs.Common.{◌≡◌, ◌+◌, [], drop, take}
use Rattle.toml_fields.specs.Tables.{first_repeat}
use Rattle.user_file.specs.Users.{is_same_user}
use Rattle.user_file.proofs.users.first_repeat.Given as goal

abbrev pub invariant-loop-i : goal.invariant-loop-i
invariant-loop-i l = first_repeat is_same_user 1 [] l.users ≡ first_repeat is_same_user (l.i + 1) (take l.i l.users) (drop l.i l.users)
