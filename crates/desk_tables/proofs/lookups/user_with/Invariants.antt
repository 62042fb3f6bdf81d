use Rattle.std.proofs.Common.{◌≡◌, drop}
use Rattle.desk_tables.specs.Tables.{user_of}
use Rattle.desk_tables.proofs.lookups.user_with.Given as goal

abbrev pub invariant-loop-user : goal.invariant-loop-user
invariant-loop-user l = user_of (drop l.user-index l.users) l.token ≡ user_of l.users l.token
