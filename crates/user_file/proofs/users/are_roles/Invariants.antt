use Rattle.std.proofs.Common.{◌≡◌, drop}
use Rattle.toml.specs.View.{items_view}
use Rattle.user_file.specs.Users.{are_roles}
use Rattle.user_file.proofs.users.are_roles.Given as goal

abbrev pub invariant-loop-value : goal.invariant-loop-value
invariant-loop-value l = are_roles (items_view l.values) ≡ are_roles (items_view (drop l.value-index l.values))
