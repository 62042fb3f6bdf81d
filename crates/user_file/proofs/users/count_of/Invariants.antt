use Rattle.std.proofs.Common.{◌≡◌, ◌≤◌, ◌+◌, drop}
use Rattle.toml.specs.View.{items_view}
use Rattle.user_file.specs.Users.{count_of}
use Rattle.user_file.proofs.users.count_of.Given as goal

abbrev pub invariant-loop-value : goal.invariant-loop-value
invariant-loop-value l = record {
  value : l.count + count_of l.word (items_view (drop l.value-index l.values)) ≡ count_of l.word (items_view l.values);
  few : l.count ≤ l.value-index;
}
