use Rattle.std.proofs.Common.{◌≡◌, ◌++◌, drop}
use Rattle.std.specs.List.{flat_map}
use Rattle.topology.specs.Communities.{list_values}
use Rattle.topology.proofs.communities.push_list.Given as goal

abbrev pub invariant-loop-entry : goal.invariant-loop-entry
invariant-loop-entry l = l.all.items ++ flat_map (λ entry. entry.values) (drop l.entry-index l.entry-items) ≡ l.fn.all.items ++ list_values l.list
